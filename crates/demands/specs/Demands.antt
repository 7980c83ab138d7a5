-- Demand 2 as a statement about the answers of a table, and what is the same in all its right answers.
use Rattle.std.specs.Prelude.{◌≤◌, ◌≡◌, ◌≢◌, ◌⊎◌, length}
use Rattle.specification.specs.Table.{Table}
use Rattle.specification.specs.Answers.{Timing, Answer, consistent, number, records, least_room}
use Rattle.specification.specs.Solutions.{Solution, LeastSolution, NoLeastSolution}

module _ (t : Table) where
  -- a solution exists exactly when the number is 0 or 17, number 14 aside; at 17 none is the least
  pub record Demand2 (x : Answer) : Type 0 where
    pub solved : (number x ≡ 0) ⊎ (number x ≡ 17) → Solution t
    pub only : Solution t → number x ≢ 14 → (number x ≡ 0) ⊎ (number x ≡ 17)
    pub least : (r : Timing) → x ≡ consistent r → LeastSolution t r
    pub no_least_lem : number x ≡ 17 → NoLeastSolution t

  -- nothing is left to the builder but which loop, floor or block is shown
  pub record SameAnswer (x y : Answer) : Type 0 where
    pub same_number : number x ≡ number y
    pub same_records : number x ≢ 13 → number x ≢ 15 → records t x ≡ records t y

  -- the least answer buffer suffices
  pub record FitsRoom (x : Answer) : Type 0 where
    pub fits : length (records t x) ≤ least_room
