-- The three demands, of what a call of the analysis returned and wrote.
use Rattle.std.specs.Prelude.{ℕ, ◌≤◌, ◌<◌, ◌≡◌, ◌≢◌, ◌⊎◌, List, ◌++◌, length, drop}
use Rattle.specification.specs.Table.{Table}
use Rattle.specification.specs.Reading.{FaultPlace, start, read_table}
use Rattle.specification.specs.Ratios.{Step, DisagreeingLoop, Overweight}
use Rattle.specification.specs.Bytes.{Written, NothingWritten, loop_answer, cycle_answer}
use Rattle.specification.specs.Answers.{Timing, Floor, consistent, records, loop_numbers, floor_record, NoPeriod, NoLeastPeriod, least_room}
use Rattle.specification.specs.Solutions.{Solution, LeastSolution, NoLeastSolution}
use Rattle.specification.specs.Chains.{Demand3}
use Rattle.specification.specs.Analysed.{Analysed, FieldsFit}
use Rattle.specification.specs.declared.Outcome.{Outcome}

-- what was written stands at the front of the answer buffer, and the buffer is else as it was
module _ (t : Table) (before after : List ℕ) (r : Outcome) where
  -- number 0: the records of periods, starts and sizes that are the least solution (demand 2) and bound every chain (demand 3)
  pub record ConsistentCall : Type 0 where
    pub timing : Timing
    pub records_are : Written (records t (consistent timing)) before after r.written
    pub fits : FieldsFit t timing
    pub least : LeastSolution t timing
    pub chains : Demand3 t timing

  -- number 13: the record of a disagreeing loop; no solution exists
  pub record DisagreeingCall : Type 0 where
    pub path : List Step
    pub is_loop : DisagreeingLoop t path
    pub records_are : Written (loop_answer (loop_numbers path)) before after r.written
    pub unsolved : ¬ Solution t

  -- number 15: the records of a floor and of a cycle that blocks; no solution exists
  pub record BlockedCall : Type 0 where
    pub floor : Floor
    pub block : List ℕ
    pub no_period : NoPeriod t floor block
    pub records_are : Written (floor_record floor ++ cycle_answer block) before after r.written
    pub unsolved : ¬ Solution t

-- number 17: every component has periods, some component no least; a solution exists, and none is the least
pub record NoLeastCall (t : Table) : Type 0 where
  pub no_least_period : NoLeastPeriod t
  pub solution : Solution t
  pub no_least_lem : NoLeastSolution t

-- demand 2 calls a table well-formed when its call comes as far as trying 13
pub record WellFormedCall (s before : List ℕ) : Type 0 where
  pub enough : least_room ≤ length before
  pub no_fault : (read_table s).number ≡ 0

-- the numbers of a faulty table: 2 to 11 for a record, 12 for the empty table
pub record TableFault (n : ℕ) : Type 0 where
  pub least : 2 ≤ n
  pub most : n ≤ 12

pub record Demanded (s before after : List ℕ) (r : Outcome) : Type 0 where
  -- demand 1: the first number that fits, and else 0, 13 to 15 or 17
  pub short : length before < least_room → r.number ≡ 1
  pub faulty : least_room ≤ length before → (read_table s).number ≢ 0 → r.number ≡ (read_table s).number
  pub a_fault : least_room ≤ length before → (read_table s).number ≢ 0 → TableFault r.number
  pub listed : WellFormedCall s before → (r.number ≡ 0) ⊎ ((r.number ≡ 13) ⊎ ((r.number ≡ 14) ⊎ ((r.number ≡ 15) ⊎ (r.number ≡ 17))))
  -- the place: 2 to 11 have that of the first faulty record, every other number has 0
  pub place : 2 ≤ r.number → r.number ≤ 11 → FaultPlace s start r.number r.place
  pub no_place : (r.number < 2) ⊎ (11 < r.number) → r.place ≡ 0
  -- 1 to 12, 14 and 17 write nothing; other bytes than the written ones are unchanged
  pub nothing : r.number ≢ 0 → r.number ≢ 13 → r.number ≢ 15 → NothingWritten before after r.written
  pub room : r.written ≤ least_room
  pub same_length : length after ≡ length before
  pub rest : drop r.written after ≡ drop r.written before
  -- nothing is left to the builder but which loop, floor or block is shown
  pub one_number : (after' : List ℕ) (r' : Outcome) → Analysed s before after' r' → (r'.number ≡ r.number) × (r'.place ≡ r.place)
  pub one_answer : (after' : List ℕ) (r' : Outcome) → Analysed s before after' r' → r.number ≢ 13 → r.number ≢ 15
      → (r'.written ≡ r.written) × (after' ≡ after)
  -- demands 2 and 3: each number says whether a solution exists, 14 aside
  pub solved : r.number ≡ 0 → ConsistentCall (read_table s).table before after r
  pub disagreeing : r.number ≡ 13 → DisagreeingCall (read_table s).table before after r
  pub overweight : r.number ≡ 14 → Overweight (read_table s).table
  pub blocked : r.number ≡ 15 → BlockedCall (read_table s).table before after r
  pub no_least_lem : r.number ≡ 17 → NoLeastCall (read_table s).table
  pub only : WellFormedCall s before → Solution (read_table s).table → r.number ≢ 14 → (r.number ≡ 0) ⊎ (r.number ≡ 17)
