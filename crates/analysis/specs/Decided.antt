-- What the analysis of a table promises.
use Rattle.std.specs.Prelude.{ℕ, ◌≡◌, cond, List, [], ltb, length}
use Rattle.specification.specs.Bytes.{Written}
use Rattle.specification.specs.Table.{Table}
use Rattle.specification.specs.Answers.{Answer, number, records, Right, least_room}
use Rattle.specification.specs.Analysed.{Fits}
use Rattle.specification.specs.declared.Outcome.{Outcome}

-- the records that an answer buffer of so many bytes receives: none where it is too short
unfoldable pub shown_in : (room : ℕ) → List ℕ → List ℕ
shown_in room xs = cond (ltb room least_room) [] xs

-- a right answer to a table: its number is returned, with place 0 since it concerns no record, its records stand at the front of the answer buffer unless that is too short, and the rest is unchanged
pub record Decided (t : Table) (before after : List ℕ) (r : Outcome) : Type 0 where
  pub answer : Answer
  pub right : Right t answer
  pub number_is : r.number ≡ number answer
  pub place_is : r.place ≡ 0
  pub records_are : Written (shown_in (length before) (records t answer)) before after r.written
  pub fits : Fits t answer
