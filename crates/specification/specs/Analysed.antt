-- What the analysis of a byte string promises.
use Rattle.std.specs.Prelude.{ℕ, ◌^◌, ◌<◌, ◌≡◌, List, length}
use Rattle.specification.specs.Table.{Table, IsPort, IsBuffer}
use Rattle.specification.specs.Reading.{read_table}
use Rattle.specification.specs.Bytes.{Written}
use Rattle.specification.specs.Answers.{Timing, Answer, refused, disagreeing, overweight, blocked, no_least, consistent, number, records, AnswerOf, answer_place}
use Rattle.specification.specs.declared.Outcome.{Outcome}

-- each number that is returned of a consistent model fits its field
pub record FieldsFit (t : Table) (r : Timing) : Type 0 where
  pub component : (p : ℕ) → IsPort t p → r.component p < 2 ^ 16
  pub weight : (p : ℕ) → IsPort t p → r.weight p < 2 ^ 16
  pub a : (p : ℕ) → IsPort t p → r.a p < 2 ^ 32
  pub b : (p : ℕ) → IsPort t p → r.b p < 2 ^ 32
  pub start : (p : ℕ) → IsPort t p → r.start p < 2 ^ 64
  pub size : (k : ℕ) → IsBuffer t k → r.size k < 2 ^ 64

abbrev pub Fits : Table → Answer → Type 0
Fits t (refused n) = Unit {0}
Fits t (disagreeing loop) = Unit {0}
Fits t overweight = Unit {0}
Fits t (blocked floor block) = Unit {0}
Fits t no_least = Unit {0}
Fits t (consistent r) = FieldsFit t r

-- a right answer: its number is returned with its place, its records stand at the front of the answer buffer, and the rest is unchanged
pub record Analysed (s before after : List ℕ) (r : Outcome) : Type 0 where
  pub answer : Answer
  pub right : AnswerOf s (length before) answer
  pub number_is : r.number ≡ number answer
  pub place_is : r.place ≡ answer_place s (length before)
  pub records_are : Written (records (read_table s).table answer) before after r.written
  pub fits : Fits (read_table s).table answer
