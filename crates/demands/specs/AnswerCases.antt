-- The ways to an answer to a byte string.
use Rattle.std.specs.Prelude.{ℕ, ◌≤◌, ◌<◌, ◌≡◌, refl, ◌≢◌, List}
use Rattle.std.proofs.Common.{⊎_elim}
use Rattle.std.proofs.Math.Decide.{ℕ_discrete}
use Rattle.numbers.specs.ListLaws.{lt_or_le}
use Rattle.table.specs.WellFormed.{WellFormed}
use Rattle.specification.specs.Reading.{read_table}
use Rattle.table.specs.ReadingLaws.{well_formed}
use Rattle.specification.specs.Answers.{Answer, refused, Right, least_room, AnswerOf}

-- the answer buffer is short, the table is faulty, or the answer is right for a well-formed table
pub data AnswerCase (s : List ℕ) (room : ℕ) : Answer → Type 0 where
  short : room < least_room → AnswerCase s room (refused 1)
  faulty : least_room ≤ room → (read_table s).number ≢ 0 → AnswerCase s room (refused (read_table s).number)
  formed : {x : Answer} → least_room ≤ room → (read_table s).number ≡ 0 → WellFormed (read_table s).table → Right (read_table s).table x
      → AnswerCase s room x

pub answer_case : {s : List ℕ} {room : ℕ} {x : Answer} → AnswerOf s room x → AnswerCase s room x
answer_case {s} {room} {x} a = ⊎_elim
    (λ (l : room < least_room). rw (a.short l) (short l))
    (λ (l : least_room ≤ room). read l (ℕ_discrete (read_table s).number 0))
    (lt_or_le room least_room)
  where
    read : least_room ≤ room → Dec ((read_table s).number ≡ 0) → AnswerCase s room x
    read l (yes e) = formed l e (well_formed s refl e) (a.right l e)
    read l (no f) = rw (a.faulty l f) (faulty l f)
