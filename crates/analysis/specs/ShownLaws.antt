-- Laws of the records that an answer buffer receives.
use Rattle.std.specs.Prelude.{ℕ, ◌≤◌, ◌<◌, ◌≡◌, refl, Bool, true, false, cond, List, [], ltb, length}
use Rattle.std.proofs.Common.{lt-ltb, le-ltb}
use Rattle.specification.specs.Bytes.{Written}
use Rattle.specification.specs.Answers.{least_room}
use Rattle.records.specs.WrittenLaws.{written_none}
use Rattle.analysis.specs.Decided.{shown_in}

-- one that is too short receives none
pub shown_short : (xs before : List ℕ) → length before < least_room → Written (shown_in (length before) xs) before before 0
unfolding shown_in
shown_short xs before h = rw (lt-ltb (length before) least_room h) (written_none before)

-- any other receives all
pub shown_all : (room : ℕ) (xs : List ℕ) → least_room ≤ room → shown_in room xs ≡ xs
unfolding shown_in
shown_all room xs h = rw (le-ltb room least_room h)

-- of no records, none, whatever the room
pub shown_none : (before : List ℕ) → Written (shown_in (length before) []) before before 0
unfolding shown_in
shown_none before = rw (by (ltb (length before) least_room)) (written_none before)
  where
    by : (short : Bool) → ◌≡◌ {A = List ℕ} (cond short [] []) []
    by true = refl
    by false = refl
