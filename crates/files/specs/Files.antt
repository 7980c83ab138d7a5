-- The three files of a join, read in turn, and the line of those that make none.
use Rattle.std.specs.Prelude.{Option, Some, None, ℕ, ◌≤◌, Bool, true, false, cond, List, [], eqb, length, take}
use Rattle.specification.specs.Joining.{Join, join_of}
use Rattle.input.specs.Input.{has_failed, read_whole, stop_of, read_failed}
use Rattle.text.specs.Lines.{answer_line, not_whole_line}
use Rattle.input.specs.declared.Input.{Input}
use Rattle.input.specs.declared.Stop.{Stop}
use Rattle.input.specs.declared.filled.Filled.{Filled}
use Rattle.files.specs.declared.InTurn.{InTurn}

-- what was read of a file, and whether a read of it failed, as where it cannot be opened
pub record File : Type 0 where
  pub bytes : List ℕ
  pub failed : Bool

abbrev pub file_of : (space : List ℕ) → Input → File
file_of space read = record { bytes = take read.count space; failed = has_failed read.end }

abbrev pub file_in : Filled → File
file_in f = file_of f.space.now f.read

-- ---- in turn
-- a file in its turn: it was read whole, and so were those before it
unfoldable pub whole_file : (before failed : Bool) (count : ℕ) → Bool
whole_file before failed count = cond before (read_whole failed count) false

-- whether a read failed of the first file that was not read whole
unfoldable pub stop_failed : (first_whole first_failed second_whole second_failed added_failed : Bool) → Bool
stop_failed first_whole first_failed second_whole second_failed added_failed =
    cond first_whole (cond second_whole added_failed second_failed) first_failed

-- why the first file that was not read whole was not, where there is one
abbrev pub stopped_of : (whole failed : Bool) → Option Stop
stopped_of whole failed = cond whole None (Some (stop_of failed))

-- whether there is none
abbrev pub all_whole : Option Stop → Bool
all_whole None = true
all_whole (Some stop) = false

-- whether a read of it failed
abbrev pub is_unread : Option Stop → Bool
is_unread None = false
is_unread (Some stop) = read_failed stop

-- by how the reading of each ended
unfoldable pub in_turn : (first second added : Input) → InTurn
in_turn first second added =
    let first_whole = whole_file true (has_failed first.end) first.count in
    let second_whole = whole_file first_whole (has_failed second.end) second.count in
    let added_whole = whole_file second_whole (has_failed added.end) added.count in
    record {
      first = cond first_whole first.count 0;
      second = cond second_whole second.count 0;
      added = cond added_whole added.count 0;
      stopped = stopped_of added_whole (stop_failed first_whole (has_failed first.end) second_whole (has_failed second.end) (has_failed added.end));
    }

-- no more is given of a file than was read
pub record GivenAtMost (first second added : Input) (r : InTurn) : Type 0 where
  pub first_most : r.first ≤ first.count
  pub second_most : r.second ≤ second.count
  pub added_most : r.added ≤ added.count

-- bytes where the files were read whole, else none
unfoldable pub given : (whole : Bool) → List ℕ → List ℕ
given whole s = cond whole s []

-- the room for every line
abbrev pub line_room : ℕ
line_room = 52

-- a fault's number and place; else the line of the first file that was not read whole; else none
unfoldable pub line_of : (number place : ℕ) (whole failed : Bool) → List ℕ
line_of number place whole failed = cond (eqb number 0) (cond whole [] (not_whole_line failed)) (answer_line number place)

module _ (first second added : File) where
  abbrev pub first_whole : Bool
  first_whole = whole_file true first.failed (length first.bytes)

  abbrev pub second_whole : Bool
  second_whole = whole_file first_whole second.failed (length second.bytes)

  abbrev pub added_whole : Bool
  added_whole = whole_file second_whole added.failed (length added.bytes)

  -- a file that was not read whole, and those behind it, count as empty: a fault of a file before it is found, and none behind it
  abbrev pub join_files : Join
  join_files = join_of (given first_whole first.bytes) (given second_whole second.bytes) (given added_whole added.bytes)

  abbrev pub join_line : List ℕ
  join_line =
      let j = join_files in
      let failed = stop_failed first_whole first.failed second_whole second.failed added.failed in
      line_of j.number j.place added_whole failed
