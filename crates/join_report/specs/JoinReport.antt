-- What the join program writes of three files: the joined table to standard output, and a line to standard error where there is none.
use Rattle.std.specs.Prelude.{ℕ, ◌≤◌, ◌≡◌, List, length, take}
use Rattle.files.specs.Files.{File, given, added_whole, join_files, join_line}
use Rattle.files.specs.declared.Lengths.{Lengths}

-- a refusal has no bytes
abbrev pub join_table : (first second added : File) → List ℕ
join_table first second added = given (added_whole first second added) (join_files first second added).table

-- both stand at the front of their buffers
pub record JoinReported (first second added : File) (out text : List ℕ) (r : Lengths) : Type 0 where
  pub table_is : take r.written out ≡ join_table first second added
  pub table_within : r.written ≤ length out
  pub line_is : take r.line text ≡ join_line first second added
  pub line_within : r.line ≤ length text
