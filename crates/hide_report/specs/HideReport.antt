-- What the hide program writes of its argument and its input: the table without the port to standard output, and a line to standard error
-- where there is none.
use Rattle.std.specs.Prelude.{ℕ, ◌≤◌, ◌≡◌, true, false, List, [], ◌∷◌, length, take}
use Rattle.specification.specs.Answers.{Answer, least_room, AnswerOf}
use Rattle.specification.specs.Encoding.{most_table_bytes}
use Rattle.specification.specs.Hiding.{hide_into}
use Rattle.input.specs.Input.{read_whole}
use Rattle.text.specs.Lines.{not_whole_line}
use Rattle.files.specs.Files.{File, line_of}
use Rattle.files.specs.declared.Lengths.{Lengths}
use Rattle.hide_report.specs.PortArgument.{is_number, port_of}

-- "answer no port number"
abbrev pub no_number_line : List ℕ
no_number_line = 97 ∷ 110 ∷ 115 ∷ 119 ∷ 101 ∷ 114 ∷ 32 ∷ 110 ∷ 111 ∷ 32 ∷ 112 ∷ 111 ∷ 114 ∷ 116 ∷ 32 ∷ 110 ∷ 117 ∷ 109 ∷ 98 ∷ 101 ∷ 114 ∷ 10 ∷ []

-- no table, and this line
pub record OnlyLine (due table line : List ℕ) : Type 0 where
  pub table_is : table ≡ []
  pub line_is : line ≡ due

-- hiding port p of table s, with room for every table: the table, none where it is refused, and the line of a refusal. Every right answer
-- of s gives the same
pub record HidesTo (s : List ℕ) (p : ℕ) (table line : List ℕ) : Type 0 where
  pub answer : Answer
  pub right : AnswerOf s least_room answer
  pub table_is : table ≡ (hide_into s answer p most_table_bytes).table
  pub line_is : line ≡ line_of (hide_into s answer p most_table_bytes).number (hide_into s answer p most_table_bytes).place true false

-- by whether the argument is a number, and whether the input was read whole
pub record HideWrites (argument : List ℕ) (f : File) (table line : List ℕ) : Type 0 where
  pub no_number : is_number argument ≡ false → OnlyLine no_number_line table line
  pub not_whole : is_number argument ≡ true → read_whole f.failed (length f.bytes) ≡ false → OnlyLine (not_whole_line f.failed) table line
  pub hides : is_number argument ≡ true → read_whole f.failed (length f.bytes) ≡ true → HidesTo f.bytes (port_of argument) table line

-- both stand at the front of their buffers
pub record TableReported (s : List ℕ) (p : ℕ) (out text : List ℕ) (r : Lengths) : Type 0 where
  pub hides : HidesTo s p (take r.written out) (take r.line text)
  pub table_within : r.written ≤ length out
  pub line_within : r.line ≤ length text

pub record HideReported (argument : List ℕ) (f : File) (out text : List ℕ) (r : Lengths) : Type 0 where
  pub writes : HideWrites argument f (take r.written out) (take r.line text)
  pub table_within : r.written ≤ length out
  pub line_within : r.line ≤ length text
