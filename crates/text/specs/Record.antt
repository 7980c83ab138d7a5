-- The line of a record that was read.
use Rattle.std.specs.Prelude.{ℕ, ◌+◌, ◌/◌, ◌≡◌, true, false, List, length, drop, Option, MatchOption, ◌<◌, ◌≤◌}
use Rattle.specification.specs.Bytes.{number_at}
use Rattle.text.specs.Lines.{port_text, buffer_line, items_line, floor_line, loop_word}
use Rattle.text.specs.Printed.{cycle_word, items_text, port_at, step_at, connection_at, is_record, record_line}
use Rattle.text.specs.declared.record.Record.{Record}
use Rattle.text.specs.declared.record.Record.TheVariants.{Port, Buffer, Loop, Cycle, Floor}

-- what the bytes of a loop's steps print, and of a cycle's connections
abbrev pub steps_text : List ℕ → List ℕ
steps_text s = items_text (step_at s) 4 0 (length s / 4)

abbrev pub connections_text : List ℕ → List ℕ
connections_text s = items_text (connection_at s) 2 0 (length s / 2)

unfoldable pub line_of : Record → (number : ℕ) → List ℕ
line_of (Port component weight period start) number = port_text number component weight period start
line_of (Buffer buffer size) number = buffer_line buffer size
line_of (Loop steps) number = items_line loop_word (steps_text steps.now)
line_of (Cycle connections) number = items_line (cycle_word number) (connections_text connections.now)
line_of (Floor port) number = floor_line port

-- a port at the front of the bytes; none where its b is 0
abbrev pub IsPort : List ℕ → Option Record → Type 0
IsPort s port = MatchOption port (number_at s 12 4 ≡ 0) (λ r. (0 < number_at s 12 4) × ((number : ℕ) → line_of r number ≡ port_at s 0 number))

-- the length that stands at the front of the bytes covers the kind, and reaches no further than the bytes
pub record IsSize (s : List ℕ) (size : ℕ) : Type 0 where
  pub is : size ≡ number_at s 0 2
  pub starts : 2 ≤ size
  pub ends : 2 + size ≤ length s

-- the record at the front of the bytes, whatever its number
pub record Reads (s : List ℕ) (r : Record) : Type 0 where
  pub is : is_record s 0 ≡ true
  pub line : (number : ℕ) → line_of r number ≡ record_line s 0 number

abbrev pub IsRead : List ℕ → Option Record → Type 0
IsRead s read = MatchOption read (is_record s 0 ≡ false) (λ r. Reads s r)

-- and the bytes behind it
pub record First (s : List ℕ) (r : Record) (behind : List ℕ) : Type 0 where
  pub reads : Reads s r
  pub rest : behind ≡ drop (2 + number_at s 0 2) s

-- a call gives the first record and goes on behind it, or none is there
abbrev pub IsNext : List ℕ → Option Record → List ℕ → Type 0
IsNext s next rest = MatchOption next (is_record s 0 ≡ false) (λ r. First s r rest)
