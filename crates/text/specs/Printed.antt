-- The printed form of an answer's bytes: the number, then a line for each record.
use Rattle.std.specs.Prelude.{ℕ, zero, suc, ◌+◌, ◌*◌, ◌-◌, ◌/◌, Bool, true, false, cond, not, List, [], ◌++◌, eqb, ltb, leb, length}
use Rattle.specification.specs.Bytes.{number_at}
use Rattle.text.specs.Lines.{loop_word, floor_cycle_word, block_word, answer_line, port_line, buffer_line, step_text, connection_text, items_line, floor_line}

-- the floor, where it is the first record, and else the block
unfoldable pub cycle_word : (number : ℕ) → List ℕ
cycle_word number = cond (eqb number 0) floor_cycle_word block_word

-- the kinds that have a line, each with its length
unfoldable pub has_line : (kind size : ℕ) → Bool
has_line kind size =
    cond (eqb kind 16) (eqb size 22)
    (cond (eqb kind 17) (eqb size 12)
    (cond (eqb kind 18) (leb 2 size)
    (cond (eqb kind 19) (leb 2 size)
    (cond (eqb kind 20) (eqb size 4) false))))

-- what n items of so many bytes each print, from a place on
unfoldable pub items_text : (item : ℕ → List ℕ) (size at n : ℕ) → List ℕ
items_text item size at zero = []
items_text item size at (suc n) = item at ++ items_text item size (at + size) n

-- ---- the line of the record at a place of the answer's bytes
module _ (s : List ℕ) where
  -- kind 16; the ports are numbered from 0, so its number is the record's
  unfoldable pub port_at : (at number : ℕ) → List ℕ
  port_at at number =
      port_line number (number_at s (at + 4) 2) (number_at s (at + 6) 2) (number_at s (at + 8) 4) (number_at s (at + 12) 4) (number_at s (at + 16) 8)

  -- kind 17
  unfoldable pub buffer_at : (at : ℕ) → List ℕ
  buffer_at at = buffer_line (number_at s (at + 4) 2) (number_at s (at + 6) 8)

  -- a step: the connection's number, and its direction, 0 along
  unfoldable pub step_at : (at : ℕ) → List ℕ
  step_at at = step_text (not (eqb (number_at s (at + 2) 2) 0)) (number_at s at 2)

  unfoldable pub connection_at : (at : ℕ) → List ℕ
  connection_at at = connection_text (number_at s at 2)

  -- kind 18, of n steps
  unfoldable pub loop_at : (at n : ℕ) → List ℕ
  loop_at at n = items_line loop_word (items_text step_at 4 (at + 4) n)

  -- kind 19, of n connections
  unfoldable pub cycle_at : (at number n : ℕ) → List ℕ
  cycle_at at number n = items_line (cycle_word number) (items_text connection_at 2 (at + 4) n)

  -- kind 20
  unfoldable pub floor_at : (at : ℕ) → List ℕ
  floor_at at = floor_line (number_at s (at + 4) 2)

  -- the b of a port is above 0
  unfoldable pub has_period : (at : ℕ) → Bool
  has_period at = cond (eqb (number_at s (at + 2) 2) 16) (ltb 0 (number_at s (at + 12) 4)) true

  -- a record of a kind that has a line, of the kind's length, lies at a place
  unfoldable pub is_record : (at : ℕ) → Bool
  is_record at =
      cond (ltb (at + 3) (length s))
      (cond (leb (at + 2 + number_at s at 2) (length s))
      (cond (has_line (number_at s (at + 2) 2) (number_at s at 2)) (has_period at) false) false) false

  -- its line; the length counts what follows the two length bytes, so the body has two less
  unfoldable pub record_line : (at number : ℕ) → List ℕ
  record_line at number =
      let body = number_at s at 2 - 2 in
      let kind = number_at s (at + 2) 2 in
      cond (eqb kind 16) (port_at at number)
      (cond (eqb kind 17) (buffer_at at)
      (cond (eqb kind 18) (loop_at at (body / 4))
      (cond (eqb kind 19) (cycle_at at number (body / 2)) (floor_at at))))

  -- the lines of the records from a place on; the first number bounds the records, each of which has four bytes at least
  unfoldable pub record_lines : ℕ → (at number : ℕ) → List ℕ
  record_lines zero at number = []
  record_lines (suc n) at number =
      cond (is_record at) (record_line at number ++ record_lines n (at + 2 + number_at s at 2) (number + 1)) []

-- the whole text: the number and its place, and a line for each of the answer's records. Bytes that are no record end it
unfoldable pub printed : (number place : ℕ) → List ℕ → List ℕ
printed number place s = answer_line number place ++ record_lines s (length s) 0 0

-- the room that it needs at most: twelve bytes for each byte of the records, and 52 for the first line
abbrev pub printed_room : List ℕ → ℕ
printed_room s = 12 * length s + 52
