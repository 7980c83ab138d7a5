-- Models A, F and I of document 01 print as it says, with the place of change request F-1, and so do its fault, the floor zero and number 17.
use Prim.Native.Nat.{ℕ}
use mathlib.Core.Path.{◌≡◌, refl}
use mathlib.Core.Bool.{true, false}
use mathlib.Core.List.{List, [], ◌∷◌, ◌++◌}
use native.Mathlib.Omega.{arith}
use lib.ListN.{get_or}
use Rattle.numbers.specs.Divisors.{gcd}
use Rattle.fraction.specs.Lowest.{lowest_terms}
use Rattle.specification.specs.Table.{Table, no_port, no_link}
use Rattle.specification.specs.declared.Link.{Link}
use Rattle.specification.specs.Answers.{Timing, cycle, zero_floor, refused, disagreeing, blocked, no_least, consistent}
use Rattle.text.specs.Lines.{decimal, decimal_in, fraction, sign_word, field, fraction_field, place_text, answer_line, port_text, port_line, buffer_line, step_text, connection_text, items_line}
use Rattle.report.specs.AnswerText.{steps_text, connections_text, ports_text, buffers_text, text_of}

-- ---- A
-- of the table only how many ports there are, and which links are buffers
abbrev buffer : Link
buffer = record { from = 1; to = 0; num = 1; den = 1; ticks = (4, 0); events = (0, 0); over = 1; kind = 3 }

abbrev table_a : Table
table_a = record { ports = no_port ∷ no_port ∷ []; links = no_link ∷ no_link ∷ buffer ∷ [] }

-- period 3/2, starts 0 and 3, size 5
abbrev timing_a : Timing
timing_a = record {
  component = λ p. 0;
  weight = λ p. 1;
  a = λ p. 3;
  b = λ p. 2;
  over = λ p. omega arith;
  start = λ p. get_or (0 ∷ 6 ∷ []) p 0;
  size = λ k. 5;
}

-- "answer 0"
abbrev first_line : List ℕ
first_line = 97 ∷ 110 ∷ 115 ∷ 119 ∷ 101 ∷ 114 ∷ 32 ∷ 48 ∷ 10 ∷ []

-- "port 0 component 0 weight 1 period 3/2 start 0/1"
abbrev port_zero : List ℕ
port_zero =
    112 ∷ 111 ∷ 114 ∷ 116 ∷ 32 ∷ 48 ∷ 32 ∷ 99 ∷ 111 ∷ 109 ∷ 112 ∷ 111 ∷ 110 ∷ 101 ∷ 110 ∷ 116 ∷ 32 ∷ 48 ∷ 32 ∷ 119 ∷ 101 ∷ 105 ∷ 103 ∷ 104 ∷ 116 ∷
    32 ∷ 49 ∷ 32 ∷ 112 ∷ 101 ∷ 114 ∷ 105 ∷ 111 ∷ 100 ∷ 32 ∷ 51 ∷ 47 ∷ 50 ∷ 32 ∷ 115 ∷ 116 ∷ 97 ∷ 114 ∷ 116 ∷ 32 ∷ 48 ∷ 47 ∷ 49 ∷ 10 ∷ []

-- "port 1 component 0 weight 1 period 3/2 start 3/1"
abbrev port_one : List ℕ
port_one =
    112 ∷ 111 ∷ 114 ∷ 116 ∷ 32 ∷ 49 ∷ 32 ∷ 99 ∷ 111 ∷ 109 ∷ 112 ∷ 111 ∷ 110 ∷ 101 ∷ 110 ∷ 116 ∷ 32 ∷ 48 ∷ 32 ∷ 119 ∷ 101 ∷ 105 ∷ 103 ∷ 104 ∷ 116 ∷
    32 ∷ 49 ∷ 32 ∷ 112 ∷ 101 ∷ 114 ∷ 105 ∷ 111 ∷ 100 ∷ 32 ∷ 51 ∷ 47 ∷ 50 ∷ 32 ∷ 115 ∷ 116 ∷ 97 ∷ 114 ∷ 116 ∷ 32 ∷ 51 ∷ 47 ∷ 49 ∷ 10 ∷ []

-- "buffer 2 size 5"
abbrev buffer_two : List ℕ
buffer_two = 98 ∷ 117 ∷ 102 ∷ 102 ∷ 101 ∷ 114 ∷ 32 ∷ 50 ∷ 32 ∷ 115 ∷ 105 ∷ 122 ∷ 101 ∷ 32 ∷ 53 ∷ 10 ∷ []

pub model_a : text_of 0 table_a (consistent timing_a) ≡ first_line ++ port_zero ++ port_one ++ buffer_two
unfolding ports_text buffers_text answer_line place_text port_line port_text buffer_line field fraction_field fraction decimal decimal_in lowest_terms gcd
model_a = refl

-- ---- F: "answer 15 at 0", "floor cycle 0", "block 1"
abbrev lines_f : List ℕ
lines_f =
    97 ∷ 110 ∷ 115 ∷ 119 ∷ 101 ∷ 114 ∷ 32 ∷ 49 ∷ 53 ∷ 32 ∷ 97 ∷ 116 ∷ 32 ∷ 48 ∷ 10 ∷
    102 ∷ 108 ∷ 111 ∷ 111 ∷ 114 ∷ 32 ∷ 99 ∷ 121 ∷ 99 ∷ 108 ∷ 101 ∷ 32 ∷ 48 ∷ 10 ∷ 98 ∷ 108 ∷ 111 ∷ 99 ∷ 107 ∷ 32 ∷ 49 ∷ 10 ∷ []

pub model_f : (t : Table) → text_of 0 t (blocked (cycle (0 ∷ [])) (1 ∷ [])) ≡ lines_f
unfolding connections_text answer_line place_text connection_text items_line field decimal decimal_in
model_f t = refl

-- ---- I: "answer 13 at 0", "loop +0 -1"
abbrev lines_i : List ℕ
lines_i = 97 ∷ 110 ∷ 115 ∷ 119 ∷ 101 ∷ 114 ∷ 32 ∷ 49 ∷ 51 ∷ 32 ∷ 97 ∷ 116 ∷ 32 ∷ 48 ∷ 10 ∷ 108 ∷ 111 ∷ 111 ∷ 112 ∷ 32 ∷ 43 ∷ 48 ∷ 32 ∷ 45 ∷ 49 ∷ 10 ∷ []

pub model_i : (t : Table) → text_of 0 t (disagreeing (record { number = 0; against = false } ∷ record { number = 1; against = true } ∷ [])) ≡ lines_i
unfolding steps_text answer_line place_text step_text sign_word items_line field decimal decimal_in
model_i t = refl

-- ---- a fault: "answer 11 at 36"
abbrev line_fault : List ℕ
line_fault = 97 ∷ 110 ∷ 115 ∷ 119 ∷ 101 ∷ 114 ∷ 32 ∷ 49 ∷ 49 ∷ 32 ∷ 97 ∷ 116 ∷ 32 ∷ 51 ∷ 54 ∷ 10 ∷ []

pub fault : (t : Table) → text_of 36 t (refused 11) ≡ line_fault
unfolding answer_line place_text field decimal decimal_in
fault t = refl

-- ---- change request F-3: "answer 15 at 0", "floor zero", "block 0"
abbrev lines_zero : List ℕ
lines_zero =
    97 ∷ 110 ∷ 115 ∷ 119 ∷ 101 ∷ 114 ∷ 32 ∷ 49 ∷ 53 ∷ 32 ∷ 97 ∷ 116 ∷ 32 ∷ 48 ∷ 10 ∷
    102 ∷ 108 ∷ 111 ∷ 111 ∷ 114 ∷ 32 ∷ 122 ∷ 101 ∷ 114 ∷ 111 ∷ 10 ∷ 98 ∷ 108 ∷ 111 ∷ 99 ∷ 107 ∷ 32 ∷ 48 ∷ 10 ∷ []

pub floor_zero : (t : Table) → text_of 0 t (blocked zero_floor (0 ∷ [])) ≡ lines_zero
unfolding connections_text answer_line place_text connection_text items_line field decimal decimal_in
floor_zero t = refl

-- "answer 17 at 0"
abbrev line_no_least : List ℕ
line_no_least = 97 ∷ 110 ∷ 115 ∷ 119 ∷ 101 ∷ 114 ∷ 32 ∷ 49 ∷ 55 ∷ 32 ∷ 97 ∷ 116 ∷ 32 ∷ 48 ∷ 10 ∷ []

pub no_least_lem : (t : Table) → text_of 0 t no_least ≡ line_no_least
unfolding answer_line place_text field decimal decimal_in
no_least_lem t = refl
