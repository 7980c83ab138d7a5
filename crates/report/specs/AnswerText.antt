-- The printed form of document 01, from the answer: the number, its place (change request F-1), then the records' lines.
use Rattle.std.specs.Prelude.{ℕ, zero, suc, cond, List, [], ◌∷◌, ◌++◌}
use Rattle.specification.specs.Table.{Table, port_count, link_count, link, is_buffer}
use Rattle.specification.specs.Ratios.{Step}
use Rattle.specification.specs.Answers.{Timing, Floor, rate, cycle, zero_floor, Answer, refused, disagreeing, overweight, blocked, no_least, consistent, number}
use Rattle.text.specs.Lines.{loop_word, floor_cycle_word, block_word, answer_line, port_line, buffer_line, step_text, connection_text, items_line, floor_port_line, zero_floor_line}

-- a sign and a number for each step of a loop; minus is against
unfoldable pub steps_text : List Step → List ℕ
steps_text [] = []
steps_text (s ∷ steps) = step_text s.against s.number ++ steps_text steps

-- the numbers of a cycle's connections
unfoldable pub connections_text : List ℕ → List ℕ
connections_text [] = []
connections_text (k ∷ path) = connection_text k ++ connections_text path

abbrev pub floor_text : Floor → List ℕ
floor_text (rate port) = floor_port_line port
floor_text (cycle path) = items_line floor_cycle_word (connections_text path)
floor_text zero_floor = zero_floor_line

-- a line for each of the first n ports, in order
unfoldable pub ports_text : Timing → ℕ → List ℕ
ports_text r zero = []
ports_text r (suc n) = ports_text r n ++ port_line n (r.component n) (r.weight n) (r.a n) (r.b n) (r.start n)

-- a line for each buffer among the first n links, in order
unfoldable pub buffers_text : Table → Timing → ℕ → List ℕ
buffers_text t r zero = []
buffers_text t r (suc n) = buffers_text t r n ++ cond (is_buffer (link t n)) (buffer_line n (r.size n)) []

-- the lines behind the first
abbrev pub lines_of : Table → Answer → List ℕ
lines_of t (refused n) = []
lines_of t (disagreeing loop) = items_line loop_word (steps_text loop)
lines_of t overweight = []
lines_of t (blocked floor block) = floor_text floor ++ items_line block_word (connections_text block)
lines_of t no_least = []
lines_of t (consistent r) = ports_text r (port_count t) ++ buffers_text t r (link_count t)

-- the whole text
abbrev pub text_of : (place : ℕ) → Table → Answer → List ℕ
text_of place t x = answer_line (number x) place ++ lines_of t x
