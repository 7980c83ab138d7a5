-- The printed form of an answer's bytes is the text of the answer.
use Rattle.std.specs.Prelude.{ℕ, zero, suc, ◌+◌, ◌^◌, ◌≤◌, ◌<◌, ◌≡◌, refl, Bool, true, false, cond, List, [], ◌++◌, map, length, take}
use mathlib.Core.List.Memᴰ.{head as here}
use mathlib.Core.List.Memᴰ.{tail as there}
use Rattle.std.proofs.Common.{add-one, arith}
use Rattle.std.proofs.Math.ListN.{length-append}
use Rattle.specification.specs.Bytes.{encode, buffer_answer, loop_answer, cycle_answer, words}
use Rattle.records.specs.NumberLaws.{encode_length}
use Rattle.records.specs.WrittenLaws.{written_front}
use Rattle.specification.specs.Periods.{Cycle, graph_in}
use Rattle.rounds.specs.Walks.{edges_of_lem}
use Rattle.table.specs.WellFormed.{WellFormed}
use Rattle.specification.specs.Reading.{read_table}
use Rattle.specification.specs.Table.{Table, port_count, link_count, link, is_buffer, IsPort}
use Rattle.specification.specs.Ratios.{Step, Way, stay, walk}
use Rattle.specification.specs.Answers.{
  Timing,
  Floor,
  rate,
  cycle,
  zero_floor,
  Answer,
  refused,
  disagreeing,
  overweight,
  blocked,
  no_least,
  consistent,
  number,
  loop_numbers,
  floor_record,
  port_records,
  buffer_records,
  records,
  Blocked,
  Right,
  least_room,
  AnswerOf,
  answer_place,
}
use Rattle.demands.specs.AnswerCases.{AnswerCase, short, faulty, formed as right_answer, answer_case}
use Rattle.demands.specs.Room.{fits_room}
use Rattle.specification.specs.declared.Outcome.{Outcome}
use Rattle.specification.specs.Analysed.{FieldsFit, Fits, Analysed}
use Rattle.text.specs.Lines.{block_word, buffer_line, items_line}
use Rattle.text.specs.Printed.{cycle_word, printed}
use Rattle.text.specs.PrintedLaws.{Prints, prints_none, ◌⨾◌, prints_all}
use Rattle.report.specs.AnswerText.{connections_text, floor_text, ports_text, buffers_text, lines_of, text_of}
use Rattle.report.specs.RecordText.{PortFields, BufferFields, SmallNumbers, prints_port, prints_buffer, prints_rate_floor, prints_zero_floor, prints_loop, prints_cycle}

-- the records print, however many they are
pub record PrintsAs (s : List ℕ) (first : ℕ) (lines : List ℕ) : Type 0 where
  pub many : ℕ
  pub prints : Prints s first many lines

-- ---- the ports and buffers of a consistent model
prints_ports : (r : Timing) (n : ℕ)
    → ((p : ℕ) → p < n → PortFields (r.component p) (r.weight p) (r.a p) (r.b p) (r.start p))
    → Prints (port_records r n) 0 n (ports_text r n)
unfolding port_records ports_text
prints_ports r zero fields = prints_none
prints_ports r (suc n) fields =
    let before = prints_ports r n (λ p h. fields p (omega arith)) in
    let e : 0 + n ≡ n = omega arith in
    rw (add-one n, e) at (before ⨾ rw (← e) at (prints_port (fields n (omega arith)) n))

port_fields : {t : Table} {r : Timing} → FieldsFit t r
    → (p : ℕ) → p < port_count t → PortFields (r.component p) (r.weight p) (r.a p) (r.b p) (r.start p)
port_fields {t} {r} fits p h =
    let port : IsPort t p = record { below = h } in
    record {
      component_fits = fits.component p port;
      weight_fits = fits.weight p port;
      a_fits = fits.a p port;
      b_fits = fits.b p port;
      start_fits = fits.start p port;
      over = r.over p;
    }

prints_buffer_if : (b : Bool) {k size first : ℕ} → (b ≡ true → BufferFields k size)
    → PrintsAs (cond b (buffer_answer k size) []) first (cond b (buffer_line k size) [])
prints_buffer_if true {first = first} fields = record { many = 1; prints = prints_buffer (fields refl) first }
prints_buffer_if false fields = record { many = 0; prints = prints_none }

prints_buffers : (t : Table) (r : Timing) (first n : ℕ)
    → ((k : ℕ) → k < n → is_buffer (link t k) ≡ true → BufferFields k (r.size k))
    → PrintsAs (buffer_records t r n) first (buffers_text t r n)
unfolding buffer_records buffers_text
prints_buffers t r first zero fields = record { many = 0; prints = prints_none }
prints_buffers t r first (suc n) fields =
    let before = prints_buffers t r first n (λ k h. fields k (omega arith)) in
    let last = prints_buffer_if (is_buffer (link t n)) {first = first + before.many} (fields n (omega arith)) in
    record { many = before.many + last.many; prints = before.prints ⨾ last.prints }

buffer_fields : {t : Table} {r : Timing} → WellFormed t → FieldsFit t r
    → (k : ℕ) → k < link_count t → is_buffer (link t k) ≡ true → BufferFields k (r.size k)
buffer_fields formed fits k h e = record {
  number_fits = omega (arith, formed.few_links);
  size_fits = fits.size k (record { a_link = record { below = h }; no_events = e });
}

-- ---- the numbers of loops and cycles
module _ {t : Table} (formed : WellFormed t) where
  way_numbers : {p q : ℕ} {loop : List Step} → Way t p q loop → SmallNumbers (map (λ s. s.number) loop)
  way_numbers stay k m = elim m [ ]
  way_numbers (walk s i w) k (here e) = rw e (omega (arith, i.below, formed.few_links))
  way_numbers (walk s i w) k (there m) = way_numbers w k m

  cycle_numbers : (w : ℕ → ℕ) (c : ℕ) {path : List ℕ} → Cycle (graph_in t w c) path → SmallNumbers path
  cycle_numbers w c h k m = omega (arith, (edges_of_lem h.closed k m).connection.a_link.below, formed.few_links)

-- a record that fits the least answer buffer has a length of two bytes
short_record : (kind : ℕ) (body : List ℕ) → length (encode kind body) ≤ least_room → 2 + length body < 256 ^ 2
short_record kind body h = omega (arith, encode_length kind body)

-- ---- every right answer
module _ {t : Table} (formed : WellFormed t) where
  module _ (w : ℕ → ℕ) (c : ℕ) where
    prints_cycle_in : (path : List ℕ) → Cycle (graph_in t w c) path → length (cycle_answer path) ≤ least_room
        → (place : ℕ) → Prints (cycle_answer path) place 1 (items_line (cycle_word place) (connections_text path))
    unfolding cycle_answer
    prints_cycle_in path h fits = prints_cycle path (cycle_numbers formed w c h) (short_record 19 (words path) fits)

    -- a floor, and the cycle that blocks above it
    prints_blocked : (floor : Floor) (block : List ℕ) → Blocked (graph_in t w c) floor block
        → length (floor_record floor) + length (cycle_answer block) ≤ least_room
        → Prints (floor_record floor ++ cycle_answer block) 0 2 (floor_text floor ++ items_line block_word (connections_text block))
    unfolding cycle_word
    prints_blocked (rate p) block h fits =
        let port = h.is_limit.a_port.a_port.below in
        prints_rate_floor p (omega (arith, port, formed.few_ports)) 0 ⨾ prints_cycle_in block h.blocks.cycle (omega arith) 1
    prints_blocked (cycle path) block h fits =
        prints_cycle_in path h.is_limit.cycle (omega arith) 0 ⨾ prints_cycle_in block h.blocks.cycle (omega arith) 1
    prints_blocked zero_floor block h fits = prints_zero_floor 0 ⨾ prints_cycle_in block h.blocks.cycle (omega arith) 1

  prints_answer : (x : Answer) → Right t x → Fits t x → PrintsAs (records t x) 0 (lines_of t x)
  unfolding loop_answer
  prints_answer (refused n) right fits = record { many = 0; prints = prints_none }
  prints_answer (disagreeing loop) right fits =
      let room = (fits_room {x = disagreeing loop} formed right).fits in
      record { many = 1; prints = prints_loop loop (way_numbers formed right.way) (short_record 18 (words (loop_numbers loop)) room) 0 }
  prints_answer overweight right fits = record { many = 0; prints = prints_none }
  prints_answer (blocked floor block) right fits =
      let room = (fits_room {x = blocked floor block} formed right).fits in
      let both = length-append (floor_record floor) (cycle_answer block) in
      record { many = 2; prints = prints_blocked right.w right.c floor block right.is_blocked (omega arith) }
  prints_answer no_least right fits = record { many = 0; prints = prints_none }
  prints_answer (consistent r) right fits =
      let ports = prints_ports r (port_count t) (port_fields fits) in
      let buffers = prints_buffers t r (0 + port_count t) (link_count t) (buffer_fields formed fits) in
      record { many = port_count t + buffers.many; prints = ports ⨾ buffers.prints }

pub printed_answer : (place : ℕ) {t : Table} (x : Answer) → WellFormed t → Right t x → Fits t x → printed (number x) place (records t x) ≡ text_of place t x
unfolding printed
printed_answer place x formed right fits = rw (prints_all (prints_answer formed x right fits).prints)

-- a refusal has no records
pub printed_refused : (place : ℕ) (t : Table) (n : ℕ) → printed n place (records t (refused n)) ≡ text_of place t (refused n)
unfolding printed
printed_refused place t n = rw (prints_all (prints_none {number = 0}))

-- ---- every answer to a byte string
pub printed_of : (place : ℕ) {s : List ℕ} {room : ℕ} {x : Answer} → AnswerOf s room x → Fits (read_table s).table x
    → printed (number x) place (records (read_table s).table x) ≡ text_of place (read_table s).table x
printed_of place {s} {room} h fits = by (answer_case h) fits
  where
    by : {y : Answer} → AnswerCase s room y → Fits (read_table s).table y
        → printed (number y) place (records (read_table s).table y) ≡ text_of place (read_table s).table y
    by (short l) f = printed_refused place (read_table s).table 1
    by (faulty l e) f = printed_refused place (read_table s).table (read_table s).number
    by {y} (right_answer l e g i) f = printed_answer place y g i f

-- what an analysis has written prints as the text of its answer
pub printed_analysed : {s before after : List ℕ} {r : Outcome} (h : Analysed s before after r)
    → printed r.number r.place (take r.written after) ≡ text_of (answer_place s (length before)) (read_table s).table h.answer
printed_analysed h = rw (h.number_is, h.place_is, written_front h.records_are) (printed_of _ h.right h.fits)
