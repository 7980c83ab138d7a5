-- Each record of an answer prints as the line of its values.
use Rattle.std.specs.Prelude.{ℕ, ◌+◌, ◌-◌, ◌/◌, ◌^◌, ◌<◌, ◌≡◌, Bool, cond, List, [], ◌∷◌, ◌++◌, map, eqb}
use Rattle.std.proofs.Math.Path.{refl}
use Rattle.std.proofs.Common.{◌∙◌, arith}
use Rattle.std.proofs.Math.Bool.{true, false, not}
use mathlib.Core.List.Memᴰ.{head as here}
use mathlib.Core.List.Memᴰ.{tail as there}
use Rattle.std.proofs.Math.ListN.{length}
use borrow.Author.Tests.{lt-ltb, le-leb, ne_eqb}
use Rattle.specification.specs.Bytes.{encode, port_answer, buffer_answer, loop_answer, cycle_answer, floor_answer, number_at, bytes, words}
use Rattle.records.specs.Lengths.{words_length}
use Rattle.records.specs.NumberLaws.{number_bytes, number_in, length_field, kind_field, body_field}
use Rattle.numbers.specs.Lists.{◌∈◌}
use Rattle.specification.specs.Ratios.{Step}
use Rattle.specification.specs.Answers.{loop_numbers, zero_floor_port}
use Rattle.demands.specs.Room.{loop_numbers_lem}
use Rattle.text.specs.Lines.{loop_word, port_line, buffer_line, step_text, connection_text, items_line, floor_port_line, zero_floor_line, floor_line}
use Rattle.text.specs.Printed.{cycle_word, has_line, items_text, port_at, buffer_at, step_at, connection_at, loop_at, cycle_at, floor_at, has_period, record_line}
use Rattle.text.specs.PrintedLaws.{steps_behind, connections_behind, Prints, prints_record}
use Rattle.report.specs.AnswerText.{steps_text, connections_text}

-- ---- a port
pub record PortFields (component weight a b start : ℕ) : Type 0 where
  pub component_fits : component < 256 ^ 2
  pub weight_fits : weight < 256 ^ 2
  pub a_fits : a < 256 ^ 4
  pub b_fits : b < 256 ^ 4
  pub start_fits : start < 256 ^ 8
  pub over : 0 < b

module _ {component weight a b start : ℕ} (f : PortFields component weight a b start) where
  abbrev body : List ℕ
  body = bytes 2 component ++ bytes 2 weight ++ bytes 4 a ++ bytes 4 b ++ bytes 8 start

  module _ (post : List ℕ) where
    abbrev s : List ℕ
    s = encode 16 body ++ post

    kind_is : number_at s 2 2 ≡ 16
    kind_is = kind_field 16 body post (omega arith)

    component_is : number_at s 4 2 ≡ component
    unfolding bytes
    component_is =
        body_field 16 body post 0 2
        ∙ number_bytes 2 (bytes 2 weight ++ bytes 4 a ++ bytes 4 b ++ bytes 8 start ++ post) f.component_fits

    weight_is : number_at s 6 2 ≡ weight
    unfolding bytes
    weight_is =
        body_field 16 body post 2 2
        ∙ number_in (bytes 2 component) (bytes 4 a ++ bytes 4 b ++ bytes 8 start ++ post) 2 refl f.weight_fits

    a_is : number_at s 8 4 ≡ a
    unfolding bytes
    a_is =
        body_field 16 body post 4 4
        ∙ number_in (bytes 2 component ++ bytes 2 weight) (bytes 4 b ++ bytes 8 start ++ post) 4 refl f.a_fits

    b_is : number_at s 12 4 ≡ b
    unfolding bytes
    b_is =
        body_field 16 body post 8 4
        ∙ number_in (bytes 2 component ++ bytes 2 weight ++ bytes 4 a) (bytes 8 start ++ post) 4 refl f.b_fits

    start_is : number_at s 16 8 ≡ start
    unfolding bytes
    start_is =
        body_field 16 body post 12 8
        ∙ number_in (bytes 2 component ++ bytes 2 weight ++ bytes 4 a ++ bytes 4 b) post 8 refl f.start_fits

    has_period_lem : has_period s 0 ≡ true
    unfolding has_period
    has_period_lem = rw (kind_is, b_is, lt-ltb 0 b f.over)

    port_is : (number : ℕ) → record_line s 0 number ≡ port_line number component weight a b start
    unfolding record_line port_at
    port_is number = rw (kind_is, component_is, weight_is, a_is, b_is, start_is)

  pub prints_port : (number : ℕ) → Prints (port_answer component weight a b start) number 1 (port_line number component weight a b start)
  unfolding port_answer has_line bytes
  prints_port number =
      prints_record (record { known = omega arith; fits = omega arith; form = refl; period = has_period_lem; is = λ post. port_is post number })

-- the kinds but 16 have no period to test
no_period : (kind : ℕ) (body : List ℕ) → kind < 256 ^ 2 → eqb kind 16 ≡ false → (post : List ℕ) → has_period (encode kind body ++ post) 0 ≡ true
unfolding has_period
no_period kind body known e post = rw (kind_field kind body post known, e)

-- ---- a buffer
pub record BufferFields (number size : ℕ) : Type 0 where
  pub number_fits : number < 256 ^ 2
  pub size_fits : size < 256 ^ 8

module _ {number size : ℕ} (f : BufferFields number size) where
  abbrev fields : List ℕ
  fields = bytes 2 number ++ bytes 8 size

  module _ (post : List ℕ) where
    number_is : number_at (encode 17 fields ++ post) 4 2 ≡ number
    unfolding bytes
    number_is = body_field 17 fields post 0 2 ∙ number_bytes 2 (bytes 8 size ++ post) f.number_fits

    size_is : number_at (encode 17 fields ++ post) 6 8 ≡ size
    unfolding bytes
    size_is = body_field 17 fields post 2 8 ∙ number_in (bytes 2 number) post 8 refl f.size_fits

    buffer_is : (place : ℕ) → record_line (encode 17 fields ++ post) 0 place ≡ buffer_line number size
    unfolding record_line buffer_at
    buffer_is place = rw (kind_field 17 fields post (omega arith), number_is, size_is)

  pub prints_buffer : (place : ℕ) → Prints (buffer_answer number size) place 1 (buffer_line number size)
  unfolding buffer_answer has_line bytes
  prints_buffer place = prints_record (record {
    known = omega arith;
    fits = omega arith;
    form = refl;
    period = no_period 17 fields (omega arith) refl;
    is = λ post. buffer_is post place;
  })

-- ---- a floor, by the port in its record
module _ (port : ℕ) (fits : port < 256 ^ 2) where
  floor_is : (post : List ℕ) (place : ℕ) → record_line (encode 20 (bytes 2 port) ++ post) 0 place ≡ floor_line port
  unfolding record_line floor_at
  floor_is post place =
      rw (kind_field 20 (bytes 2 port) post (omega arith), body_field 20 (bytes 2 port) post 0 2, number_bytes 2 post fits)

  prints_floor : (place : ℕ) → Prints (floor_answer port) place 1 (floor_line port)
  unfolding floor_answer has_line bytes
  prints_floor place = prints_record (record {
    known = omega arith;
    fits = omega arith;
    form = refl;
    period = no_period 20 (bytes 2 port) (omega arith) refl;
    is = λ post. floor_is post place;
  })

-- the rate limit of a port, and zero
pub prints_rate_floor : (port : ℕ) → port < zero_floor_port → (place : ℕ) → Prints (floor_answer port) place 1 (floor_port_line port)
unfolding floor_line
prints_rate_floor port l place = rw (ne_eqb port zero_floor_port (λ e. omega arith)) at (prints_floor port (omega arith) place)

pub prints_zero_floor : (place : ℕ) → Prints (floor_answer zero_floor_port) place 1 zero_floor_line
unfolding floor_line
prints_zero_floor place = prints_floor zero_floor_port (omega arith) place

-- ---- a loop
joined : {xs xs' ys ys' : List ℕ} → xs ≡ xs' → ys ≡ ys' → xs ++ ys ≡ xs' ++ ys'
joined e f = cc

-- the numbers fit two bytes
abbrev pub SmallNumbers : List ℕ → Type 0
SmallNumbers numbers = (k : ℕ) → k ∈ numbers → k < 256 ^ 2

-- one step, and others behind it
module _ (number : ℕ) (against : Bool) (fits : number < 256 ^ 2) (post : List ℕ) where
  abbrev step : List ℕ
  step = bytes 2 number ++ bytes 2 (cond against 1 0)

  direction_is : not (eqb (number_at (step ++ post) 2 2) 0) ≡ against
  unfolding bytes
  direction_is = by against
    where
      by : (b : Bool) → not (eqb (number_at (bytes 2 number ++ (bytes 2 (cond b 1 0) ++ post)) 2 2) 0) ≡ b
      by true = rw (number_in (bytes 2 number) post 2 {v = 1} {at = 2} refl (omega arith))
      by false = rw (number_in (bytes 2 number) post 2 {v = 0} {at = 2} refl (omega arith))

  step_number : number_at (step ++ post) 0 2 ≡ number
  unfolding bytes
  step_number = number_bytes 2 (bytes 2 (cond against 1 0) ++ post) fits

  step_is : step_at (step ++ post) 0 ≡ step_text against number
  unfolding step_at
  step_is = rw (direction_is, step_number)

  rest_is : (n : ℕ) → items_text (step_at (step ++ post)) 4 4 n ≡ items_text (step_at post) 4 0 n
  unfolding bytes
  rest_is n = steps_behind step post 0 n

steps_are : (loop : List Step) → SmallNumbers (map (λ s. s.number) loop) → (post : List ℕ)
    → items_text (step_at (words (loop_numbers loop) ++ post)) 4 0 (length loop) ≡ steps_text loop
unfolding items_text steps_text words bytes
steps_are [] small post = refl
steps_are (s ∷ loop) small post =
    let fits = small s.number (here refl) in
    let behind = words (loop_numbers loop) ++ post in
    let others = rest_is s.number s.against fits behind (length loop) ∙ steps_are loop (λ k m. small k (there m)) post in
    joined (step_is s.number s.against fits behind) others

module _ (loop : List Step) (small : SmallNumbers (map (λ s. s.number) loop)) (fits : 2 + length (words (loop_numbers loop)) < 256 ^ 2) where
  abbrev pairs : List ℕ
  pairs = words (loop_numbers loop)

  count : (2 + length pairs - 2) / 4 ≡ length loop
  count = omega (arith, words_length (loop_numbers loop), loop_numbers_lem loop)

  in_record : (post : List ℕ) (n : ℕ) → items_text (step_at (encode 18 pairs ++ post)) 4 4 n ≡ items_text (step_at (pairs ++ post)) 4 0 n
  unfolding encode bytes
  in_record post n = steps_behind (bytes 2 (2 + length pairs) ++ bytes 2 18) (pairs ++ post) 0 n

  loop_is : (post : List ℕ) (place : ℕ) → record_line (encode 18 pairs ++ post) 0 place ≡ items_line loop_word (steps_text loop)
  unfolding record_line loop_at
  loop_is post place =
      rw (kind_field 18 pairs post (omega arith), length_field 18 pairs post fits, count, in_record post, steps_are loop small post)

  pub prints_loop : (place : ℕ) → Prints (loop_answer (loop_numbers loop)) place 1 (items_line loop_word (steps_text loop))
  unfolding loop_answer has_line
  prints_loop place = prints_record (record {
    known = omega arith;
    fits = fits;
    form = le-leb 2 (2 + length pairs) (omega arith);
    period = no_period 18 pairs (omega arith) refl;
    is = λ post. loop_is post place;
  })

-- ---- a cycle
-- one connection, and others behind it
module _ (number : ℕ) (post : List ℕ) where
  connection_is : number < 256 ^ 2 → connection_at (bytes 2 number ++ post) 0 ≡ connection_text number
  unfolding connection_at
  connection_is fits = rw (number_bytes 2 post fits)

  others_are : (n : ℕ) → items_text (connection_at (bytes 2 number ++ post)) 2 2 n ≡ items_text (connection_at post) 2 0 n
  unfolding bytes
  others_are n = connections_behind (bytes 2 number) post 0 n

connections_are : (path : List ℕ) → SmallNumbers path → (post : List ℕ)
    → items_text (connection_at (words path ++ post)) 2 0 (length path) ≡ connections_text path
unfolding items_text connections_text words bytes
connections_are [] small post = refl
connections_are (k ∷ path) small post =
    let behind = words path ++ post in
    let others = others_are k behind (length path) ∙ connections_are path (λ j m. small j (there m)) post in
    joined (connection_is k behind (small k (here refl))) others

module _ (path : List ℕ) (small : SmallNumbers path) (fits : 2 + length (words path) < 256 ^ 2) where
  cycle_count : (2 + length (words path) - 2) / 2 ≡ length path
  cycle_count = omega (arith, words_length path)

  in_cycle : (post : List ℕ) (n : ℕ)
      → items_text (connection_at (encode 19 (words path) ++ post)) 2 4 n ≡ items_text (connection_at (words path ++ post)) 2 0 n
  unfolding encode bytes
  in_cycle post n = connections_behind (bytes 2 (2 + length (words path)) ++ bytes 2 19) (words path ++ post) 0 n

  cycle_is : (post : List ℕ) (place : ℕ) → record_line (encode 19 (words path) ++ post) 0 place ≡ items_line (cycle_word place) (connections_text path)
  unfolding record_line cycle_at
  cycle_is post place =
      rw (kind_field 19 (words path) post (omega arith), length_field 19 (words path) post fits, cycle_count)
      (rw (in_cycle post, connections_are path small post))

  pub prints_cycle : (place : ℕ) → Prints (cycle_answer path) place 1 (items_line (cycle_word place) (connections_text path))
  unfolding cycle_answer has_line
  prints_cycle place = prints_record (record {
    known = omega arith;
    fits = fits;
    form = le-leb 2 (2 + length (words path)) (omega arith);
    period = no_period 19 (words path) (omega arith) refl;
    is = λ post. cycle_is post place;
  })
