-- The records of every right answer fit the least answer buffer.
use Rattle.std.specs.Prelude.{ℕ, zero, suc, ◌+◌, ◌*◌, ◌≤◌, ◌<◌, ◌≡◌, refl, Bool, true, false, cond, List, [], ◌∷◌, ◌++◌, map, length}
use Rattle.std.proofs.Common.{⊎_elim, eq-or-lt_of_le, le_of_suc-le-suc, arith}
use mathlib.Core.List.Memᴰ.{head as here}
use mathlib.Core.List.Memᴰ.{tail as there}
use Rattle.std.proofs.Math.ListN.{length-append}
use Rattle.std.proofs.lemmas.List.{length-map}
use Rattle.specification.specs.Bytes.{bytes, encode, port_answer, buffer_answer, loop_answer, cycle_answer, floor_answer}
use Rattle.records.specs.Lengths.{words_length}
use Rattle.numbers.specs.Lists.{◌∈◌}
use Rattle.numbers.specs.ListLaws.{pigeonhole}
use Rattle.specification.specs.Periods.{Cycle, graph_in}
use Rattle.rounds.specs.Walks.{Among, cycle_short}
use Rattle.table.specs.WellFormed.{WellFormed}
use Rattle.specification.specs.Table.{Table, port_count, link_count, link, is_buffer, IsLink, from, to}
use Rattle.specification.specs.Ratios.{Step, comes, Way, stay, walk}
use Rattle.specification.specs.Answers.{
  Timing,
  Floor,
  rate,
  cycle,
  zero_floor,
  Answer,
  refused,
  disagreeing,
  overweight,
  blocked,
  no_least,
  consistent,
  loop_numbers,
  floor_record,
  port_records,
  buffer_records,
  Blocked,
  Right,
  records,
  least_room,
}
use Rattle.demands.specs.Demands.{FitsRoom}

-- ---- lengths of records
pub port_records_lem : (r : Timing) (n : ℕ) → length (port_records r n) ≡ 24 * n
unfolding port_records port_answer encode bytes
port_records_lem r zero = refl
port_records_lem r (suc n) = simp length-append (omega (arith, port_records_lem r n))

buffer_record : (b : Bool) (k d : ℕ) → length (cond b (buffer_answer k d) []) ≤ 14
unfolding buffer_answer encode bytes
buffer_record true k d = omega arith
buffer_record false k d = omega arith

pub buffer_records_lem : (t : Table) (r : Timing) (n : ℕ) → length (buffer_records t r n) ≤ 14 * n
unfolding buffer_records
buffer_records_lem t r zero = omega arith
buffer_records_lem t r (suc n) =
    simp length-append (omega (arith, buffer_records_lem t r n, buffer_record (is_buffer (link t n)) n (r.size n)))

-- a step of a loop has two numbers
pub loop_numbers_lem : (loop : List Step) → length (loop_numbers loop) ≡ 2 * length loop
loop_numbers_lem [] = refl
loop_numbers_lem (s ∷ loop) = omega (arith, loop_numbers_lem loop)

loop_record : (loop : List Step) → length (loop_answer (loop_numbers loop)) ≡ 4 + 4 * length loop
unfolding loop_answer encode bytes
loop_record loop = omega (arith, words_length (loop_numbers loop), loop_numbers_lem loop)

pub cycle_record : (path : List ℕ) → length (cycle_answer path) ≡ 4 + 2 * length path
unfolding cycle_answer encode bytes
cycle_record path = omega (arith, words_length path)

-- ---- no port twice among at most 64
numbers_below : ℕ → List ℕ
numbers_below zero = []
numbers_below (suc n) = n ∷ numbers_below n

below_length : (n : ℕ) → length (numbers_below n) ≡ n
unfolding numbers_below
below_length zero = refl
below_length (suc n) = omega (arith, below_length n)

below_in : {x : ℕ} (n : ℕ) → x < n → x ∈ numbers_below n
unfolding numbers_below
below_in zero h = absurd (omega arith)
below_in (suc n) h = ⊎_elim (λ e. here e) (λ l. there (below_in n l)) (eq-or-lt_of_le (le_of_suc-le-suc h))

module _ {t : Table} (formed : WellFormed t) where
  abbrev ports : List ℕ
  ports = numbers_below (port_count t)

  come_port : (k : ℕ) (b : Bool) → IsLink t k → cond b (from t k) (to t k) < port_count t
  come_port k true i = (formed.links k i.below).from
  come_port k false i = (formed.links k i.below).to

  comes_in : {p q : ℕ} {path : List Step} → Way t p q path → (x : ℕ) → x ∈ map (comes t) path → x ∈ ports
  comes_in stay x m = elim m [ ]
  comes_in (walk s i w) x (here e) = rw e (below_in (port_count t) (come_port s.number s.against i))
  comes_in (walk s i w) x (there m) = comes_in w x m

  module _ (w : ℕ → ℕ) (c : ℕ) where
    ports_among : Among (graph_in t w c) ports
    ports_among = record {
      from_in = λ k e. below_in (port_count t) (formed.links k e.connection.a_link.below).from;
      to_in = λ k e. below_in (port_count t) (formed.links k e.connection.a_link.below).to;
    }

    cycle_fits : {path : List ℕ} → Cycle (graph_in t w c) path → length (cycle_answer path) ≤ 132
    cycle_fits {path} h =
        omega (arith, cycle_record path, cycle_short ports_among h, below_length (port_count t), formed.few_ports)

    blocked_fits : (floor : Floor) (block : List ℕ) → Blocked (graph_in t w c) floor block
        → length (floor_record floor ++ cycle_answer block) ≤ least_room
    unfolding floor_answer encode bytes
    blocked_fits (rate p) block h = simp length-append (omega (arith, cycle_fits h.blocks.cycle))
    blocked_fits (cycle path) block h = simp length-append (omega (arith, cycle_fits h.is_limit.cycle, cycle_fits h.blocks.cycle))
    blocked_fits zero_floor block h = simp length-append (omega (arith, cycle_fits h.blocks.cycle))

pub fits_room : {t : Table} {x : Answer} → WellFormed t → Right t x → FitsRoom t x
fits_room {t} {x} formed right = record { fits = fits x right }
  where
    fits : (y : Answer) → Right t y → length (records t y) ≤ least_room
    fits (refused n) h = absurd h
    fits (disagreeing loop) h = omega (
      arith,
      loop_record loop,
      length-map loop (comes t),
      pigeonhole h.ports (comes_in formed h.way),
      below_length (port_count t),
      formed.few_ports,
    )
    fits overweight h = omega arith
    fits (blocked floor block) h = blocked_fits formed h.w h.c floor block h.is_blocked
    fits no_least h = omega arith
    fits (consistent r) h = simp length-append (omega (
      arith,
      port_records_lem r (port_count t),
      buffer_records_lem t r (link_count t),
      formed.few_ports,
      formed.few_links,
    ))
