-- What is known of a table that was read.
use Rattle.std.specs.Prelude.{ℕ, zero, suc, ◌+◌, ◌*◌, ◌≤◌, ◌<◌, ◌≡◌, refl, Bool, true, false, ◌&&◌, cond, List, [], ◌∷◌, length, get_or, eqb}
use Rattle.std.proofs.Common.{arith, pos_of_ne-zero}
use Rattle.std.proofs.lemmas.Bool.{eqb-false}
use Rattle.specification.specs.Table.{Table, port_count, link_count, no_port, no_link, most_ports, most_links}
use Rattle.table.specs.WellFormed.{PortFits, LinkFits, OneSided, WellFormed}
use Rattle.specification.specs.Reading.{record_at, Reading, with_port, with_link, after, read_from, read_on, start, read_table}
use Rattle.table.specs.RecordLaws.{Accepted, accepted}
use Rattle.specification.specs.declared.Port.{Port}
use Rattle.specification.specs.declared.Link.{Link}
use Rattle.specification.specs.declared.Before.{Before}
use Rattle.specification.specs.declared.Read.{Read}
use Rattle.specification.specs.declared.Read.TheVariants.{PortRecord, LinkRecord, Refused, End}

-- ---- the bound of the recursion decides nothing
after_same : (s : List ℕ) (at : ℕ) (b : Before) (rest rest' : ℕ → Before → Reading) (r : Read) → Accepted s at b r
    → ((next : ℕ) (c : Before) → at < next → next ≤ length s → rest next c ≡ rest' next c)
    → after rest b r ≡ after rest' b r
after_same s at b rest rest' (PortRecord p next) a same = rw (same next (with_port b) (omega (arith, a.onward)) a.onward.within)
after_same s at b rest rest' (LinkRecord l next) a same = rw (same next (with_link b) (omega (arith, a.onward)) a.onward.within)
after_same s at b rest rest' (Refused number place) a same = refl
after_same s at b rest rest' End a same = refl

read_same : (s : List ℕ) (m n at : ℕ) (b : Before) → at ≤ length s → length s < m + at → length s < n + at
    → read_from m s at b ≡ read_from n s at b
unfolding read_from
read_same s zero n at b inside p q = absurd (omega arith)
read_same s (suc m) zero at b inside p q = absurd (omega arith)
read_same s (suc m) (suc n) at b inside p q =
    after_same s at b (read_from m s) (read_from n s) (record_at s at b) (accepted s at b)
    (λ next c past within. read_same s m n next c within (omega arith) (omega arith))

-- any bound above the number of bytes reads the same
pub bound_decides_nothing : (s : List ℕ) (n : ℕ) (b : Before) → length s < n → read_from n s 0 b ≡ read_on s b
unfolding read_on
bound_decides_nothing s n b h = read_same s n (length s + 1) 0 b (omega arith) (omega arith) (omega arith)

-- ---- what was read is within the limits
-- the links name ports below those that were there and those that were read
pub record Fitting (b : Before) (ps : List Port) (ls : List Link) : Type 0 where
  pub few_ports : b.ports ≤ most_ports → b.ports + length ps ≤ most_ports
  pub few_links : b.links ≤ most_links → b.links + length ls ≤ most_links
  pub ports : (p : ℕ) → p < length ps → PortFits (get_or ps p no_port)
  pub links : (k : ℕ) → k < length ls → LinkFits (b.named + length ps) (get_or ls k no_link)
  pub sided : (k : ℕ) → k < length ls → OneSided (get_or ls k no_link)

nothing_fits : (b : Before) → Fitting b [] []
nothing_fits b = record {
  few_ports = λ h. omega arith;
  few_links = λ h. omega arith;
  ports = λ p h. absurd (omega arith);
  links = λ k h. absurd (omega arith);
  sided = λ k h. absurd (omega arith);
}

-- what holds of the first and of the others holds of all
all_cons : {A : Type 0} (P : A → Type 0) (d x : A) (xs : List A) → P x → ((k : ℕ) → k < length xs → P (get_or xs k d))
    → (k : ℕ) → k < length (x ∷ xs)
    → P (get_or (x ∷ xs) k d)
all_cons P d x xs first others zero h = first
all_cons P d x xs first others (suc k) h = others k (omega arith)

-- a link between other ports
abbrev pub between : (from to : ℕ) → Link → Link
between from to l = record { from = from; to = to; num = l.num; den = l.den; ticks = l.ticks; events = l.events; over = l.over; kind = l.kind }

pub between_fits : {m n : ℕ} {l : Link} (from to : ℕ) → LinkFits m l → from < n → to < n → LinkFits n (between from to l)
between_fits from to f from_below to_below = record {
  from = from_below;
  to = to_below;
  num = f.num;
  den = f.den;
  ticks_forward_lem = f.ticks_forward_lem;
  ticks_back_lem = f.ticks_back_lem;
  over_least = f.over_least;
  over_most = f.over_most;
  events_forward = f.events_forward;
  events_back = f.events_back;
  kind_least = f.kind_least;
  kind_most = f.kind_most;
}

pub fits_more : {m : ℕ} {l : Link} (n : ℕ) → LinkFits m l → m ≤ n → LinkFits n l
fits_more {l = l} n f h = between_fits l.from l.to f (omega (arith, f.from)) (omega (arith, f.to))

after_fits : (s : List ℕ) (at : ℕ) (b : Before) (rest : ℕ → Before → Reading) (r : Read) → Accepted s at b r
    → ((next : ℕ) (c : Before) → Fitting c (rest next c).table.ports (rest next c).table.links)
    → Fitting b (after rest b r).table.ports (after rest b r).table.links
after_fits s at b rest (PortRecord p next) a each =
    let f = each next (with_port b) in
    let ps = (rest next (with_port b)).table.ports in
    let ls = (rest next (with_port b)).table.links in
    record {
      few_ports = λ h. omega (arith, a.room, f.few_ports (omega (arith, a.room)));
      few_links = λ h. f.few_links h;
      ports = all_cons PortFits no_port p ps a.fits f.ports;
      links = λ k h. fits_more (b.named + suc (length ps)) (f.links k h) (omega arith);
      sided = f.sided;
    }
after_fits s at b rest (LinkRecord l next) a each =
    let f = each next (with_link b) in
    let ps = (rest next (with_link b)).table.ports in
    let ls = (rest next (with_link b)).table.links in
    record {
      few_ports = λ h. f.few_ports h;
      few_links = λ h. omega (arith, a.room, f.few_links (omega (arith, a.room)));
      ports = f.ports;
      links = all_cons (LinkFits (b.named + length ps)) no_link l ls (fits_more (b.named + length ps) a.fits (omega arith)) f.links;
      sided = all_cons OneSided no_link l ls a.sided f.sided;
    }
after_fits s at b rest (Refused number place) a each = nothing_fits b
after_fits s at b rest End a each = nothing_fits b

read_fits : (n : ℕ) (s : List ℕ) (at : ℕ) (b : Before) → Fitting b (read_from n s at b).table.ports (read_from n s at b).table.links
unfolding read_from
read_fits zero s at b = nothing_fits b
read_fits (suc n) s at b = after_fits s at b (read_from n s) (record_at s at b) (accepted s at b) (λ next c. read_fits n s next c)

pub read_on_fits : (s : List ℕ) (b : Before) → Fitting b (read_on s b).table.ports (read_on s b).table.links
unfolding read_on
read_on_fits s b = read_fits (length s + 1) s 0 b

-- ---- what was read has its bytes in the input: a port 8, a link 16 or more
record InBytes (s : List ℕ) (at : ℕ) (t : Table) : Type 0 where
  fits : at + 8 * port_count t + 16 * link_count t ≤ length s

after_bytes : (s : List ℕ) (at : ℕ) (b : Before) (rest : ℕ → Before → Reading) (r : Read) → Accepted s at b r → at ≤ length s
    → ((next : ℕ) (c : Before) → next ≤ length s → InBytes s next (rest next c).table)
    → InBytes s at (after rest b r).table
after_bytes s at b rest (PortRecord p next) a inside each =
    omega (arith, a.onward, (each next (with_port b) a.onward.within).fits)
after_bytes s at b rest (LinkRecord l next) a inside each =
    omega (arith, a.onward, (each next (with_link b) a.onward.within).fits)
after_bytes s at b rest (Refused number place) a inside each = omega arith
after_bytes s at b rest End a inside each = omega arith

from_bytes : (n : ℕ) (s : List ℕ) (at : ℕ) (b : Before) → at ≤ length s → InBytes s at (read_from n s at b).table
unfolding read_from
from_bytes zero s at b inside = omega arith
from_bytes (suc n) s at b inside =
    after_bytes s at b (read_from n s) (record_at s at b) (accepted s at b) inside (λ next c within. from_bytes n s next c within)

pub read_on_bytes : (s : List ℕ) (b : Before) → 8 * port_count (read_on s b).table + 16 * link_count (read_on s b).table ≤ length s
unfolding read_on
read_on_bytes s b = omega (arith, (from_bytes (length s + 1) s 0 b (omega arith)).fits)

-- ---- a table that is read with number 0 is well-formed
some_ports : (n ports : ℕ) → cond (eqb n 0 && eqb ports 0) 12 n ≡ 0 → 0 < ports
some_ports n ports h = decided (eqb n 0) (eqb ports 0) refl refl h
  where
    decided : (a b : Bool) → eqb n 0 ≡ a → eqb ports 0 ≡ b → cond (a && b) 12 n ≡ 0 → 0 < ports
    decided true true e f h = absurd (omega (arith, h))
    decided true false e f h = pos_of_ne-zero (eqb-false ports 0 f)
    decided false b e f h = absurd (eqb-false n 0 e h)

-- what a caller of the reader knows
pub well_formed : (s : List ℕ) {r : Reading} → r ≡ read_table s → r.number ≡ 0 → WellFormed r.table
unfolding read_table
well_formed s e h =
    let r = read_on s start in
    let f = read_on_fits s start in
    rw e (record {
      some_port_lem = some_ports r.number (length r.table.ports) (rw e at h);
      few_ports = omega (arith, f.few_ports (omega arith));
      few_links = omega (arith, f.few_links (omega arith));
      ports = f.ports;
      links = λ k b. fits_more (length r.table.ports) (f.links k b) (omega arith);
    })
