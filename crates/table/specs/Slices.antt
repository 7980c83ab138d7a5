-- How a table stands in two slices of numbers: two numbers for each port, ten for each link.
use Rattle.std.specs.Prelude.{ℕ, zero, suc, ◌+◌, ◌*◌, ◌/◌, ◌≡◌, List, [], ◌∷◌, ◌++◌, length, get_or}
use Rattle.specification.specs.Table.{Table}
use Rattle.specification.specs.declared.Port.{Port}
use Rattle.specification.specs.declared.Link.{Link}

-- ---- the numbers of ports and links
abbrev pub port_numbers : List Port → List ℕ
port_numbers [] = []
port_numbers (p ∷ ps) = p.num ∷ p.den ∷ port_numbers ps

abbrev pub link_numbers : List Link → List ℕ
link_numbers [] = []
link_numbers (l ∷ ls) =
    l.from ∷ l.to ∷ l.num ∷ l.den ∷ l.ticks.0 ∷ l.ticks.1 ∷ l.events.0 ∷ l.events.1 ∷ l.over ∷ l.kind ∷ link_numbers ls

-- ---- the table that slices are of: as many ports and links as there are numbers for
abbrev pub port_in : List ℕ → ℕ → Port
port_in s p = record { num = get_or s (2 * p) 0; den = get_or s (2 * p + 1) 0 }

abbrev pub link_in : List ℕ → ℕ → Link
link_in s k = record {
  from = get_or s (10 * k) 0;
  to = get_or s (10 * k + 1) 0;
  num = get_or s (10 * k + 2) 0;
  den = get_or s (10 * k + 3) 0;
  ticks = (get_or s (10 * k + 4) 0, get_or s (10 * k + 5) 0);
  events = (get_or s (10 * k + 6) 0, get_or s (10 * k + 7) 0);
  over = get_or s (10 * k + 8) 0;
  kind = get_or s (10 * k + 9) 0;
}

-- f of 0, 1, .. up to n
abbrev pub firsts : {A : Type 0} → (ℕ → A) → ℕ → List A
firsts f zero = []
firsts f (suc n) = firsts f n ++ (f n ∷ [])

unfoldable pub ports_of : List ℕ → List Port
ports_of s = firsts (port_in s) (length s / 2)

unfoldable pub links_of : List ℕ → List Link
links_of s = firsts (link_in s) (length s / 10)

abbrev pub table_of : (ports links : List ℕ) → Table
table_of ports links = record { ports = ports_of ports; links = links_of links }

-- ---- r is the link x, said field by field: a field then needs no rewriting
pub record LinkFields (r x : Link) : Type 0 where
  pub from : r.from ≡ x.from
  pub to : r.to ≡ x.to
  pub num : r.num ≡ x.num
  pub den : r.den ≡ x.den
  pub ticks_forward_lem : r.ticks.0 ≡ x.ticks.0
  pub ticks_back_lem : r.ticks.1 ≡ x.ticks.1
  pub events_forward : r.events.0 ≡ x.events.0
  pub events_back : r.events.1 ≡ x.events.1
  pub over : r.over ≡ x.over
  pub kind : r.kind ≡ x.kind

-- and the whole too
pub record SameLink (r x : Link) : Type 0 where
  pub whole : r ≡ x
  pub fields : LinkFields r x
  pub ticks : r.ticks ≡ x.ticks
  pub events : r.events ≡ x.events
