-- Tables that mean the same: they differ at most in how each δ is written, as 4/2 in a record of kind 4 and 2 in one of kind 2.
use Rattle.std.specs.Prelude.{ℕ, ◌*◌, ◌/◌, ◌≡◌, cond, map}
use Rattle.numbers.specs.Divisors.{Divides}
use Rattle.specification.specs.Table.{Table, link_count, link, is_buffer, IsLink, δ⁺, δ⁻, δ°}
use Rattle.specification.specs.declared.Link.{Link}
use Rattle.specification.specs.declared.Read.{Read}
use Rattle.specification.specs.declared.Read.TheVariants.{LinkRecord, Refused}

-- the same ends, ratio and ε, both buffers or both not, and δ of one value
pub record SameMeaning (l m : Link) : Type 0 where
  pub from : l.from ≡ m.from
  pub to : l.to ≡ m.to
  pub num : l.num ≡ m.num
  pub den : l.den ≡ m.den
  pub ticks : l.ticks ≡ m.ticks
  pub buffer : is_buffer l ≡ is_buffer m
  pub events_forward : l.events.0 * m.over ≡ m.events.0 * l.over
  pub events_back : l.events.1 * m.over ≡ m.events.1 * l.over

-- the same ports, and at each number links that mean the same
pub record SameModel (t u : Table) : Type 0 where
  pub ports : t.ports ≡ u.ports
  pub count : link_count t ≡ link_count u
  pub links : (k : ℕ) → IsLink t k → SameMeaning (link t k) (link u k)

-- two records are refused alike, or links that mean the same
pub data SameRead : Read → Read → Type 0 where
  both_refused : (number place : ℕ) → SameRead (Refused number place) (Refused number place)
  both_links : {l m : Link} (next next' : ℕ) → SameMeaning l m → SameRead (LinkRecord l next) (LinkRecord m next')

-- ---- whole δ
-- every δ of the table is whole, as 4/2 is
pub record AllEventsWhole (t : Table) : Type 0 where
  pub forward : (k : ℕ) → IsLink t k → Divides (δ° t k) (δ⁺ t k)
  pub back : (k : ℕ) → IsLink t k → Divides (δ° t k) (δ⁻ t k)

-- a link without a denominator, as document 01 has it: of kind 2, a buffer of kind 3
unfoldable pub undivided : Link → Link
undivided l = record {
  from = l.from;
  to = l.to;
  num = l.num;
  den = l.den;
  ticks = l.ticks;
  events = (l.events.0 / l.over, l.events.1 / l.over);
  over = 1;
  kind = cond (is_buffer l) 3 2;
}

unfoldable pub undivided_table : Table → Table
undivided_table t = record { ports = t.ports; links = map undivided t.links }
