-- Laws of the constraint graph: the ends of its connections are ports of the component, a port names it, and D is whole.
use Rattle.std.specs.Prelude.{ℕ, ◌*◌, ◌/◌, ◌<◌, ◌≡◌}
use Rattle.numbers.specs.DivisorLaws.{quotient_is}
use Rattle.table.specs.WellFormed.{WellFormed}
use Rattle.specification.specs.Table.{Table, IsPort, IsLink, from, to, δ°}
use Rattle.specification.specs.Ratios.{Component, IsComponent, weighed⁺, weighed⁻, AllWhole}
use Rattle.ways.specs.WayLaws.{linked, joined_component, way_port}
use Rattle.specification.specs.Periods.{PortIn, ConnectionIn}

module _ {t : Table} (formed : WellFormed t) where
  -- the ends of a link are ports
  pub from_port : (k : ℕ) → IsLink t k → IsPort t (from t k)
  from_port k i = record { below = (formed.links k i.below).from }

  pub to_port : (k : ℕ) → IsLink t k → IsPort t (to t k)
  to_port k i = record { below = (formed.links k i.below).to }

  -- those of a connection of component c are ports of component c
  pub from_in : {c k : ℕ} → ConnectionIn t c k → PortIn t c (from t k)
  from_in {k = k} e = record { a_port = from_port k e.connection.a_link; component = e.component }

  pub to_in : {c k : ℕ} → ConnectionIn t c k → PortIn t c (to t k)
  to_in {k = k} e = record {
    a_port = to_port k e.connection.a_link;
    component = joined_component (linked e.connection.a_link) e.component;
  }

  -- the port that names a component names its own
  pub names_component : {p c : ℕ} → IsPort t p → Component t p c → IsComponent t c
  names_component i h = record { a_port = way_port formed h.joined.way i; lowest = joined_component h.joined h }

  -- δ has a denominator
  pub some_over : (k : ℕ) → IsLink t k → 0 < δ° t k
  some_over k i = (formed.links k i.below).over_least

-- D times the denominator of δ is its amount times the weight
module _ {t : Table} {w : ℕ → ℕ} (whole : AllWhole t w) where
  pub forward_whole : (k : ℕ) → IsLink t k → δ° t k * (weighed⁺ t w k / δ° t k) ≡ weighed⁺ t w k
  forward_whole k i = quotient_is (whole.each k i).forward

  pub back_whole : (k : ℕ) → IsLink t k → δ° t k * (weighed⁻ t w k / δ° t k) ≡ weighed⁻ t w k
  back_whole k i = quotient_is (whole.each k i).back
