-- Sound labels that are the same at both ends of each link are the components.
use Prim.Native.Nat.{ℕ, ◌≤◌}
use mathlib.Core.Bool.{Bool, true, false, cond}
use mathlib.Core.Path.{◌≡◌, refl, sym, ◌∙◌}
use mathlib.Core.List.{List}
use native.Mathlib.Omega.{arith}
use lib.ListN.{get_or}
use Rattle.table.specs.WellFormed.{WellFormed}
use Rattle.specification.specs.Table.{Table, port_count, link_count, IsLink, from, to}
use Rattle.specification.specs.Ratios.{Step, Way, stay, walk}
use Rattle.ways.specs.WayLaws.{step_port, way_port}
use Rattle.ways.specs.Labels.{Components}
use Rattle.ways.specs.Passes.{Sound, Even}

module _ {t : Table} where
  -- a way from a number that is no port goes nowhere
  way_alone : {p q : ℕ} {path : List Step} → WellFormed t → Way t p q path → port_count t ≤ p → q ≡ p
  way_alone formed stay h = refl
  way_alone formed (walk s i w) h = absurd (omega (arith, (step_port formed s i).below))

  module _ {l : List ℕ} (even : Even t (link_count t) l) where
    step_even : (k : ℕ) (b : Bool) → IsLink t k
        → get_or l (cond b (to t k) (from t k)) 0 ≡ get_or l (cond b (from t k) (to t k)) 0
    step_even k true i = sym (even.ends k i.below)
    step_even k false i = even.ends k i.below

    way_even : {p q : ℕ} {path : List Step} → Way t p q path → get_or l p 0 ≡ get_or l q 0
    way_even stay = refl
    way_even (walk s i w) = step_even s.number s.against i ∙ way_even w

    pub lowest_all : WellFormed t → Sound t l → Components t l
    lowest_all formed sound = record {
      long = sound.long;
      each = λ p i. record {
        joined = (sound.each p (omega (arith, i.below, formed.few_ports))).joined;
        lowest = λ q j. omega (
          arith,
          way_even j.way,
          (sound.each q (omega (arith, (way_port formed j.way i).below, formed.few_ports))).low,
        );
      };
      rest = λ p h b. way_alone formed (sound.each p b).joined.way h;
    }
