-- The climb over the forest at the start, and which of its two ends was reached over a link.
use Prim.Native.Nat.{ℕ, ◌<◌}
use mathlib.Core.Path.{◌≡◌, sym, ap, ◌∙◌}
use mathlib.Core.Logic.{inl, ◌≢◌}
use mathlib.Core.List.Memᴰ.{eq_of_singleton as only}
use mathlib.Core.List.Memᴰ.{not-nil}
use mathlib.Core.List.{List, []}
use native.Mathlib.Omega.{arith}
use lib.ListN.{get_or}
use Rattle.specification.specs.Table.{Table, IsPort, from, to}
use Rattle.numbers.specs.Lists.{none, more}
use Rattle.specification.specs.Ratios.{stay, walk}
use Rattle.ways.specs.WayLaws.{linked, joined_component, component_unique}
use Rattle.forest.specs.Loop.{Closing}
use Rattle.forest.specs.Climb.{along, Climb}

module _ {t : Table} {labels reach via : List ℕ} {k : ℕ} {numbers : List ℕ} (closing : Closing t labels reach via k numbers) where
  pub sender : IsPort t (from t k)
  sender = record { below = (closing.well_formed.links k closing.a_link.below).from }

  pub receiver : IsPort t (to t k)
  receiver = record { below = (closing.well_formed.links k closing.a_link.below).to }

  ends_label : get_or labels (to t k) 0 ≡ get_or labels (from t k) 0
  ends_label =
      let each = closing.components.each in
      component_unique (each (to t k) receiver) (joined_component (linked closing.a_link) (each (from t k) sender))

  pub climb_none : Climb t labels reach via k (to t k) (from t k) [] []
  climb_none = record {
    a_port = receiver;
    b_port = sender;
    same_label = ends_label;
    there = walk (along k) closing.a_link stay;
    back = stay;
    ports = more not-nil none;
    left = λ x m. inl (only m);
    links = more not-nil none;
    over_forest = λ s m. absurd (not-nil m);
    few_a = omega (arith, closing.forest.few (to t k) receiver);
    few_b = omega (arith, closing.forest.few (from t k) sender);
  }

  -- the later of two ports with one label was reached over a link
  module _ {p q : ℕ} (p_port : IsPort t p) (q_port : IsPort t q) (same : get_or labels p 0 ≡ get_or labels q 0)
      (later : get_or reach q 0 < get_or reach p 0) where
    pub not_lowest : get_or labels p 0 ≢ p
    not_lowest e = omega (arith, closing.forest.root_first q q_port, ap (λ (x : ℕ). get_or reach x 0) (sym same ∙ e))
