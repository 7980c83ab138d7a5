-- A forest that no link can extend spans the components.
use Prim.Native.Nat.{ℕ, ◌≤◌, ◌<◌, ◌-◌}
use mathlib.Core.Bool.{Bool, true, false, cond}
use mathlib.Core.Logic.{◌≢◌, ⊎_elim}
use mathlib.Core.List.{List}
use native.Mathlib.Omega.{arith}
use lib.ListN.{get_or}
use Rattle.specification.specs.Table.{Table, link_count, IsPort, IsLink, from, to}
use Rattle.specification.specs.Ratios.{Step, Way, stay, walk, Joined}
use Rattle.ways.specs.WayLaws.{linked, joined_sym, joined_component, component_unique}
use Rattle.ways.specs.Labels.{Components}
use Rattle.forest.specs.Forest.{HasEnds, Reached}
use Rattle.forest.specs.PortRows.{Spanned}
use Rattle.forest.specs.declared.spanning.Growing.{Growing}
use Rattle.forest.specs.Spreading.{Child, Spreading, Closed, Passed}
use Rattle.forest.proofs.spanning.Numbers.{numbered_few}
use Rattle.forest.proofs.spanning.Starting.{near_more}

-- a pass that reaches a port leaves fewer
pub passed_less : {t : Table} {n : ℕ} {f f' : Growing} {rows : List (List ℕ)} → Passed t n f f' rows → f'.count ≢ f.count
    → 64 - f'.count < 64 - f.count
passed_less p d = omega (arith, numbered_few p.spreading.numbered, p.grown)

ends_joined : (t : Table) (k p q : ℕ) → IsLink t k → HasEnds t k p q → Joined t q p
ends_joined t k p q i e =
    ⊎_elim (λ x. rw (x.0, x.1) at (joined_sym (linked i))) (λ x. rw (x.0, x.1) at (linked i)) e

module _ {t : Table} {f : Growing} (closed : Closed t (link_count t) f) where
  step_reached : (k : ℕ) (b : Bool) → IsLink t k → 0 < get_or f.reach (cond b (from t k) (to t k)) 0
      → 0 < get_or f.reach (cond b (to t k) (from t k)) 0
  step_reached k true i h = closed.along k i.below h
  step_reached k false i h = closed.against k i.below h

  -- where the end of a way is reached its start is
  way_reached : {p q : ℕ} {path : List Step} → Way t p q path → 0 < get_or f.reach q 0 → 0 < get_or f.reach p 0
  way_reached stay h = h
  way_reached (walk s i w) h = step_reached s.number s.against i (way_reached w h)

  module _ {labels : List ℕ} {rows : List (List ℕ)} (components : Components t labels) (s : Spreading t f rows) where
    all_reached : (p : ℕ) → IsPort t p → 0 < get_or f.reach p 0
    all_reached p i =
        let c = components.each p i in
        way_reached c.joined.way (s.root p (get_or labels p 0) i c)

    child_of : (p : ℕ) → IsPort t p → get_or labels p 0 ≢ p → Child t f rows p
    child_of p i d = s.child p i (all_reached p i) (λ c. d (component_unique (components.each p i) c))

    is_reached : (p : ℕ) → IsPort t p → Child t f rows p → Reached t labels f.reach f.via p
    is_reached p i c = record {
      parent = c.parent;
      a_port = c.a_port;
      a_link = c.a_link;
      ends = c.ends;
      earlier = c.earlier;
      same_label = component_unique
          (joined_component (ends_joined t (get_or f.via p 0) p c.parent c.a_link c.ends) (components.each c.parent c.a_port))
          (components.each p i);
    }

    few : (p : ℕ) → get_or f.reach p 0 ≤ 64
    few p = omega (arith, numbered_few s.numbered, s.numbered.within p)

    pub closed_spanned : Spanned t labels f.reach f.via rows
    closed_spanned = record {
      forest = record {
        reach_long = s.numbered.long;
        via_long = s.via_long;
        order = λ p q i j. s.numbered.order p q (all_reached p i);
        few = λ p i. few p;
        some = all_reached;
        root_first = λ p i. s.root_first p (get_or labels p 0) i (components.each p i) (all_reached p i);
        reached = λ p i d. is_reached p i (child_of p i d);
      };
      port_rows = record {
        all = s.rows_long;
        near = λ p h. near_more (s.near p h) (few p);
      };
      over_forest = record { a_link = λ p i d. (child_of p i d).a_link; fits = λ p i d. (child_of p i d).fits };
      up_to = s.up_to;
    }
