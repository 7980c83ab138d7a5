-- A pass over the links that is under way: what the next link asks and does.
use Prim.Native.Nat.{ℕ, ◌+◌, ◌≤◌, ◌<◌}
use mathlib.Core.Path.{◌≡◌, refl, sym, ap}
use mathlib.Core.Logic.{⊎_elim, inl, inr}
use mathlib.Core.List.{List}
use native.Mathlib.Nat.{le_refl}
use native.Mathlib.Omega.{arith}
use borrow.Author.Count.{below_more}
use Rattle.table.specs.WellFormed.{WellFormed, PartFits}
use Rattle.table.specs.Slices.{SameLink}
use Rattle.specification.specs.declared.Link.{Link}
use Rattle.specification.specs.Table.{Table, link_count, link, IsLink, from, to, num, den}
use Rattle.forest.specs.declared.spanning.Growing.{Growing}
use Rattle.forest.specs.Spreading.{Spreading, Followable, Unchanged, Followed, Closed, Passed}
use Rattle.forest.proofs.spanning.Numbers.{numbered_few}
use Rattle.forest.proofs.spanning.Starting.{near_more}
use Rattle.forest.proofs.spanning.Extending.{LinkEnds, extended_spreading}

-- ---- one link from one end to the other
module _ {f f' : Growing} {rows rows' : List (List ℕ)} {p q k times by : ℕ} (x : Followed f rows p q k times by f' rows') where
  followed_grown : f.count ≤ f'.count
  followed_grown = ⊎_elim (λ e. rw e.made (omega arith)) (λ u. rw u.same (le_refl f.count)) x.case

  -- where no port was added
  followed_same : f'.count ≡ f.count → Unchanged f rows p q f' rows'
  followed_same h = ⊎_elim (λ e. absurd (omega (arith, ap (λ (g : Growing). g.count) e.made))) (λ u. u) x.case

  followed_spreading : {t : Table} → LinkEnds t k p q times by → Spreading t f rows → Spreading t f' rows'
  followed_spreading l s = ⊎_elim (λ e. extended_spreading s l e) (λ u. rw (u.same, u.rows_same) s) x.case

-- the ends and parts of link k
pub record Named (t : Table) (k u v n d : ℕ) : Type 0 where
  pub sender : u ≡ from t k
  pub receiver : v ≡ to t k
  pub above : n ≡ num t k
  pub below : d ≡ den t k

pub ends_named : {t : Table} {k : ℕ} {l : Link} → SameLink l (link t k) → Named t k l.from l.to l.num l.den
ends_named s = record { sender = s.fields.from; receiver = s.fields.to; above = s.fields.num; below = s.fields.den }

module _ {t : Table} where
  module _ (formed : WellFormed t) {k u v n d : ℕ} (below : k < link_count t) (ends : Named t k u v n d) where
    a_link : IsLink t k
    a_link = record { below = below }

    forth : LinkEnds t k u v d n
    forth = rw (ends.sender, ends.receiver, ends.above, ends.below) (record {
      a_link = a_link;
      one = record { below = (formed.links k below).from };
      one_below = omega (arith, (formed.links k below).from, formed.few_ports);
      other_below = omega (arith, (formed.links k below).to, formed.few_ports);
      ends = inr (refl, refl);
      times_most = λ m most d. most.den_most k a_link (λ e. d (sym e));
      by_most = λ m most d. most.num_most k a_link (λ e. d (sym e));
      fits = λ rows e. record { fits = e };
    })

    back : LinkEnds t k v u n d
    back = rw (ends.sender, ends.receiver, ends.above, ends.below) (record {
      a_link = a_link;
      one = record { below = (formed.links k below).to };
      one_below = omega (arith, (formed.links k below).to, formed.few_ports);
      other_below = omega (arith, (formed.links k below).from, formed.few_ports);
      ends = inl (refl, refl);
      times_most = λ m most. most.num_most k a_link;
      by_most = λ m most. most.den_most k a_link;
      fits = λ rows e. record { fits = sym e };
    })

    module _ {f : Growing} {rows : List (List ℕ)} (s : Spreading t f rows) where
      followable : {p q times by : ℕ} → LinkEnds t k p q times by → PartFits times → PartFits by → Followable f rows p q times by
      followable {p} l a b = record {
        few = numbered_few s.numbered;
        spreadable = record {
          one = l.one_below;
          other = l.other_below;
          times_fits = a;
          by_fits = b;
          near = near_more (s.near p l.one_below) (omega (arith, numbered_few s.numbered, s.numbered.within p));
        };
      }

      pub follow_forth : Followable f rows u v d n
      follow_forth = followable forth (rw ends.below (formed.links k below).den) (rw ends.above (formed.links k below).num)

      pub follow_back : Followable f rows v u n d
      follow_back = followable back (rw ends.above (formed.links k below).num) (rw ends.below (formed.links k below).den)

    module _ {f f₁ : Growing} {rows rows₁ : List (List ℕ)} (x : Followed f rows u v k d n f₁ rows₁) where
      pub spreading_forth : Spreading t f rows → Spreading t f₁ rows₁
      spreading_forth s = followed_spreading x forth s

      module _ {f₂ : Growing} {rows₂ : List (List ℕ)} (y : Followed f₁ rows₁ v u k n d f₂ rows₂) where
        -- neither way added a port
        closed_on : {f₀ : Growing} → Passed t k f₀ f rows → f₂.count ≡ f₀.count → Closed t (k + 1) f₂
        closed_on {f₀} p e =
            let b = followed_same y (omega (arith, followed_grown x, followed_grown y, p.grown)) in
            let a = followed_same x (omega (arith, followed_grown x, followed_grown y, p.grown)) in
            let c = p.closed (omega (arith, followed_grown x, followed_grown y, p.grown)) in
            rw (b.same, a.same) (record {
              along = below_more _ k c.along (rw (ends.sender, ends.receiver) at a.done);
              against = below_more _ k c.against (rw (a.same, ends.sender, ends.receiver) at b.done);
            })

        pub passed_on : {f₀ : Growing} → Passed t k f₀ f rows → Passed t (k + 1) f₀ f₂ rows₂
        passed_on p = record {
          within = omega arith;
          spreading = followed_spreading y back (spreading_forth p.spreading);
          grown = omega (arith, followed_grown x, followed_grown y, p.grown);
          closed = closed_on p;
        }
