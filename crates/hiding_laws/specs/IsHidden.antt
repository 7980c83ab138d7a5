-- The table of the definitions of hiding is the table where the port is hidden.
use Rattle.std.specs.Prelude.{ℕ, ◌+◌, ◌*◌, ◌<◌, ◌≡◌, Bool, true, not, ◌||◌, ◌≢◌, ◌⊎◌, map, eqb, leb, length, get_or}
use Rattle.std.proofs.Math.Path.{refl, ap, subst}
use Rattle.std.proofs.Common.{sym, ◌∙◌, arith}
use Rattle.std.proofs.Math.Bool.{false}
use Rattle.std.proofs.Math.Logic.{inl, inr, ⊎_elim}
use Rattle.std.proofs.Math.Decide.{ℕ_discrete}
use borrow.Author.Tests.{eq-eqb, ne_eqb, eqb-true, eqb-false, leb-false, not-true, not-false}
use Rattle.numbers.specs.Rationals.{◌≈◌, ◌⊕◌, ◌⊗◌, ratio, share, signed}
use Rattle.specification.specs.Table.{Table, port_count, no_port, port, link, is_buffer, IsPort, IsLink, from, to, num, den}
use Rattle.specification.specs.Solutions.{ε, δ}
use Rattle.numbers.specs.Lists.{keep}
use Rattle.specification.specs.Hiding.{
  goes_into,
  comes_from,
  touches,
  apart,
  bars,
  none,
  links_into,
  links_from,
  cannot_hide,
  slower,
  sender_link,
  sender,
  limit_rate,
  lowers,
  lowered_ports,
  via,
  made_links,
  new_number,
  old_number,
  renumbered,
  links_after,
  hidden_table,
}
use Rattle.specification.specs.declared.Port.{Port}
use Rattle.specification.specs.declared.Link.{Link}
use Rattle.table.specs.WellFormed.{PortFits, LinkFits, WellFormed}
use Rattle.hiding_laws.specs.TestLaws.{left_false, right_false}
use Rattle.hiding_laws.specs.PortNumbers.{old_of_new, new_of_old}
use Rattle.hiding_laws.specs.ListLaws.{At, at_left, at_right, at_either, at_keep, keep_at, none_passes, some_at, at_map, map_at, at_made, made_at, sender_at}
use Rattle.hiding_laws.specs.PortLaws.{without_length, without_at, lowered_length, lowered_sender, lowered_other}
use Rattle.hiding_laws.specs.ViaLaws.{via_ratio, via_ticks, via_events, via_one_way}
use Rattle.hiding_laws.specs.SlowLaws.{Rated, Slow, slow_none, slow_lowered, slow_kept}
use Rattle.hiding_laws.specs.HiddenOf.{Into, OutOf, Apart, Kept, Via, Slowed, HiddenOf}

or_true : (a : Bool) → (a || true) ≡ true
or_true true = refl
or_true false = refl

pub rated_fits : {p : Port} → PortFits p → Rated p
rated_fits {p} f = by (ℕ_discrete p.num 0)
  where
    by : Dec (p.num ≡ 0) → Rated p
    by (yes e) = inr (e, f.unrated e)
    by (no d) = let some : 0 < p.num = omega arith in inl (some, f.rated some)

-- ---- what 18 leaves
module _ (t : Table) (p : ℕ) (can : cannot_hide t p ≡ false) where
  not_many : (not (none (keep (bars p) t.links)) || (none (links_into t p) || none (links_from t p))) ≡ false
  unfolding cannot_hide
  not_many = right_false (leb (port_count t) p) _ can

  pub hidden_port : IsPort t p
  unfolding cannot_hide
  hidden_port = record { below = leb-false (port_count t) p (left_false (leb (port_count t) p) _ can) }

  no_bars : none (keep (bars p) t.links) ≡ true
  no_bars = not-false (none (keep (bars p) t.links)) (left_false (not (none (keep (bars p) t.links))) _ not_many)

  not_alone : (none (links_into t p) || none (links_from t p)) ≡ false
  not_alone = right_false (not (none (keep (bars p) t.links))) _ not_many

  some_into : none (links_into t p) ≡ false
  some_into = left_false (none (links_into t p)) (none (links_from t p)) not_alone

  some_from : none (links_from t p) ≡ false
  some_from = right_false (none (links_into t p)) (none (links_from t p)) not_alone

  -- a link that touches p is no buffer and does not join p to itself
  pub clean : {l : Link} → At t.links l → touches p l ≡ true → (is_buffer l || eqb l.from l.to) ≡ false
  clean h e = rw e at (none_passes (bars p) t.links no_bars h)

-- ---- links by number, and as they stand in the list
link_at : (t : Table) (k : ℕ) → IsLink t k → At t.links (link t k)
link_at t k i = record { place = k; below = i.below; is = refl }

touches_to : (p : ℕ) (l : Link) → l.to ≡ p → touches p l ≡ true
touches_to p l e = rw (eq-eqb l.to p e)

touches_from : (p : ℕ) (l : Link) → l.from ≡ p → touches p l ≡ true
touches_from p l e = rw (eq-eqb l.from p e) (or_true (eqb l.to p))

module _ (t : Table) (p : ℕ) (formed : WellFormed t) (can : cannot_hide t p ≡ false) where
  pub is_into : (k : ℕ) → IsLink t k → to t k ≡ p → Into t p k
  is_into k i e =
      let c = clean t p can (link_at t k i) (touches_to p (link t k) e) in
      record {
        a_link = i;
        ends = e;
        other = λ f. eqb-false (from t k) (to t k) (right_false (is_buffer (link t k)) (eqb (from t k) (to t k)) c) (f ∙ sym e);
        events = left_false (is_buffer (link t k)) (eqb (from t k) (to t k)) c;
      }

  pub is_out : (k : ℕ) → IsLink t k → from t k ≡ p → OutOf t p k
  is_out k i e =
      let c = clean t p can (link_at t k i) (touches_from p (link t k) e) in
      record {
        a_link = i;
        begins = e;
        other = λ f. eqb-false (from t k) (to t k) (right_false (is_buffer (link t k)) (eqb (from t k) (to t k)) c) (e ∙ sym f);
        events = left_false (is_buffer (link t k)) (eqb (from t k) (to t k)) c;
      }

  each : (k : ℕ) → IsLink t k → Apart t p k ⊎ (Into t p k ⊎ OutOf t p k)
  each k i = decided (ℕ_discrete (to t k) p) (ℕ_discrete (from t k) p)
    where
      decided : Dec (to t k ≡ p) → Dec (from t k ≡ p) → Apart t p k ⊎ (Into t p k ⊎ OutOf t p k)
      decided (yes e) f = inr (inl (is_into k i e))
      decided (no g) (yes e) = inr (inr (is_out k i e))
      decided (no g) (no f) = inl (record { a_link = i; from_other = f; to_other = g })

  -- the number of a link that stands into p, out of p, or apart
  pub record NumberOf (Q : ℕ → Type 0) (l : Link) : Type 0 where
    pub k : ℕ
    pub is : link t k ≡ l
    pub holds : Q k

  pub into_number : {l : Link} → At (links_into t p) l → NumberOf (Into t p) l
  into_number {l} h =
      let g = keep_at (goes_into p) t.links h in
      let k = g.at.place in
      record { k = k; is = g.at.is; holds = is_into k (record { below = g.at.below }) (ap (λ (x : Link). x.to) g.at.is ∙ eqb-true l.to p g.passes) }

  pub from_number : {l : Link} → At (links_from t p) l → NumberOf (OutOf t p) l
  from_number {l} h =
      let g = keep_at (comes_from p) t.links h in
      let k = g.at.place in
      record { k = k; is = g.at.is; holds = is_out k (record { below = g.at.below }) (ap (λ (x : Link). x.from) g.at.is ∙ eqb-true l.from p g.passes) }

  pub apart_number : {l : Link} → At (keep (apart p) t.links) l → NumberOf (Apart t p) l
  apart_number {l} h =
      let g = keep_at (apart p) t.links h in
      let k = g.at.place in
      let free = not-true (touches p l) g.passes in
      record {
        k = k;
        is = g.at.is;
        holds = record {
          a_link = record { below = g.at.below };
          from_other = λ e. eqb-false l.from p (right_false (eqb l.to p) (eqb l.from p) free) (sym (ap (λ (x : Link). x.from) g.at.is) ∙ e);
          to_other = λ e. eqb-false l.to p (left_false (eqb l.to p) (eqb l.from p) free) (sym (ap (λ (x : Link). x.to) g.at.is) ∙ e);
        };
      }

  into_at : {x : ℕ} → Into t p x → At (links_into t p) (link t x)
  into_at {x} i = at_keep (goes_into p) t.links (link_at t x i.a_link) (eq-eqb (to t x) p i.ends)

  from_at : {y : ℕ} → OutOf t p y → At (links_from t p) (link t y)
  from_at {y} o = at_keep (comes_from p) t.links (link_at t y o.a_link) (eq-eqb (from t y) p o.begins)

  apart_at : {k : ℕ} → Apart t p k → At (keep (apart p) t.links) (link t k)
  apart_at {k} a = at_keep (apart p) t.links (link_at t k a.a_link) (rw (ne_eqb (to t k) p a.to_other, ne_eqb (from t k) p a.from_other))

  first_out : (y : ℕ) × OutOf t p y
  first_out = let n = from_number (some_at (links_from t p) (some_from t p can)) in (n.k, n.holds)

  -- ---- the links of the hidden table
  abbrev t' : Table
  t' = hidden_table t p

  links_are : t'.links ≡ map (renumbered p) (links_after t p)
  unfolding hidden_table
  links_are = refl

  -- link j of the hidden table is this one
  kept_is : {k j : ℕ} → Apart t p k → IsLink t' j → link t' j ≡ renumbered p (link t k) → Kept t t' p k j
  kept_is {k} {j} a i e = record {
    a_link = i;
    from_same = ap (λ (l : Link). old_number p l.from) e ∙ old_of_new p (from t k) a.from_other;
    to_same = ap (λ (l : Link). old_number p l.to) e ∙ old_of_new p (to t k) a.to_other;
    num_same = ap (λ (l : Link). l.num) e;
    den_same = ap (λ (l : Link). l.den) e;
    forward_ticks = ap (λ (l : Link). l.ticks.0) e;
    back_ticks = ap (λ (l : Link). l.ticks.1) e;
    forward_events = ap (λ (l : Link). l.events.0) e;
    back_events = ap (λ (l : Link). l.events.1) e;
    over_same = ap (λ (l : Link). l.over) e;
    kind_same = ap (λ (l : Link). is_buffer l) e;
  }

  via_is : {x y j : ℕ} → Into t p x → OutOf t p y → IsLink t' j → link t' j ≡ renumbered p (via (link t x) (link t y)) → Via t t' p x y j
  unfolding via
  via_is {x} {y} {j} n o i e =
      let a = formed.links x n.a_link.below in
      let b = formed.links y o.a_link.below in
      record {
        a_link = i;
        events = ap (λ (l : Link). is_buffer l) e;
        from_same = ap (λ (l : Link). old_number p l.from) e ∙ old_of_new p (from t x) n.other;
        to_same = ap (λ (l : Link). old_number p l.to) e ∙ old_of_new p (to t y) o.other;
        ratio_is = subst (λ (l : Link). l.num * (den t x * den t y) ≡ num t x * num t y * l.den) (sym e)
            (via_ratio (link t x) (link t y) a.den.least b.den.least);
        one_way = subst (λ (l : Link). (l.events.0 ≡ 0) ⊎ (l.events.1 ≡ 0)) (sym e)
            (via_one_way (link t x) (link t y) a.over_least b.over_least a.num.least);
        ticks_are = subst (λ (l : Link). signed l.ticks.0 l.ticks.1 ≈ ε t x ⊕ ε t y) (sym e) (via_ticks (link t x) (link t y));
        events_are = λ s₁ s₂ s₃ s₄.
            subst (λ (l : Link). (z : 0 < l.over) → ratio l.events.0 l.events.1 l.over z ≈ δ t x s₂ ⊕ share (den t x) (num t x) s₄ ⊗ δ t y s₃)
            (sym e) (λ z. via_events (link t x) (link t y) s₂ s₃ s₄ z) s₁;
      }

  kept : (k : ℕ) → Apart t p k → (j : ℕ) × Kept t t' p k j
  unfolding hidden_table
  kept k a =
      let h = at_map (renumbered p) (links_after t p) (at_left (keep (apart p) t.links) (made_links t p) (apart_at a)) in
      (h.place, kept_is a (record { below = h.below }) h.is)

  made : (x y : ℕ) → Into t p x → OutOf t p y → (j : ℕ) × Via t t' p x y j
  unfolding hidden_table
  made x y n o =
      let m = at_made (links_into t p) (links_from t p) (into_at n) (from_at o) in
      let h = at_map (renumbered p) (links_after t p) (at_right (keep (apart p) t.links) (made_links t p) m) in
      (h.place, via_is n o (record { below = h.below }) h.is)

  only : (j : ℕ) → IsLink t' j
      → ((k : ℕ) × Apart t p k × Kept t t' p k j) ⊎ ((x : ℕ) × (y : ℕ) × Into t p x × OutOf t p y × Via t t' p x y j)
  unfolding hidden_table
  only j i =
      let c = map_at (renumbered p) (links_after t p) (record { place = j; below = i.below; is = refl }) in
      ⊎_elim
      (λ (h : At (keep (apart p) t.links) c.of).
      let n = apart_number h in
      inl (n.k, n.holds, kept_is n.holds i (c.is ∙ ap (renumbered p) (sym n.is))))
      (λ (h : At (made_links t p) c.of).
      let m = made_at (links_into t p) (links_from t p) h in
      let x = into_number m.first_at in
      let y = from_number m.second_at in
      inr (
        x.k,
        y.k,
        x.holds,
        y.holds,
        via_is x.holds y.holds i
            (c.is ∙ ap (renumbered p) (m.is ∙ ap (λ (l : Link). via l m.second) (sym x.is) ∙ ap (via (link t x.k)) (sym y.is))),
      ))
      (at_either (keep (apart p) t.links) (made_links t p) c.at)

  -- ---- the ports of the hidden table
  here : p < length (lowered_ports t p)
  here = omega (arith, lowered_length t p, (hidden_port t p can).below)

  pub count : port_count t' + 1 ≡ port_count t
  unfolding hidden_table
  count = without_length p (lowered_ports t p) here ∙ lowered_length t p

  pub port_after_lem : (r : ℕ) → port t' r ≡ get_or (lowered_ports t p) (old_number p r) no_port
  unfolding hidden_table
  port_after_lem r = without_at p (lowered_ports t p) here r

  -- the connection of the lowest sender
  sent : NumberOf (Into t p) (sender_link t p)
  sent = into_number (sender_at (links_into t p) (some_into t p can))

  sender_is : from t sent.k ≡ sender t p
  sender_is = ap (λ (l : Link). l.from) sent.is

  pub sender_port : IsPort t (sender t p)
  sender_port = record { below = rw sender_is at (formed.links sent.k sent.holds.a_link.below).from }

  pub sender_other : sender t p ≢ p
  sender_other e = sent.holds.other (sender_is ∙ e)

  pub sender_fits : LinkFits (port_count t) (sender_link t p)
  sender_fits = subst (λ (l : Link). LinkFits (port_count t) l) sent.is (formed.links sent.k sent.holds.a_link.below)

  -- its sender's rate
  slow : Slow (port t p) (sender_link t p) (port t (sender t p)) (get_or (lowered_ports t p) (sender t p) no_port)
  unfolding lowers
  slow = ⊎_elim
      (λ (h : (0 < (port t p).num) × (0 < (port t p).den)). finite h (slower (limit_rate t p) (port t (sender t p))) refl)
      (λ (h : ((port t p).num ≡ 0) × ((port t p).den ≡ 0)).
      rw (lowered_sender t p false (rw (eq-eqb (port t p).num 0 h.0)) sender_port)
      (slow_none (port t p) (sender_link t p) (port t (sender t p)) h.0 h.1 rated))
      (rated_fits (formed.ports p (hidden_port t p can).below))
    where
      rated : Rated (port t (sender t p))
      rated = rated_fits (formed.ports (sender t p) sender_port.below)

      finite : (0 < (port t p).num) × (0 < (port t p).den) → (b : Bool) → slower (limit_rate t p) (port t (sender t p)) ≡ b
          → Slow (port t p) (sender_link t p) (port t (sender t p)) (get_or (lowered_ports t p) (sender t p) no_port)
      finite h true e =
          rw (lowered_sender t p true (rw (ne_eqb (port t p).num 0 (λ z. omega (arith, z, h.0)), e)) sender_port)
          (slow_lowered (port t p) (sender_link t p) (port t (sender t p)) h.0 h.1 sender_fits.num.least sender_fits.den.least rated e)
      finite h false e =
          rw (lowered_sender t p false (rw (ne_eqb (port t p).num 0 (λ z. omega (arith, z, h.0)), e)) sender_port)
          (slow_kept (port t p) (sender_link t p) (port t (sender t p)) h.0 h.1 sender_fits.num.least sender_fits.den.least rated e)

  -- as number x of t and number q of the hidden table
  slow_at : Slow (port t p) (link t sent.k) (port t (from t sent.k)) (port t' (new_number p (sender t p)))
  slow_at =
      let e : port t' (new_number p (sender t p)) ≡ get_or (lowered_ports t p) (sender t p) no_port =
      port_after_lem (new_number p (sender t p)) ∙ ap (λ (q : ℕ). get_or (lowered_ports t p) q no_port) (old_of_new p (sender t p) sender_other) in
      subst (λ (z : Port). Slow (port t p) (link t sent.k) (port t (from t sent.k)) z) (sym e)
      (subst (λ (l : Link). Slow (port t p) l (port t l.from) (get_or (lowered_ports t p) (sender t p) no_port)) (sym sent.is) slow)

  slowed : Slowed t t' p sent.k (new_number p (sender t p))
  slowed = record {
    into = sent.holds;
    sender = old_of_new p (sender t p) sender_other ∙ sym sender_is;
    no_more = slow_at.no_more;
    enough = slow_at.enough;
    one = slow_at.one;
    some = slow_at.some;
  }

  others : (r : ℕ) → r ≢ new_number p (sender t p) → port t' r ≡ port t (old_number p r)
  others r d = port_after_lem r ∙ lowered_other t p (old_number p r) (λ e. d (sym (new_of_old p r) ∙ ap (new_number p) e))

  pub is_hidden : HiddenOf t (hidden_table t p) p
  is_hidden = record {
    a_port = hidden_port t p can;
    count = count;
    each = each;
    first_out = first_out;
    kept = kept;
    made = made;
    only = only;
    x = sent.k;
    q = new_number p (sender t p);
    slowed = slowed;
    others = λ r i d. others r d;
  }
