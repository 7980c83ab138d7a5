-- The hidden table is within the limits, so it can be read back.
use Rattle.std.specs.Prelude.{ℕ, ◌+◌, ◌*◌, ◌-◌, ◌≤◌, ◌<◌, ◌≡◌, Bool, true, not, ◌&&◌, ◌≢◌, ◌⊎◌, eqb, ltb, length, get_or}
use Rattle.std.proofs.Math.Path.{refl, subst}
use Rattle.std.proofs.Common.{sym, ap, ◌∙◌, true≢false, ⊎_elim}
use Rattle.std.proofs.Math.Bool.{false}
use Rattle.std.proofs.Math.Decide.{ℕ_discrete}
use native.Mathlib.Omega.{arith}
use Rattle.std.proofs.Math.ListN.{length-map}
use borrow.Author.Tests.{eqb-false, ltb-false, not-true, not-false}
use Rattle.numbers.specs.ListLaws.{lt_or_le}
use Rattle.specification.specs.Table.{Table, port_count, link_count, no_port, port, link, most_links, most_part, most_ticks, most_over, most_events}
use Rattle.specification.specs.Reading.{start}
use Rattle.specification.specs.Encoding.{encode_table, most_table_bytes}
use Rattle.numbers.specs.Lists.{keep}
use Rattle.specification.specs.Hiding.{
  apart,
  none,
  links_into,
  links_from,
  cannot_hide,
  sender_link,
  sender,
  limit_rate,
  lowers,
  lowered_ports,
  slower,
  via,
  made_links,
  rate_leaves,
  link_leaves,
  value_leaves,
  new_number,
  old_number,
  renumbered,
  links_after,
  hidden_table,
}
use Rattle.specification.specs.declared.Link.{Link}
use Rattle.table.specs.WellFormed.{PortFits, LinkFits, OneSided, WellFormed}
use Rattle.table.specs.ReadingLaws.{between_fits, fits_more}
use Rattle.encoding.specs.EncodingLaws.{ports_length, links_most, table_length}
use Rattle.encoding.specs.ReadBack.{Writable, writable_formed}
use Rattle.hiding_laws.specs.TestLaws.{left_false, right_false, left_true}
use Rattle.hiding_laws.specs.PortNumbers.{old_below, new_below}
use Rattle.hiding_laws.specs.ListLaws.{At, at_either, none_passes, map_at, made_at}
use Rattle.hiding_laws.specs.PortLaws.{lowered_sender, lowered_other}
use Rattle.hiding_laws.specs.ViaLaws.{via_num, via_den, via_over, via_one_way}
use Rattle.hiding_laws.specs.SlowLaws.{carried_num, carried_den}
use Rattle.hiding_laws.specs.IsHidden.{hidden_port, into_number, from_number, apart_number, count, port_after_lem, sender_port, sender_other, sender_fits}

-- ---- a connection that 19 does not refuse
record InRange (l : Link) : Type 0 where
  num : l.num ≤ most_part
  den : l.den ≤ most_part
  ticks_forward_lem : l.ticks.0 ≤ most_ticks
  ticks_back_lem : l.ticks.1 ≤ most_ticks
  over : l.over ≤ most_over
  events_forward : l.events.0 ≤ most_events * l.over
  events_back : l.events.1 ≤ most_events * l.over

in_range : (l : Link) → link_leaves l ≡ false → InRange l
unfolding link_leaves
in_range l e₁ =
    let e₂ = right_false (ltb most_part l.num) _ e₁ in
    let e₃ = right_false (ltb most_part l.den) _ e₂ in
    let e₄ = right_false (ltb most_ticks l.ticks.0) _ e₃ in
    let e₅ = right_false (ltb most_ticks l.ticks.1) _ e₄ in
    let e₆ = right_false (ltb most_over l.over) _ e₅ in
    record {
      num = ltb-false most_part l.num (left_false (ltb most_part l.num) _ e₁);
      den = ltb-false most_part l.den (left_false (ltb most_part l.den) _ e₂);
      ticks_forward_lem = ltb-false most_ticks l.ticks.0 (left_false (ltb most_ticks l.ticks.0) _ e₃);
      ticks_back_lem = ltb-false most_ticks l.ticks.1 (left_false (ltb most_ticks l.ticks.1) _ e₄);
      over = ltb-false most_over l.over (left_false (ltb most_over l.over) _ e₅);
      events_forward = ltb-false (most_events * l.over) l.events.0 (left_false (ltb (most_events * l.over) l.events.0) _ e₆);
      events_back = ltb-false (most_events * l.over) l.events.1 (right_false (ltb (most_events * l.over) l.events.0) _ e₆);
    }

pub via_fits : {n : ℕ} (x y : Link) → LinkFits n x → LinkFits n y → link_leaves (via x y) ≡ false → LinkFits n (via x y)
unfolding via
via_fits x y f g e =
    let r = in_range (via x y) e in
    record {
      from = f.from;
      to = g.to;
      num = record { least = via_num x y f.num.least g.num.least f.den.least g.den.least; most = r.num };
      den = record { least = via_den x y f.den.least g.den.least; most = r.den };
      ticks_forward_lem = r.ticks_forward_lem;
      ticks_back_lem = r.ticks_back_lem;
      over_least = via_over x y f.over_least g.over_least f.num.least;
      over_most = r.over;
      events_forward = r.events_forward;
      events_back = r.events_back;
      kind_least = omega arith;
      kind_most = omega arith;
    }

difference : (a b : ℕ) → (a - b) * (b - a) ≡ 0
difference a b = ⊎_elim
    (λ (h : a < b). let z : a - b ≡ 0 = omega arith in rw z (omega arith))
    (λ (h : b ≤ a). let z : b - a ≡ 0 = omega arith in rw z (omega arith)) (lt_or_le a b)

one_zero : (a b : ℕ) → (a ≡ 0) ⊎ (b ≡ 0) → a * b ≡ 0
one_zero a b h = ⊎_elim (λ (e : a ≡ 0). rw e (omega arith)) (λ (e : b ≡ 0). rw e (omega arith)) h

via_sided : (x y : Link) → 0 < x.over → 0 < y.over → 0 < x.num → OneSided (via x y)
unfolding via
via_sided x y a b n = record {
  ticks = difference (x.ticks.0 + y.ticks.0) (x.ticks.1 + y.ticks.1);
  events = one_zero (via x y).events.0 (via x y).events.1 (via_one_way x y a b n);
  no_events = λ e. absurd (true≢false (sym e));
  whole_events = λ e. absurd (true≢false e);
}

renumbered_sided : {l : Link} (p : ℕ) → OneSided l → OneSided (renumbered p l)
renumbered_sided p o = record { ticks = o.ticks; events = o.events; no_events = o.no_events; whole_events = o.whole_events }

module _ (t : Table) (p : ℕ) (formed : WellFormed t) (sided : (k : ℕ) → k < link_count t → OneSided (link t k))
    (can : cannot_hide t p ≡ false) (stays : value_leaves t p ≡ false) (few : length (links_after t p) ≤ most_links) where
  abbrev t' : Table
  t' = hidden_table t p

  none_leaves : none (keep link_leaves (made_links t p)) ≡ true
  unfolding value_leaves
  none_leaves = not-false (none (keep link_leaves (made_links t p))) (right_false (lowers t p && rate_leaves (limit_rate t p)) _ stays)

  -- ---- links
  record After (l : Link) : Type 0 where
    fits : LinkFits (port_count t') l
    one_sided : OneSided l

  moved : (l : Link) → LinkFits (port_count t) l → OneSided l → l.from ≢ p → l.to ≢ p → After (renumbered p l)
  moved l f o a b = record {
    fits = between_fits (new_number p l.from) (new_number p l.to) f (below l.from a f.from) (below l.to b f.to);
    one_sided = renumbered_sided p o;
  }
    where
      below : (q : ℕ) → q ≢ p → q < port_count t → new_number p q < port_count t'
      below q d h =
          let c = count t p formed can in
          new_below p q (port_count t') d (omega (arith, c, (hidden_port t p can).below)) (omega (arith, c))

  made_after : (x y : Link) → LinkFits (port_count t) x → LinkFits (port_count t) y → x.from ≢ p → y.to ≢ p → link_leaves (via x y) ≡ false
      → After (renumbered p (via x y))
  unfolding via
  made_after x y f g a b e = moved (via x y) (via_fits x y f g e) (via_sided x y f.over_least g.over_least f.num.least) a b

  link_after_lem : {l : Link} → At (links_after t p) l → After (renumbered p l)
  link_after_lem {l} h = ⊎_elim
      (λ (a : At (keep (apart p) t.links) l).
      let n = apart_number t p formed can a in
      let i = n.holds.a_link.below in
      subst (λ (z : Link). After (renumbered p z)) n.is
      (moved (link t n.k) (formed.links n.k i) (sided n.k i) n.holds.from_other n.holds.to_other))
      (λ (a : At (made_links t p) l).
      let m = made_at (links_into t p) (links_from t p) a in
      let x = into_number t p formed can m.first_at in
      let y = from_number t p formed can m.second_at in
      let f = formed.links x.k x.holds.a_link.below in
      let g = formed.links y.k y.holds.a_link.below in
      let is : via (link t x.k) (link t y.k) ≡ l =
      ap (λ (z : Link). via z (link t y.k)) x.is ∙ ap (via m.first) y.is ∙ sym m.is in
      subst (λ (z : Link). After (renumbered p z)) is
      (made_after (link t x.k) (link t y.k) f g x.holds.other y.holds.other
      (ap link_leaves is ∙ none_passes link_leaves (made_links t p) none_leaves a)))
      (at_either (keep (apart p) t.links) (made_links t p) h)

  each_after : (k : ℕ) → k < link_count t' → After (link t' k)
  unfolding hidden_table
  each_after k h =
      let c = map_at (renumbered p) (links_after t p) (record { place = k; below = h; is = refl }) in
      subst After (sym c.is) (link_after_lem c.at)

  -- ---- ports
  limit_fits : lowers t p ≡ true → PortFits (limit_rate t p)
  unfolding value_leaves lowers
  limit_fits e =
      let stay : rate_leaves (limit_rate t p) ≡ false = rw e at (left_false (lowers t p && rate_leaves (limit_rate t p)) _ stays) in
      let positive : 0 < (port t p).num = above (eqb-false (port t p).num 0 (not-true (eqb (port t p).num 0) (left_true (not (eqb (port t p).num 0)) (slower (limit_rate t p) (port t (sender t p))) e))) in
      let over = (formed.ports p (hidden_port t p can).below).rated positive in
      let l = sender_fits t p formed can in
      let num = carried_num (port t p) (sender_link t p) (port t (sender t p)) positive over l.num.least l.den.least in
      let den = carried_den (port t p) (sender_link t p) (port t (sender t p)) positive over l.num.least l.den.least in
      record {
        num_most = ltb-false most_part (limit_rate t p).num (left_false (ltb most_part (limit_rate t p).num) (ltb most_part (limit_rate t p).den) stay);
        den_most = ltb-false most_part (limit_rate t p).den (right_false (ltb most_part (limit_rate t p).num) (ltb most_part (limit_rate t p).den) stay);
        rated = λ _. den;
        unrated = λ z. absurd (omega (arith, z, num));
      }
    where
      above : {n : ℕ} → ¬ (n ≡ 0) → 0 < n
      above d = omega arith

  port_fits : (q : ℕ) → q < port_count t → PortFits (get_or (lowered_ports t p) q no_port)
  port_fits q h = at (ℕ_discrete q (sender t p))
    where
      by : (b : Bool) → lowers t p ≡ b → PortFits (get_or (lowered_ports t p) (sender t p) no_port)
      by true e = subst PortFits (sym (lowered_sender t p true e (sender_port t p formed can))) (limit_fits e)
      by false e = subst PortFits (sym (lowered_sender t p false e (sender_port t p formed can))) (formed.ports (sender t p) (sender_port t p formed can).below)

      at : Dec (q ≡ sender t p) → PortFits (get_or (lowered_ports t p) q no_port)
      at (yes e) = subst (λ (i : ℕ). PortFits (get_or (lowered_ports t p) i no_port)) (sym e) (by (lowers t p) refl)
      at (no d) = subst PortFits (sym (lowered_other t p q d)) (formed.ports q h)

  count_after : link_count t' ≡ length (links_after t p)
  unfolding hidden_table
  count_after = length-map (links_after t p) (renumbered p)

  pub hidden_writable : Writable start (hidden_table t p)
  hidden_writable =
      let c = count t p formed can in
      record {
        few_ports = omega (arith, c, formed.few_ports);
        few_links = omega (arith, count_after, few);
        few_named = omega (arith, c, formed.few_ports);
        may_come = λ _. refl;
        ports = λ q h. subst PortFits (sym (port_after_lem t p formed can q))
            (port_fits (old_number p q) (rw c at (old_below p q (port_count t') h (omega (arith, c, (hidden_port t p can).below)))));
        links = λ k h. fits_more (0 + port_count t') (each_after k h).fits (omega arith);
        sided = λ k h. (each_after k h).one_sided;
      }

  -- the hidden port has a sender, so a port is left
  pub some_left : 0 < port_count (hidden_table t p)
  some_left =
      omega (arith, count t p formed can, two)
    where
      at_least : (a b n : ℕ) → a < n → b < n → a ≢ b → 1 < n
      at_least a b n h k d = ⊎_elim (λ (l : 1 < n). l) (λ (l : n ≤ 1). absurd (d (omega arith))) (lt_or_le 1 n)

      two : 1 < port_count t
      two = at_least (sender t p) p (port_count t) (sender_port t p formed can).below (hidden_port t p can).below (sender_other t p formed can)

  pub hidden_formed : WellFormed (hidden_table t p)
  hidden_formed = writable_formed hidden_writable some_left

  pub hidden_most : length (encode_table (hidden_table t p)) ≤ most_table_bytes
  hidden_most =
      let w = hidden_writable in
      omega (arith, table_length t', ports_length t'.ports, links_most t'.links, w.few_ports, w.few_links)
