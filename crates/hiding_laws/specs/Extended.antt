-- A solution of the table where port p is hidden is, with some period and start of p, a solution of the table.
use Rattle.std.specs.Prelude.{ℕ, ◌*◌, ◌≤◌, ◌<◌, ◌≡◌, refl, ◌≢◌, cond, eqb}
use Rattle.std.proofs.Common.{sym, ap, ◌∙◌, ⊎_elim, mul-lt-mul_of_pos_right, arith, eq-eqb, ne_eqb}
use Rattle.std.proofs.Math.Decide.{ℕ_discrete, dec_lt}
use Rattle.numbers.specs.Rationals.{Rational, ◌≼◌, ◌≺◌, ◌≈◌, ◌⊕◌, ◌⊗◌, ◌·◌, whole, share}
use Rattle.numbers.specs.RationalLaws.{≼_trans, ≈-≼, ≈_sym, ≈_trans, ≈_refl, ⊕-≈, ·-≈, ·-≼, ·-·, ·_cancel_≼, ·_cancel_≈}
use Rattle.specification.specs.Table.{port, Table, IsPort, IsLink, from, to, num, den, IsConnection, δ°, port_count, link_count}
use Rattle.specification.specs.Solutions.{ε, δ, Ratios, Starts, IsSolution}
use Rattle.specification.specs.Hiding.{old_number, new_number}
use Rattle.specification.specs.HiddenTimes.{Extension}
use Rattle.table.specs.WellFormed.{WellFormed}
use Rattle.hiding_laws.specs.PortNumbers.{old_other, new_of_old, old_of_new, new_below}
use Rattle.hiding_laws.specs.Costs.{cross, both_events, added, split, same_times, swap, whole_times, whole_≤, Greatest, greatest}
use Rattle.hiding_laws.specs.HiddenOf.{Into, OutOf, Apart, HiddenOf}

-- x at p, and f elsewhere
abbrev with_start : ℕ → Rational → (ℕ → Rational) → ℕ → Rational
with_start p x f q = cond (eqb q p) x (f (new_number p q))

at_p : (p : ℕ) (x : Rational) (f : ℕ → Rational) → with_start p x f p ≡ x
at_p p x f = rw (eq-eqb p p refl)

at_old : (p : ℕ) (x : Rational) (f : ℕ → Rational) (r q : ℕ) → old_number p r ≡ q → with_start p x f q ≡ f r
at_old p x f r q e = rw (← e) (rw (ne_eqb (old_number p r) p (old_other p r), new_of_old p r) refl)

-- a limit a of b times x is at least r of m times x
larger : (a b r m : ℕ) (x : Rational) → 0 < b → b * r ≤ m * a → whole a ≼ b · x → whole r ≼ m · x
larger a b r m x some h l =
    ·_cancel_≼ b some
    (≼_trans (≈-≼ (whole_times b r))
    (≼_trans (whole_≤ (b * r) (m * a) h)
    (≼_trans (≈-≼ (≈_sym (whole_times m a))) (≼_trans (·-≼ m l) (≈-≼ (swap m b x))))))

module _ {t t' : Table} {p : ℕ} {P' S' : ℕ → Rational} (formed : WellFormed t) (formed' : WellFormed t') (hidden : HiddenOf t t' p)
    (sol : IsSolution t' P' S') where
  abbrev x₀ : ℕ
  x₀ = hidden.x

  abbrev i₀ : Into t p hidden.x
  i₀ = hidden.slowed.into

  link_num : {k : ℕ} → IsLink t k → 0 < num t k
  link_num {k} i = (formed.links k i.below).num.least

  link_den : {k : ℕ} → IsLink t k → 0 < den t k
  link_den {k} i = (formed.links k i.below).den.least

  -- the period of p: that of the slowed sender, divided by the ratio
  abbrev pp : Rational
  pp = share (den t hidden.x) (num t hidden.x) (link_num hidden.slowed.into.a_link) ⊗ P' (new_number p (from t hidden.x))

  abbrev P : ℕ → Rational
  P = with_start p pp P'

  period_old : (r : ℕ) {q : ℕ} → old_number p r ≡ q → P q ≡ P' r
  period_old r {q} e = at_old p pp P' r q e

  period_p : P p ≡ pp
  period_p = at_p p pp P'

  period_new : {q : ℕ} → q ≢ p → P q ≡ P' (new_number p q)
  period_new {q} n = at_old p pp P' (new_number p q) q (old_of_new p q n)

  -- of the first connection into p
  first_ratio : num t x₀ · P p ≈ den t x₀ · P (from t x₀)
  first_ratio = rw (period_p, period_new i₀.other) (shared (den t x₀) (num t x₀) (link_num i₀.a_link) (P' (new_number p (from t x₀))))
    where
      shared : (d n : ℕ) (some : 0 < n) (z : Rational) → n · (share d n some ⊗ z) ≈ d · z
      shared d n some z = omega arith

  -- the product of the two ratios
  pair_ratio : {x y : ℕ} → Into t p x → OutOf t p y → (num t x * num t y) · P (to t y) ≈ (den t x * den t y) · P (from t x)
  pair_ratio {x} {y} i o =
      let (j, v) = hidden.made x y i o in
      let e : num t' j · P (to t y) ≈ den t' j · P (from t x) =
      rw (period_old (to t' j) v.to_same, period_old (from t' j) v.from_same) (sol.ratios.holds j v.a_link) in
      cross (num t' j) (den t' j) (num t x * num t y) (den t x * den t y) (P (to t y)) (P (from t x))
      (formed'.links j v.a_link.below).den.least v.ratio_is e

  -- (1)
  out_ratio : {y : ℕ} → OutOf t p y → num t y · P (to t y) ≈ den t y · P p
  out_ratio {y} o =
      let n = num t x₀ in
      let d = den t x₀ in
      ·_cancel_≈ n (link_num i₀.a_link)
      (≈_trans (·-· n (num t y) (P (to t y)))
      (≈_trans (pair_ratio i₀ o)
      (≈_trans (same_times (P (from t x₀)) (omega arith))
      (≈_trans (≈_sym (·-· (den t y) d (P (from t x₀))))
      (≈_trans (·-≈ (den t y) (≈_sym first_ratio)) (swap (den t y) n (P p)))))))

  into_ratio : {x : ℕ} → Into t p x → num t x · P p ≈ den t x · P (from t x)
  into_ratio {x} i =
      let (y, o) = hidden.first_out in
      ·_cancel_≈ (den t y) (link_den o.a_link)
      (≈_trans (swap (den t y) (num t x) (P p))
      (≈_trans (·-≈ (num t x) (≈_sym (out_ratio o)))
      (≈_trans (·-· (num t x) (num t y) (P (to t y)))
      (≈_trans (pair_ratio i o)
      (≈_trans (same_times (P (from t x)) (omega arith)) (≈_sym (·-· (den t y) (den t x) (P (from t x)))))))))

  apart_ratio : {k : ℕ} → Apart t p k → num t k · P (to t k) ≈ den t k · P (from t k)
  apart_ratio {k} a =
      let (j, h) = hidden.kept k a in
      rw (period_old (to t' j) h.to_same, period_old (from t' j) h.from_same, ← h.num_same, ← h.den_same) (sol.ratios.holds j h.a_link)

  ratios : Ratios t P
  ratios = record {
    holds = λ k i. ⊎_elim
        (λ (a : Apart t p k). apart_ratio a)
        (λ h. ⊎_elim
        (λ (n : Into t p k). rw (ap P n.ends) (into_ratio n))
        (λ (o : OutOf t p k). rw (ap P o.begins) (out_ratio o)) h)
        (hidden.each k i);
  }

  -- (2): what a connection into p asks of p's start; 0 stands where a link has no denominator, which none has
  asked : (k : ℕ) → Dec (0 < δ° t k) → Rational
  asked k (yes some) = S' (new_number p (from t k)) ⊕ ε t k ⊕ δ t k some ⊗ P (from t k)
  asked k (no n) = whole 0

  asks : ℕ → Rational
  unfolding asked
  asks k = asked k (dec_lt 0 (δ° t k))

  asked_is : (k : ℕ) (d : Dec (0 < δ° t k)) (some : 0 < δ° t k) → asked k d ≈ S' (new_number p (from t k)) ⊕ ε t k ⊕ δ t k some ⊗ P (from t k)
  unfolding asked
  asked_is k (yes s) some = record { holds = (≈_refl (S' (new_number p (from t k)) ⊕ ε t k ⊕ δ t k s ⊗ P (from t k))).holds }
  asked_is k (no n) some = absurd (n some)

  asks_is : (k : ℕ) (some : 0 < δ° t k) → asks k ≈ S' (new_number p (from t k)) ⊕ ε t k ⊕ δ t k some ⊗ P (from t k)
  unfolding asks
  asks_is k some = asked_is k (dec_lt 0 (δ° t k)) some

  most : Greatest asks (λ k. to t k ≡ p) (link_count t)
  most = greatest asks (λ k. to t k ≡ p) (λ k. ℕ_discrete (to t k) p) (link_count t) x₀ i₀.a_link.below i₀.ends

  into_of : (k : ℕ) → IsLink t k → to t k ≡ p → Into t p k
  into_of k i e = ⊎_elim
      (λ (a : Apart t p k). absurd (a.to_other e))
      (λ h. ⊎_elim (λ (n : Into t p k). n) (λ (o : OutOf t p k). absurd (o.other e)) h)
      (hidden.each k i)

  abbrev S : ℕ → Rational
  S = with_start p (asks most.at) S'

  start_old : (r : ℕ) {q : ℕ} → old_number p r ≡ q → S q ≡ S' r
  start_old r {q} e = at_old p (asks most.at) S' r q e

  start_p : S p ≡ asks most.at
  start_p = at_p p (asks most.at) S'

  start_new : {q : ℕ} → q ≢ p → S q ≡ S' (new_number p q)
  start_new {q} n = at_old p (asks most.at) S' (new_number p q) q (old_of_new p q n)

  into_start : {k : ℕ} → Into t p k → (some : 0 < δ° t k) → S (from t k) ⊕ ε t k ⊕ δ t k some ⊗ P (from t k) ≼ S p
  into_start {k} i some =
      rw (start_new i.other, start_p)
      (≼_trans (≈-≼ (≈_sym (asks_is k some))) (most.most k i.a_link.below i.ends))

  out_start : {k : ℕ} → OutOf t p k → (some : 0 < δ° t k) → S p ⊕ ε t k ⊕ δ t k some ⊗ P p ≼ S (to t k)
  out_start {k} o some =
      let x = most.at in
      let i = into_of x (record { below = most.below }) most.passes in
      let (j, v) = hidden.made x k i o in
      let a = (formed'.links j v.a_link.below).over_least in
      let b = (formed.links x i.a_link.below).over_least in
      let n = link_num i.a_link in
      let new : S (from t x) ⊕ ε t' j ⊕ δ t' j a ⊗ P (from t x) ≼ S (to t k) =
      rw (start_old (from t' j) v.from_same, start_old (to t' j) v.to_same, period_old (from t' j) v.from_same)
      (sol.starts.holds j (record { a_link = v.a_link; events = v.events }) a) in
      let events = both_events (num t x) (den t x) (P (from t x)) (P p) (δ t x b) (δ t k some) (δ t' j a) n (into_ratio i) (v.events_are a b some n) in
      let old : asks x ≈ S (from t x) ⊕ ε t x ⊕ δ t x b ⊗ P (from t x) = rw (start_new i.other) (asks_is x b) in
      rw start_p
      (≼_trans (≈-≼ (split (asks x) (ε t k) (δ t k some ⊗ P p)))
      (≼_trans (≈-≼ (⊕-≈ old (≈_refl (ε t k ⊕ δ t k some ⊗ P p))))
      (≼_trans (≈-≼ (≈_sym (added (S (from t x)) (ε t x) (ε t k) (δ t x b ⊗ P (from t x)) (δ t k some ⊗ P p))))
      (≼_trans (≈-≼ (≈_sym (⊕-≈ (⊕-≈ (≈_refl (S (from t x))) v.ticks_are) events))) new))))

  apart_start : {k : ℕ} → Apart t p k → IsConnection t k → (some : 0 < δ° t k)
      → S (from t k) ⊕ ε t k ⊕ δ t k some ⊗ P (from t k) ≼ S (to t k)
  apart_start {k} a c some =
      let (j, h) = hidden.kept k a in
      let new = sol.starts.holds j (record { a_link = h.a_link; events = h.kind_same ∙ c.events }) (rw (← h.over_same) at some) in
      record {
        holds = rw (
          start_old (from t' j) h.from_same,
          start_old (to t' j) h.to_same,
          period_old (from t' j) h.from_same,
          ← h.forward_ticks,
          ← h.back_ticks,
          ← h.forward_events,
          ← h.back_events,
          ← h.over_same,
        ) new.holds;
      }

  starts : Starts t P S
  starts = record {
    holds = λ k c some. ⊎_elim
        (λ (a : Apart t p k). apart_start a c some)
        (λ h. ⊎_elim
        (λ (n : Into t p k). rw (ap S n.ends) (into_start n some))
        (λ (o : OutOf t p k). rw (ap S o.begins, ap P o.begins) (out_start o some)) h)
        (hidden.each k c.a_link);
  }

  -- (3)
  sender_old : P (from t x₀) ≡ P' hidden.q
  sender_old = period_old hidden.q hidden.slowed.sender

  slow : whole (port t' hidden.q).den ≼ (port t' hidden.q).num · P (from t x₀)
  slow = rw sender_old (sol.rates.holds hidden.q q_port)
    where
      q_port : IsPort t' hidden.q
      q_port = record {
        below = rw (sym (ap (new_number p) hidden.slowed.sender) ∙ new_of_old p hidden.q) at (new_below p (from t x₀) (port_count t') i₀.other
            (omega (arith, hidden.count, hidden.a_port.below)) (omega (arith, hidden.count, (formed.links x₀ i₀.a_link.below).from)));
      }

  p_rate : whole (port t p).den ≼ (port t p).num · P p
  p_rate = ⊎_elim
      (λ (some : 0 < (port t' hidden.q).num).
      let n = num t x₀ in
      let d = den t x₀ in
      ·_cancel_≼ n (link_num i₀.a_link)
      (≼_trans (≈-≼ (≈_trans (whole_times n (port t p).den) (same_whole (omega arith))))
      (≼_trans (larger (port t' hidden.q).den (port t' hidden.q).num ((port t p).den * n) ((port t p).num * d) (P (from t x₀)) some
      hidden.slowed.enough slow)
      (≈-≼ (≈_trans (≈_sym (·-· (port t p).num d (P (from t x₀)))) (≈_trans (·-≈ (port t p).num (≈_sym first_ratio)) (swap (port t p).num n (P p))))))))
      (λ (none : ((port t p).num ≡ 0) × ((port t p).den ≡ 0) × ((port t (from t x₀)).num ≡ 0) × ((port t (from t x₀)).den ≡ 0)). rw (none.0, none.1) (omega arith))
      hidden.slowed.some
    where
      same_whole : {m n : ℕ} → m ≡ n → whole m ≈ whole n
      same_whole e = rw e (≈_refl _)

  sender_rate : whole (port t (from t x₀)).den ≼ (port t (from t x₀)).num · P (from t x₀)
  sender_rate = ⊎_elim
      (λ (some : 0 < (port t' hidden.q).num).
      larger (port t' hidden.q).den (port t' hidden.q).num (port t (from t x₀)).den (port t (from t x₀)).num (P (from t x₀)) some
      hidden.slowed.no_more slow)
      (λ (none : ((port t p).num ≡ 0) × ((port t p).den ≡ 0) × ((port t (from t x₀)).num ≡ 0) × ((port t (from t x₀)).den ≡ 0)). rw (none.2, none.3) (omega arith))
      hidden.slowed.some

  below_of : {q : ℕ} → IsPort t q → q ≢ p → IsPort t' (new_number p q)
  below_of {q} i n = record {
    below = new_below p q (port_count t') n (omega (arith, hidden.count, hidden.a_port.below)) (omega (arith, hidden.count, i.below));
  }

  other_rate : (q : ℕ) → IsPort t q → q ≢ p → Dec (new_number p q ≡ hidden.q) → whole (port t q).den ≼ (port t q).num · P q
  other_rate q i n (yes e) =
      let here : q ≡ from t x₀ = sym (old_of_new p q n) ∙ ap (old_number p) e ∙ hidden.slowed.sender in
      rw here sender_rate
  other_rate q i n (no f) =
      let e = hidden.others (new_number p q) (below_of i n) f ∙ ap (port t) (old_of_new p q n) in
      rw (← e, period_new n) (sol.rates.holds (new_number p q) (below_of i n))

  each_rate : (q : ℕ) → IsPort t q → Dec (q ≡ p) → whole (port t q).den ≼ (port t q).num · P q
  each_rate q i (yes e) = rw e p_rate
  each_rate q i (no n) = other_rate q i n (ℕ_discrete (new_number p q) hidden.q)

  each_above : (q : ℕ) → IsPort t q → Dec (q ≡ p) → whole 0 ≺ P q
  each_above q i (yes e) = rw (e, period_p)
      (above (den t x₀) (num t x₀) (link_num i₀.a_link) (P' (new_number p (from t x₀))) (link_den i₀.a_link)
      (sol.above_zero (new_number p (from t x₀)) (below_of (record { below = (formed.links x₀ i₀.a_link.below).from }) i₀.other)))
    where
      above : (d n : ℕ) (some : 0 < n) (z : Rational) → 0 < d → whole 0 ≺ z → whole 0 ≺ share d n some ⊗ z
      above d n some z h l = omega (arith, mul-lt-mul_of_pos_right l.holds h)
  each_above q i (no n) = rw (period_new n) (sol.above_zero (new_number p q) (below_of i n))

  extended : IsSolution t P S
  extended = record {
    above_zero = λ q i. each_above q i (ℕ_discrete q p);
    ratios = ratios;
    starts = starts;
    rates = record { holds = λ q i. each_rate q i (ℕ_discrete q p) };
  }

  pub extension : Extension t p P' S'
  extension = record {
    period = P;
    start = S;
    same = record { period = λ r. sym (period_old r refl); start = λ r. sym (start_old r refl) };
    solution = extended;
  }
