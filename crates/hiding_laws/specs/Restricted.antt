-- A solution of a table, without its port p, is a solution of the table where p is hidden.
use Rattle.std.specs.Prelude.{ℕ, ◌*◌, ◌<◌, ◌≡◌}
use Rattle.std.proofs.Common.{sym, ap, ◌∙◌, ⊎_elim, mul-pos, arith}
use Rattle.std.proofs.Math.Decide.{ℕ_discrete}
use Rattle.numbers.specs.Rationals.{Rational, ◌≼◌, ◌≈◌, ◌⊕◌, ◌⊗◌, ◌·◌, whole}
use Rattle.numbers.specs.RationalLaws.{≼_trans, ≈-≼, ≈_sym, ≈_trans, ≈_refl, ⊕-≈, ⊕_right_≼, ·-≈, ·-≼, ·-·, ·_cancel_≼}
use Rattle.specification.specs.Table.{port, Table, IsPort, IsLink, from, to, num, den, IsConnection, δ°}
use Rattle.specification.specs.Solutions.{ε, δ, IsSolution}
use Rattle.specification.specs.Hiding.{old_number}
use Rattle.specification.specs.HiddenTimes.{Without}
use Rattle.table.specs.WellFormed.{WellFormed}
use Rattle.hiding_laws.specs.Costs.{cross, in_turn_lem, both_events, added, split, swap, whole_times}
use Rattle.hiding_laws.specs.HiddenOf.{Into, OutOf, Apart, Kept, Via, HiddenOf, old_port}

-- x and y with what they add come no later than z
pub two_steps : (a b c d e s z : Rational) → a ⊕ b ⊕ d ≼ s → s ⊕ c ⊕ e ≼ z → a ⊕ (b ⊕ c) ⊕ (d ⊕ e) ≼ z
two_steps a b c d e s z h k =
    ≼_trans (≈-≼ (added a b c d e)) (≼_trans (⊕_right_≼ (c ⊕ e) h) (≼_trans (≈-≼ (≈_sym (split s c e))) k))

-- a rate limit carried along a ratio: n · y ≈ d · x, and r / m of y is as a / b of x
pub carried : (n d m r a b : ℕ) (x y : Rational) → 0 < m * d → n · y ≈ d · x → b * (r * n) ≡ m * d * a → whole r ≼ m · y → whole a ≼ b · x
carried n d m r a b x y some h e l =
    ·_cancel_≼ (m * d) some
    (≼_trans (≈-≼ (≈_trans (whole_times (m * d) a) (≈_trans (same e) (≈_sym (≈_trans (·-≈ b (whole_times n r)) (whole_times b (n * r)))))))
    (≼_trans (·-≼ b (·-≼ n l)) (≈-≼ (≈_trans (·-≈ b (≈_trans (swap n m y) (≈_trans (·-≈ m h) (·-· m d x)))) (swap b (m * d) x)))))
  where
    same : b * (r * n) ≡ m * d * a → whole (m * d * a) ≈ whole (b * (n * r))
    same e = let e' : m * d * a ≡ b * (n * r) = omega (arith, e) in rw e' (≈_refl _)

module _ {t t' : Table} {p : ℕ} {P S P' S' : ℕ → Rational} (formed : WellFormed t) (hidden : HiddenOf t t' p)
    (same : Without p P S P' S') (sol : IsSolution t P S) where
  into_ratio : {x : ℕ} → Into t p x → num t x · P p ≈ den t x · P (from t x)
  into_ratio {x} i = rw i.ends at (sol.ratios.holds x i.a_link)

  out_ratio : {y : ℕ} → OutOf t p y → num t y · P (to t y) ≈ den t y · P p
  out_ratio {y} o = rw o.begins at (sol.ratios.holds y o.a_link)

  den_some : {k : ℕ} → IsLink t k → 0 < den t k
  den_some {k} i = (formed.links k i.below).den.least

  num_some : {k : ℕ} → IsLink t k → 0 < num t k
  num_some {k} i = (formed.links k i.below).num.least

  period_at : (r : ℕ) {q : ℕ} → old_number p r ≡ q → P' r ≡ P q
  period_at r e = same.period r ∙ ap P e

  start_at_lem : (r : ℕ) {q : ℕ} → old_number p r ≡ q → S' r ≡ S q
  start_at_lem r e = same.start r ∙ ap S e

  -- (1)
  kept_ratio : {k j : ℕ} → Apart t p k → Kept t t' p k j → num t' j · P' (to t' j) ≈ den t' j · P' (from t' j)
  kept_ratio {k} {j} a h =
      rw (h.num_same, h.den_same, period_at (to t' j) h.to_same, period_at (from t' j) h.from_same) (sol.ratios.holds k a.a_link)

  via_ratio : {x y j : ℕ} → Into t p x → OutOf t p y → Via t t' p x y j → num t' j · P' (to t' j) ≈ den t' j · P' (from t' j)
  via_ratio {x} {y} {j} i o v = rw (period_at (to t' j) v.to_same, period_at (from t' j) v.from_same)
      (cross (num t x * num t y) (den t x * den t y) (num t' j) (den t' j) (P (to t y)) (P (from t x))
      (mul-pos (den_some i.a_link) (den_some o.a_link))
      (sym v.ratio_is)
      (in_turn_lem (num t x) (den t x) (num t y) (den t y) (P (from t x)) (P p) (P (to t y)) (into_ratio i) (out_ratio o)))

  -- (2)
  kept_start : {k j : ℕ} → Apart t p k → Kept t t' p k j → IsConnection t' j → (some : 0 < δ° t' j)
      → S' (from t' j) ⊕ ε t' j ⊕ δ t' j some ⊗ P' (from t' j) ≼ S' (to t' j)
  kept_start {k} {j} a h c some =
      let old = sol.starts.holds k (record { a_link = a.a_link; events = sym h.kind_same ∙ c.events }) (rw h.over_same at some) in
      record {
        holds = rw (
          start_at_lem (from t' j) h.from_same,
          start_at_lem (to t' j) h.to_same,
          period_at (from t' j) h.from_same,
          h.forward_ticks,
          h.back_ticks,
          h.forward_events,
          h.back_events,
          h.over_same,
        ) old.holds;
      }

  via_start : {x y j : ℕ} → Into t p x → OutOf t p y → Via t t' p x y j → (some : 0 < δ° t' j)
      → S' (from t' j) ⊕ ε t' j ⊕ δ t' j some ⊗ P' (from t' j) ≼ S' (to t' j)
  via_start {x} {y} {j} i o v some =
      let b = (formed.links x i.a_link.below).over_least in
      let c = (formed.links y o.a_link.below).over_least in
      let n = num_some i.a_link in
      let first : S (from t x) ⊕ ε t x ⊕ δ t x b ⊗ P (from t x) ≼ S p =
      rw i.ends at (sol.starts.holds x (record { a_link = i.a_link; events = i.events }) b) in
      let second : S p ⊕ ε t y ⊕ δ t y c ⊗ P p ≼ S (to t y) =
      rw o.begins at (sol.starts.holds y (record { a_link = o.a_link; events = o.events }) c) in
      let events = both_events (num t x) (den t x) (P (from t x)) (P p) (δ t x b) (δ t y c) (δ t' j some) n (into_ratio i) (v.events_are some b c n) in
      rw (start_at_lem (from t' j) v.from_same, start_at_lem (to t' j) v.to_same, period_at (from t' j) v.from_same)
      (≼_trans (≈-≼ (⊕-≈ (⊕-≈ (≈_refl (S (from t x))) v.ticks_are) events))
      (two_steps (S (from t x)) (ε t x) (ε t y) (δ t x b ⊗ P (from t x)) (δ t y c ⊗ P p) (S p) (S (to t y)) first second))

  -- (3)
  slowed_rate : whole (port t' hidden.q).den ≼ (port t' hidden.q).num · P' hidden.q
  slowed_rate =
      let s = hidden.slowed in
      let x = hidden.x in
      rw (period_at hidden.q s.sender) (⊎_elim
      (λ (e : port t' hidden.q ≡ port t (from t x)).
      rw e (sol.rates.holds (from t x) (record { below = (formed.links x s.into.a_link.below).from })))
      (λ (e : (0 < (port t p).num) × ((port t' hidden.q).num * ((port t p).den * num t x) ≡ (port t p).num * den t x * (port t' hidden.q).den)).
      carried (num t x) (den t x) (port t p).num (port t p).den (port t' hidden.q).den (port t' hidden.q).num (P (from t x)) (P p)
      (mul-pos e.0 (den_some s.into.a_link))
      (into_ratio s.into) e.1 (sol.rates.holds p hidden.a_port))
      s.one)

  other_rate : (r : ℕ) → IsPort t' r → Dec (r ≡ hidden.q) → whole (port t' r).den ≼ (port t' r).num · P' r
  other_rate r i (yes e) = rw e slowed_rate
  other_rate r i (no n) = rw (hidden.others r i n, same.period r) (sol.rates.holds (old_number p r) (old_port hidden r i))

  pub restricted : IsSolution t' P' S'
  restricted = record {
    above_zero = λ r i. rw (same.period r) (sol.above_zero (old_number p r) (old_port hidden r i));
    ratios = record {
      holds = λ j i. ⊎_elim
          (λ (h : (k : ℕ) × Apart t p k × Kept t t' p k j). kept_ratio h.1 h.2)
          (λ (h : (x : ℕ) × (y : ℕ) × Into t p x × OutOf t p y × Via t t' p x y j). via_ratio h.2 h.3 h.4)
          (hidden.only j i);
    };
    starts = record {
      holds = λ j c some. ⊎_elim
          (λ (h : (k : ℕ) × Apart t p k × Kept t t' p k j). kept_start h.1 h.2 c some)
          (λ (h : (x : ℕ) × (y : ℕ) × Into t p x × OutOf t p y × Via t t' p x y j). via_start h.2 h.3 h.4 some)
          (hidden.only j c.a_link);
    };
    rates = record { holds = λ r i. other_rate r i (ℕ_discrete r hidden.q) };
  }
