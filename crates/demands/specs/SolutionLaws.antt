-- What a solution says of weights, periods and graphs.
use Rattle.std.specs.Prelude.{ℕ, ◌*◌, ◌-◌, ◌≤◌, ◌<◌, Bool, true, false, cond, ◌≡◌, refl, List, ◌∷◌}
use Rattle.std.proofs.Common.{ap, mul-pos, le_of_mul-le-mul_right, arith}
use Rattle.numbers.specs.Rationals.{Rational, ◌≼◌, ◌≈◌, ◌⊕◌, ◌⊗◌, ◌·◌, share, ratio}
use Rattle.numbers.specs.RationalLaws.{≼_trans, ≺-≼, ≈-≼, ≈_sym, ≈_trans, ⊕_right_≼, ⊕-≈, ≈_refl, ⊗_left_≈, ·-≼, ·-≈, ·-·, ·_cancel_≈, factor_≈, as_share, ≈_scaled}
use Rattle.numbers.specs.Lists.{sum}
use Rattle.specification.specs.Periods.{Graph, Walk, stop, step, gain, loss, Serves, PortIn, ConnectionIn, graph_in}
use Rattle.table.specs.WellFormed.{WellFormed}
use Rattle.specification.specs.Table.{Table, IsLink, from, to, num, den, δ°}
use Rattle.specification.specs.Ratios.{Step, leaves, comes, Way, stay, walk, above, below, Joined, Proportional, AllWhole, IsComponent}
use Rattle.ways.specs.Agree.{Agree}
use Rattle.ways.specs.WayLaws.{above_positive, step_port}
use Rattle.ways.specs.WeightLaws.{proportional_way}
use Rattle.demands.specs.ConstraintLaws.{from_in, some_over, forward_whole, back_whole}
use Rattle.specification.specs.Solutions.{ε, δ, Ratios, Starts, Solution}

-- factors change places
swap : (m n : ℕ) (x : Rational) → m · (n · x) ≈ n · (m · x)
swap m n x = omega arith

-- ---- along ways
module _ {t : Table} {P : ℕ → Rational} (ratios : Ratios t P) where
  step_ratio : (k : ℕ) (b : Bool) → IsLink t k
      → cond b (den t k) (num t k) · P (cond b (from t k) (to t k)) ≈ cond b (num t k) (den t k) · P (cond b (to t k) (from t k))
  step_ratio k true i = ≈_sym (ratios.holds k i)
  step_ratio k false i = ratios.holds k i

  -- periods that meet (1) stand to each other as the ratio of a way between their ports
  way_ratio : {p q : ℕ} {path : List Step} → Way t p q path → above t path · P q ≈ below t path · P p
  way_ratio stay = ≈_refl _
  way_ratio (walk {q = q} {path = path} s i v) =
      let m : ℕ = cond s.against (den t s.number) (num t s.number) in
      let n : ℕ = cond s.against (num t s.number) (den t s.number) in
      ≈_trans (≈_sym (·-· m (above t path) (P q)))
      (≈_trans (·-≈ m (way_ratio v))
      (≈_trans (swap m (below t path) (P (comes t s)))
      (≈_trans (·-≈ (below t path) (step_ratio s.number s.against i))
      (≈_trans (swap (below t path) n (P (leaves t s))) (·-· n (below t path) (P (leaves t s)))))))

  -- and as the weights
  joined_ratio : {w : ℕ → ℕ} {p q : ℕ} → WellFormed t → Proportional t w → Joined t p q → w q · P p ≈ w p · P q
  joined_ratio {w} {p} {q} formed prop j =
      let e = proportional_way prop j.way in
      let scaled : above t j.path · (w q · P p) ≈ w p · (below t j.path · P p) =
      omega (arith, ap (λ (n : ℕ). n * ((P p).plus * (P p).over)) e, ap (λ (n : ℕ). n * ((P p).minus * (P p).over)) e) in
      ·_cancel_≈ (above t j.path) (above_positive formed j.way)
      (≈_trans scaled (≈_trans (·-≈ (w p) (≈_sym (way_ratio j.way))) (swap (w p) (above t j.path) (P q))))

-- ---- around closed ways
module _ {t : Table} (formed : WellFormed t) (s : Solution t) where
  closed_ratio : {p q : ℕ} {path : List Step} → Way t p q path → p ≡ q → above t path ≡ below t path
  closed_ratio stay e = refl
  closed_ratio (walk x i v) e =
      factor_≈ (s.meets.above_zero (leaves t x) (step_port formed x i))
      (rw (← e) at (way_ratio s.meets.ratios (walk x i v)))

  -- every closed way has the ratio 1
  pub solution_agree : Agree t
  solution_agree = record { closed = λ p path v. closed_ratio v refl }

-- ---- over one denominator
-- what a connection adds to a start depends on the value of the period alone
pub added_≈ : {x y : Rational} (t : Table) (k : ℕ) (some : 0 < δ° t k) (s : Rational) → x ≈ y
    → s ⊕ ε t k ⊕ δ t k some ⊗ x ≈ s ⊕ ε t k ⊕ δ t k some ⊗ y
added_≈ t k some s e = ⊕-≈ (≈_refl (s ⊕ ε t k)) (⊗_left_≈ (δ t k some) e)

-- (2) at a/b for rational starts
pub record MeetsOver (g : Graph) (a b : ℕ) (over : 0 < b) (S : ℕ → Rational) : Type 0 where
  pub holds : (k : ℕ) → g.IsEdge k → S (g.from k) ⊕ ratio (gain g a b k) (loss g a b k) b over ≼ S (g.to k)

module _ {g : Graph} {a b : ℕ} {over : 0 < b} {S : ℕ → Rational} (meets : MeetsOver g a b over S) where
  -- a walk adds the sum of what its edges add
  walk_cost : {p q : ℕ} {path : List ℕ} → Walk g p q path → S p ⊕ ratio (sum (gain g a b) path) (sum (loss g a b) path) b over ≼ S q
  walk_cost stop = omega arith
  walk_cost (step {path = path} k m v) =
      let x : Rational = S (g.from k) ⊕ ratio (gain g a b k) (loss g a b k) b over in
      let y : Rational = ratio (sum (gain g a b) path) (sum (loss g a b) path) b over in
      let split : S (g.from k) ⊕ ratio (sum (gain g a b) (k ∷ path)) (sum (loss g a b) (k ∷ path)) b over ≈ x ⊕ y = omega arith in
      ≼_trans (≈-≼ split) (≼_trans (⊕_right_≼ y (meets.holds k m)) (walk_cost v))

  closed_cost : (p : ℕ) (path : List ℕ) → Walk g p p path → sum (gain g a b) path ≤ sum (loss g a b) path
  closed_cost p path v =
      le_of_mul-le-mul_right {k = (S p).over * (S p).over} (omega (arith, (walk_cost v).holds)) (mul-pos (S p).positive (S p).positive)

-- the periods of component c are its weights times a/b
pub record PeriodsOver (t : Table) (w : ℕ → ℕ) (c : ℕ) (P : ℕ → Rational) (a b : ℕ) (over : 0 < b) : Type 0 where
  pub is : (p : ℕ) → PortIn t c p → share (w p * a) b over ≈ P p

-- they are, and a/b is above zero and serves
pub record Served (t : Table) (w : ℕ → ℕ) (c : ℕ) (P : ℕ → Rational) : Type 0 where
  pub a : ℕ
  pub b : ℕ
  pub above_zero : 0 < a
  pub over : 0 < b
  pub periods : PeriodsOver t w c P a b over
  pub serves : Serves (graph_in t w c) a b

module _ {t : Table} (formed : WellFormed t) where
  -- over b that is gain − loss
  pub edge_cost : {w : ℕ → ℕ} {P : ℕ → Rational} {a b c : ℕ} {over : 0 < b} → AllWhole t w → PeriodsOver t w c P a b over
      → (S : ℕ → Rational) (k : ℕ) (some : 0 < δ° t k)
      → ConnectionIn t c k
      → S (from t k) ⊕ ε t k ⊕ δ t k some ⊗ P (from t k)
      ≈ S (from t k) ⊕ ratio (gain (graph_in t w c) a b k) (loss (graph_in t w c) a b k) b over
  edge_cost {w} {a = a} {b = b} {c = c} {over = over} whole periods S k some e =
      let i = e.connection.a_link in
      let d = ratio ((graph_in t w c).D⁺ k * a) ((graph_in t w c).D⁻ k * a) b over in
      let part : d ≈ δ t k some ⊗ share (w (from t k) * a) b over = ≈_scaled (δ° t k)
      (omega (arith, ap (λ (n : ℕ). n * a) (forward_whole whole k i))) (omega (arith, ap (λ (n : ℕ). n * a) (back_whole whole k i))) (omega arith) in
      ≈_trans (added_≈ t k some (S (from t k)) (≈_sym (periods.is (from t k) (from_in formed e))))
      (≈_trans (⊕-≈ (≈_refl (S (from t k) ⊕ ε t k)) (≈_sym part)) (omega arith))

  pub starts_over : {w : ℕ → ℕ} {P S : ℕ → Rational} {a b c : ℕ} {over : 0 < b} → AllWhole t w → PeriodsOver t w c P a b over → Starts t P S
      → MeetsOver (graph_in t w c) a b over S
  starts_over {S = S} whole periods starts = record {
    holds = λ k e.
        let some = some_over formed k e.connection.a_link in
        ≼_trans (≈-≼ (≈_sym (edge_cost whole periods S k some e))) (starts.holds k e.connection some);
  }

  pub solution_serves : {w : ℕ → ℕ} {c : ℕ} (s : Solution t) → Proportional t w → AllWhole t w → IsComponent t c → Served t w c s.period
  solution_serves {w} {c} s prop whole i = record {
    a = a;
    b = b;
    above_zero = omega (arith, (s.meets.above_zero c i.a_port).holds);
    over = over;
    periods = periods;
    serves = record {
      rates = λ p m. omega (arith, (≼_trans (s.meets.rates.holds p m.a_port) (·-≼ _ (≈-≼ (≈_sym (periods.is p m))))).holds);
      cycles = closed_cost (starts_over whole periods s.meets.starts);
    };
  }
    where
      x : Rational
      x = s.period c

      a : ℕ
      a = x.plus - x.minus

      b : ℕ
      b = x.over * w c

      over : 0 < b
      over = mul-pos x.positive (prop.positive c i.a_port)

      c_share : x ≈ share a x.over x.positive
      c_share = as_share x (≺-≼ (s.meets.above_zero c i.a_port))

      periods : PeriodsOver t w c s.period a b over
      periods = record {
        is = λ p m.
            omega (arith, (≈_trans (joined_ratio s.meets.ratios formed prop m.component.joined) (·-≈ (w p) c_share)).holds);
      }
