-- Rational laws for hiding: ratios of two connections in turn, and what they add.
use Rattle.std.specs.Prelude.{ℕ, zero, suc, ◌*◌, ◌≤◌, ◌<◌, ◌≡◌}
use Rattle.std.proofs.Common.{⊎_elim, arith}
use Rattle.numbers.specs.ListLaws.{lt_or_le}
use Rattle.numbers.specs.Rationals.{Rational, ◌≼◌, ◌≈◌, ◌⊕◌, ◌⊗◌, ◌·◌, whole, share}
use Rattle.numbers.specs.RationalLaws.{≼_trans, ≼_refl, ≈_sym, ≈_trans, ≈_refl, ≼_or_≺, ≺-≼, ⊕_assoc, ⊕_comm, ⊕-≈, ⊗_comm, ⊗-⊕, ⊗_left_≈, ·-≈, ·-·, ·_cancel_≈}

pub same_times : {m n : ℕ} (x : Rational) → m ≡ n → m · x ≈ n · x
same_times x e = rw e (≈_refl _)

pub swap : (m n : ℕ) (x : Rational) → m · (n · x) ≈ n · (m · x)
swap m n x = omega arith

-- a/b = c/d
pub cross : (a b c d : ℕ) (x y : Rational) → 0 < b → a * d ≡ c * b → a · x ≈ b · y → c · x ≈ d · y
cross a b c d x y some e h = ·_cancel_≈ b some
    (≈_trans (·-· b c x)
    (≈_trans (same_times x (omega (arith, e)))
    (≈_trans (≈_sym (·-· d a x)) (≈_trans (·-≈ d h) (swap d b y)))))

-- two ratios in turn
pub in_turn_lem : (n d m e : ℕ) (x y z : Rational) → n · y ≈ d · x → m · z ≈ e · y → (n * m) · z ≈ (d * e) · x
in_turn_lem n d m e x y z h k =
    ≈_trans (≈_sym (·-· n m z))
    (≈_trans (·-≈ n k)
    (≈_trans (swap n e y) (≈_trans (·-≈ e h) (≈_trans (·-· e d x) (same_times x (omega arith))))))

-- the second period of two, from the first
pub divided : (n d : ℕ) (x y : Rational) (some : 0 < n) → n · y ≈ d · x → share d n some ⊗ x ≈ y
divided n d x y some h = omega (arith, h.holds)

-- δ of both, times the first period
pub both_events : (n d : ℕ) (x y u v w : Rational) (some : 0 < n) → n · y ≈ d · x → w ≈ u ⊕ share d n some ⊗ v → w ⊗ x ≈ u ⊗ x ⊕ v ⊗ y
both_events n d x y u v w some h e =
    let s = share d n some in
    ≈_trans (⊗_comm w x)
    (≈_trans (⊗_left_≈ x e)
    (≈_trans (⊗-⊕ x u (s ⊗ v))
    (⊕-≈ (⊗_comm x u)
    (≈_trans (⊗_comm x (s ⊗ v))
    (≈_trans (turned s v x) (⊗_left_≈ v (divided n d x y some h)))))))
  where
    turned : (s v x : Rational) → (s ⊗ v) ⊗ x ≈ v ⊗ (s ⊗ x)
    turned s v x = omega arith

middle : (x c d e : Rational) → x ⊕ c ⊕ (d ⊕ e) ≈ x ⊕ d ⊕ (c ⊕ e)
middle x c d e =
    ≈_trans (⊕_assoc x c (d ⊕ e))
    (≈_trans (⊕-≈ (≈_refl x) (≈_trans (≈_sym (⊕_assoc c d e)) (≈_trans (⊕-≈ (⊕_comm c d) (≈_refl e)) (⊕_assoc d c e)))) (≈_sym (⊕_assoc x d (c ⊕ e))))

-- a start, both ε and both δ
pub added : (a b c d e : Rational) → a ⊕ (b ⊕ c) ⊕ (d ⊕ e) ≈ (a ⊕ b ⊕ d) ⊕ (c ⊕ e)
added a b c d e = ≈_trans (⊕-≈ (≈_sym (⊕_assoc a b c)) (≈_refl (d ⊕ e))) (middle (a ⊕ b) c d e)

pub split : (a c e : Rational) → a ⊕ c ⊕ e ≈ a ⊕ (c ⊕ e)
split a c e = omega arith

-- whole numbers
pub whole_times : (m n : ℕ) → m · whole n ≈ whole (m * n)
whole_times m n = omega arith

pub whole_≤ : (m n : ℕ) → m ≤ n → whole m ≼ whole n
whole_≤ m n h = omega arith

-- ---- the greatest of finitely many, at numbers that pass a test
pub record Greatest (f : ℕ → Rational) (Q : ℕ → Type 0) (n : ℕ) : Type 0 where
  pub at : ℕ
  pub below : at < n
  pub passes : Q at
  pub most : (k : ℕ) → k < n → Q k → f k ≼ f at

module _ (f : ℕ → Rational) (Q : ℕ → Type 0) (test : (k : ℕ) → Dec (Q k)) where
  pub data Found (n : ℕ) : Type 0 where
    some : Greatest f Q n → Found n
    nowhere : ((k : ℕ) → k < n → ¬ Q k) → Found n

  below_suc : {k n : ℕ} {A : Type 0} → k < suc n → (k < n → A) → (k ≡ n → A) → A
  below_suc {k} {n} h less same = ⊎_elim (λ (l : k < n). less l) (λ (l : n ≤ k). same (omega arith)) (lt_or_le k n)

  next : (n : ℕ) → Dec (Q n) → Found n → Found (suc n)
  next n (no g) (nowhere none) = nowhere (λ k h q. below_suc h (λ l. none k l q) (λ e. g (rw e at q)))
  next n (no g) (some s) = some (record {
    at = s.at;
    below = omega (arith, s.below);
    passes = s.passes;
    most = λ k h q. below_suc h (λ l. s.most k l q) (λ e. absurd (g (rw e at q)));
  })
  next n (yes p) (nowhere none) = some (record {
    at = n;
    below = omega arith;
    passes = p;
    most = λ k h q. below_suc h (λ l. absurd (none k l q)) (λ e. rw e (≼_refl (f n)));
  })
  next n (yes p) (some s) = ⊎_elim
      (λ (l : f n ≼ f s.at). some (record {
        at = s.at;
        below = omega (arith, s.below);
        passes = s.passes;
        most = λ k h q. below_suc h (λ m. s.most k m q) (λ e. rw e l);
      }))
      (λ l. some (record {
        at = n;
        below = omega arith;
        passes = p;
        most = λ k h q. below_suc h (λ m. ≼_trans (s.most k m q) (≺-≼ l)) (λ e. rw e (≼_refl (f n)));
      }))
      (≼_or_≺ (f n) (f s.at))

  search_below : (n : ℕ) → Found n
  search_below zero = nowhere (λ k h q. omega arith)
  search_below (suc n) = next n (test n) (search_below n)

  pub greatest : (n x : ℕ) → x < n → Q x → Greatest f Q n
  greatest n x h q = found (search_below n)
    where
      found : Found n → Greatest f Q n
      found (some s) = s
      found (nowhere none) = absurd (none x h q)
