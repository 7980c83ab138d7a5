-- What table t' is where port p of table t is hidden: document 000, section 4.4, with the rate limit that it forgets.
use Rattle.std.specs.Prelude.{ℕ, ◌+◌, ◌*◌, ◌≤◌, ◌<◌, ◌≡◌, ◌≢◌, ◌⊎◌, false}
use Rattle.std.proofs.Common.{arith}
use Rattle.numbers.specs.Rationals.{◌≈◌, ◌⊕◌, ◌⊗◌, share}
use Rattle.specification.specs.Table.{port, link, is_buffer, Table, IsPort, IsLink, from, to, num, den, ε⁺, ε⁻, δ⁺, δ⁻, δ°, port_count}
use Rattle.specification.specs.Solutions.{ε, δ}
use Rattle.specification.specs.Hiding.{old_number}
use Rattle.hiding_laws.specs.PortNumbers.{old_below}

-- a connection into p, or out of p; no buffer, and none from p to itself
pub record Into (t : Table) (p k : ℕ) : Type 0 where
  pub a_link : IsLink t k
  pub ends : to t k ≡ p
  pub other : from t k ≢ p
  pub events : is_buffer (link t k) ≡ false

pub record OutOf (t : Table) (p k : ℕ) : Type 0 where
  pub a_link : IsLink t k
  pub begins : from t k ≡ p
  pub other : to t k ≢ p
  pub events : is_buffer (link t k) ≡ false

pub record Apart (t : Table) (p k : ℕ) : Type 0 where
  pub a_link : IsLink t k
  pub from_other : from t k ≢ p
  pub to_other : to t k ≢ p

module _ (t t' : Table) (p : ℕ) where
  -- link j of t' is link k of t, between the same ports
  pub record Kept (k j : ℕ) : Type 0 where
    pub a_link : IsLink t' j
    pub from_same : old_number p (from t' j) ≡ from t k
    pub to_same : old_number p (to t' j) ≡ to t k
    pub num_same : num t' j ≡ num t k
    pub den_same : den t' j ≡ den t k
    pub forward_ticks : ε⁺ t' j ≡ ε⁺ t k
    pub back_ticks : ε⁻ t' j ≡ ε⁻ t k
    pub forward_events : δ⁺ t' j ≡ δ⁺ t k
    pub back_events : δ⁻ t' j ≡ δ⁻ t k
    pub over_same : δ° t' j ≡ δ° t k
    pub kind_same : is_buffer (link t' j) ≡ is_buffer (link t k)

  -- connection j of t' stands for x into p and y out of p: ratio the product, ε added, δ the first plus the second divided by the first's ratio
  pub record Via (x y j : ℕ) : Type 0 where
    pub a_link : IsLink t' j
    pub events : is_buffer (link t' j) ≡ false
    pub from_same : old_number p (from t' j) ≡ from t x
    pub to_same : old_number p (to t' j) ≡ to t y
    pub ratio_is : num t' j * (den t x * den t y) ≡ num t x * num t y * den t' j
    pub one_way : (δ⁺ t' j ≡ 0) ⊎ (δ⁻ t' j ≡ 0)
    pub ticks_are : ε t' j ≈ ε t x ⊕ ε t y
    pub events_are : (a : 0 < δ° t' j) (b : 0 < δ° t x) (c : 0 < δ° t y) (d : 0 < num t x)
        → δ t' j a ≈ δ t x b ⊕ share (den t x) (num t x) d ⊗ δ t y c

  -- the rate of the sender of connection x into p: no more than it was, no more than p's divided by x's ratio, and one of the two
  pub record Slowed (x q : ℕ) : Type 0 where
    pub into : Into t p x
    pub sender : old_number p q ≡ from t x
    pub no_more : (port t' q).num * (port t (from t x)).den ≤ (port t (from t x)).num * (port t' q).den
    pub enough : (port t' q).num * ((port t p).den * num t x) ≤ (port t p).num * den t x * (port t' q).den
    pub one : (port t' q ≡ port t (from t x)) ⊎ ((0 < (port t p).num) × ((port t' q).num * ((port t p).den * num t x) ≡ (port t p).num * den t x * (port t' q).den))
    -- F-3: where it has no rate, neither sender nor p had
    pub some : (0 < (port t' q).num) ⊎ (((port t p).num ≡ 0) × ((port t p).den ≡ 0) × ((port t (from t x)).num ≡ 0) × ((port t (from t x)).den ≡ 0))

  pub record HiddenOf : Type 0 where
    pub a_port : IsPort t p
    pub count : port_count t' + 1 ≡ port_count t
    -- every link is apart from p, into p or out of p
    pub each : (k : ℕ) → IsLink t k → Apart t p k ⊎ (Into t p k ⊎ OutOf t p k)
    pub first_out : (y : ℕ) × OutOf t p y
    -- the links of t'
    pub kept : (k : ℕ) → Apart t p k → (j : ℕ) × Kept k j
    pub made : (x y : ℕ) → Into t p x → OutOf t p y → (j : ℕ) × Via x y j
    pub only : (j : ℕ) → IsLink t' j → ((k : ℕ) × Apart t p k × Kept k j) ⊎ ((x : ℕ) × (y : ℕ) × Into t p x × OutOf t p y × Via x y j)
    -- the rates of t'
    pub x : ℕ
    pub q : ℕ
    pub slowed : Slowed x q
    pub others : (r : ℕ) → IsPort t' r → r ≢ q → port t' r ≡ port t (old_number p r)

-- a port of t' has its old number in t
pub old_port : {t t' : Table} {p : ℕ} → HiddenOf t t' p → (q : ℕ) → IsPort t' q → IsPort t (old_number p q)
old_port {t' = t'} {p = p} hidden q i = record {
  below = rw (← hidden.count) (old_below p q (port_count t') i.below (omega (arith, hidden.count, hidden.a_port.below)));
}
