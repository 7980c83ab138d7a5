-- What a link, and a pass over the links, do to labels.
use Rattle.std.specs.Prelude.{ℕ, ◌≤◌, ◌<◌, Bool, true, false, ◌≡◌, ◌⊎◌, List, length, get_or, set}
use Rattle.specification.specs.Table.{Table, link_count, from, to}
use Rattle.numbers.specs.Lists.{sum}
use Rattle.specification.specs.Ratios.{Joined}

-- the numbers below n have themselves as labels
pub record Own (n : ℕ) (l : List ℕ) : Type 0 where
  pub long : length l ≡ 64
  pub each : (p : ℕ) → p < n → get_or l p 0 ≡ p

-- p and q have labels
pub record Both (p q : ℕ) : Type 0 where
  pub one : p < 64
  pub other : q < 64

-- the label of q is smaller than that of p, which becomes the same
pub record Lowered (l : List ℕ) (p q : ℕ) (l' : List ℕ) : Type 0 where
  pub smaller : get_or l q 0 < get_or l p 0
  pub made : l' ≡ set l p (get_or l q 0)

-- the larger of two labels is lowered to the smaller, and r says whether they differed
pub record Levelled (l : List ℕ) (p q : ℕ) (l' : List ℕ) (r : Bool) : Type 0 where
  pub lowered : r ≡ true → Lowered l p q l' ⊎ Lowered l q p l'
  pub same : r ≡ false → l' ≡ l
  pub equal : r ≡ false → get_or l p 0 ≡ get_or l q 0

module _ (t : Table) where
  -- v can be the label of p
  pub record Label (p v : ℕ) : Type 0 where
    pub low : v ≤ p
    pub joined : Joined t p v

  pub record Sound (l : List ℕ) : Type 0 where
    pub long : length l ≡ 64
    pub each : (p : ℕ) → p < 64 → Label p (get_or l p 0)

  -- the ends of each link below k have the same label
  pub record Even (k : ℕ) (l : List ℕ) : Type 0 where
    pub ends : (j : ℕ) → j < k → get_or l (from t j) 0 ≡ get_or l (to t j) 0

  -- the links below k make l' of the labels l, and r says whether a label changed
  pub record Passed (k : ℕ) (l l' : List ℕ) (r : Bool) : Type 0 where
    pub within : k ≤ link_count t
    pub sound : Sound l'
    pub most : sum (λ v. v) l' ≤ sum (λ v. v) l
    pub less : r ≡ true → sum (λ v. v) l' < sum (λ v. v) l
    pub even : r ≡ false → Even k l'
