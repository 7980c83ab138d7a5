-- Laws of ways: joined, reversed, their ratios and components.
use Rattle.std.specs.Prelude.{ℕ, ◌*◌, ◌<◌, Bool, true, false, cond, not, ◌≡◌, refl, List, [], ◌∷◌, ◌++◌}
use Rattle.std.proofs.Common.{ap, le_antisymm, mul-pos, arith}
use Rattle.table.specs.WellFormed.{WellFormed}
use Rattle.specification.specs.Table.{Table, IsPort, IsLink, from, to, num, den}
use Rattle.specification.specs.Ratios.{Step, leaves, Way, stay, walk, above, below, Joined, Component}

-- the same link, walked the other way round
abbrev pub turned : Step → Step
turned s = record { number = s.number; against = not s.against }

abbrev pub reversed : List Step → List Step
reversed [] = []
reversed (s ∷ path) = reversed path ++ (turned s ∷ [])

cond_not : (b : Bool) (m n : ℕ) → cond (not b) m n ≡ cond b n m
cond_not true m n = refl
cond_not false m n = refl

pub cond_positive : {m n : ℕ} (b : Bool) → 0 < m → 0 < n → 0 < cond b m n
cond_positive true h k = h
cond_positive false h k = k

-- ---- ratios
module _ (t : Table) where
  pub above_append : (xs ys : List Step) → above t (xs ++ ys) ≡ above t xs * above t ys
  above_append [] ys = omega arith
  above_append (s ∷ xs) ys =
      omega (arith, ap (λ (n : ℕ). cond s.against (den t s.number) (num t s.number) * n) (above_append xs ys))

  pub below_append : (xs ys : List Step) → below t (xs ++ ys) ≡ below t xs * below t ys
  below_append [] ys = omega arith
  below_append (s ∷ xs) ys =
      omega (arith, ap (λ (n : ℕ). cond s.against (num t s.number) (den t s.number) * n) (below_append xs ys))

  pub above_reversed : (path : List Step) → above t (reversed path) ≡ below t path
  above_reversed [] = refl
  above_reversed (s ∷ path) = rw (above_append, above_reversed path, cond_not) (omega arith)

  pub below_reversed : (path : List Step) → below t (reversed path) ≡ above t path
  below_reversed [] = refl
  below_reversed (s ∷ path) = rw (below_append, below_reversed path, cond_not) (omega arith)

module _ {t : Table} where
  -- ---- ways
  pub join : {p q r : ℕ} {xs ys : List Step} → Way t p q xs → Way t q r ys → Way t p r (xs ++ ys)
  join stay w = w
  join (walk s i v) w = walk s i (join v w)

  -- one step back
  back : (k : ℕ) (b : Bool) → IsLink t k
      → Way t (cond b (from t k) (to t k)) (cond b (to t k) (from t k)) (record { number = k; against = not b } ∷ [])
  back k true i = walk (record { number = k; against = false }) i stay
  back k false i = walk (record { number = k; against = true }) i stay

  pub reverse : {p q : ℕ} {path : List Step} → Way t p q path → Way t q p (reversed path)
  reverse stay = stay
  reverse (walk s i w) = join (reverse w) (back s.number s.against i)

  -- ---- joined ports
  pub joined_refl : (p : ℕ) → Joined t p p
  joined_refl p = record { path = []; way = stay }

  pub joined_sym : {p q : ℕ} → Joined t p q → Joined t q p
  joined_sym h = record { path = reversed h.path; way = reverse h.way }

  pub joined_trans : {p q r : ℕ} → Joined t p q → Joined t q r → Joined t p r
  joined_trans h k = record { path = h.path ++ k.path; way = join h.way k.way }

  pub linked : {k : ℕ} → IsLink t k → Joined t (from t k) (to t k)
  linked {k} i = let s : Step = record { number = k; against = false } in record { path = s ∷ []; way = walk s i stay }

  -- ---- components
  pub component_unique : {p c d : ℕ} → Component t p c → Component t p d → c ≡ d
  component_unique {c = c} {d = d} h k = le_antisymm (h.lowest d k.joined) (k.lowest c h.joined)

  pub joined_component : {p q c : ℕ} → Joined t p q → Component t p c → Component t q c
  joined_component j h = record {
    joined = joined_trans (joined_sym j) h.joined;
    lowest = λ r k. h.lowest r (joined_trans j k);
  }

-- ---- what a table within its limits gives
module _ {t : Table} (formed : WellFormed t) where
  pub above_positive : {p q : ℕ} {path : List Step} → Way t p q path → 0 < above t path
  above_positive stay = omega arith
  above_positive (walk s i w) =
      let fits = formed.links s.number i.below in
      mul-pos (cond_positive s.against fits.den.least fits.num.least) (above_positive w)

  -- the ends of a step are ports
  end_port : (k : ℕ) (b : Bool) → IsLink t k → IsPort t (cond b (to t k) (from t k))
  end_port k true i = record { below = (formed.links k i.below).to }
  end_port k false i = record { below = (formed.links k i.below).from }

  pub step_port : (s : Step) → IsLink t s.number → IsPort t (leaves t s)
  step_port s i = end_port s.number s.against i

  pub way_port : {p q : ℕ} {path : List Step} → Way t p q path → IsPort t p → IsPort t q
  way_port stay h = h
  way_port (walk s i w) h = way_port w (rw cond_not at (end_port s.number (not s.against) i))
