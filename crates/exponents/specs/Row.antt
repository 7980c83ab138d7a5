-- Rows of exponents, and what the functions on rows ask and give.
use Rattle.std.specs.Prelude.{ℕ, ◌+◌, ◌*◌, ◌-◌, ◌≤◌, ◌<◌, min, ◌≡◌, ◌≢◌, Bool, true, false, List, [], length, get_or}
use Rattle.numbers.specs.Exponents.{powers}
use Rattle.exponents.specs.Primes.{prime_at}

-- the number that a row stands for
unfoldable pub row_value : List ℕ → ℕ
row_value row = powers prime_at (λ i. get_or row i 0) 168

pub record RoomToMultiply (row : List ℕ) (n : ℕ) : Type 0 where
  pub positive : 1 ≤ n
  pub high : n ≤ 1000
  pub room : (i : ℕ) → i < 168 → get_or row i 0 ≤ 60000

pub record RoomToDivide (row : List ℕ) (n : ℕ) : Type 0 where
  pub positive : 1 ≤ n
  pub high : n ≤ 1000
  pub room : (i : ℕ) → i < 168 → 9 ≤ get_or row i 0

-- r is row times n; 9 more in each place are enough, since n is below 2 ^ 10
pub record Multiplied (row : List ℕ) (n : ℕ) (r : List ℕ) : Type 0 where
  pub value : row_value r ≡ row_value row * n
  pub grows : (i : ℕ) → i < 168 → get_or row i 0 ≤ get_or r i 0
  pub bounded : (i : ℕ) → i < 168 → get_or r i 0 ≤ get_or row i 0 + 9

-- r is row times `times`, divided by `by`
pub record Scaled (row : List ℕ) (times by : ℕ) (r : List ℕ) : Type 0 where
  pub between : List ℕ
  pub multiplied : Multiplied row times between
  pub divided : Multiplied r by between

pub record Same (a b : List ℕ) (r : Bool) : Type 0 where
  pub yes : r ≡ true → a ≡ b
  pub no : r ≡ false → a ≢ b

-- a row of 168 places stands at p
pub record RowAt (rows : List (List ℕ)) (p : ℕ) : Type 0 where
  pub below : p < 64
  pub long : length (get_or rows p []) ≡ 168

pub record Lesser (a b r : List ℕ) : Type 0 where
  pub place : (i : ℕ) → i < 168 → get_or r i 0 ≡ min (get_or a i 0) (get_or b i 0)

-- `least` took in the lesser exponents of row
pub record TakenLesser (least row least' : List ℕ) : Type 0 where
  pub long : length least' ≡ 168
  pub is_lesser : Lesser least row least'

-- b is at most a in each place
pub record Within (b a : List ℕ) : Type 0 where
  pub place : (i : ℕ) → i < 168 → get_or b i 0 ≤ get_or a i 0

-- by how much each exponent of a is above that of b
abbrev pub excess : List ℕ → List ℕ → ℕ → ℕ
excess b a i = get_or a i 0 - get_or b i 0

-- primes above m have the same exponents
pub record SameAbove (b a : List ℕ) (m : ℕ) : Type 0 where
  pub place : (i : ℕ) → i < 168 → m < prime_at i → get_or a i 0 ≡ get_or b i 0
