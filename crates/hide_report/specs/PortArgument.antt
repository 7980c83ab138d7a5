-- The port that an argument names: a number in decimal digits.
use Rattle.std.specs.Prelude.{ℕ, ◌+◌, ◌*◌, ◌-◌, Bool, true, ◌&&◌, List, [], ◌∷◌, ltb, leb, length}

-- 48 is "0", 57 is "9"
abbrev pub is_digit : ℕ → Bool
is_digit c = leb 48 c && leb c 57

unfoldable pub all_digits : List ℕ → Bool
all_digits [] = true
all_digits (c ∷ cs) = is_digit c && all_digits cs

-- an argument is a number where it has nothing but digits, and one at least
unfoldable pub is_number : List ℕ → Bool
is_number argument = all_digits argument && ltb 0 (length argument)

-- the number that digits behind n spell, however large it is; zeros in front change nothing
unfoldable pub spelled : ℕ → List ℕ → ℕ
spelled n [] = n
spelled n (c ∷ cs) = spelled (n * 10 + (c - 48)) cs

abbrev pub port_of : List ℕ → ℕ
port_of argument = spelled 0 argument
