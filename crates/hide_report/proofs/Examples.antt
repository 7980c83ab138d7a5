-- Arguments and the ports that they name, computed.
use Prim.Native.Nat.{◌^◌}
use mathlib.Core.Path.{◌≡◌, refl}
use mathlib.Core.Bool.{true, false}
use mathlib.Core.List.{[], ◌∷◌}
use Rattle.hide_report.specs.PortArgument.{all_digits, is_number, spelled, port_of}

-- "12", and "007", which is 7
twelve : port_of (49 ∷ 50 ∷ []) ≡ 12
unfolding spelled
twelve = refl

seven : port_of (48 ∷ 48 ∷ 55 ∷ []) ≡ 7
unfolding spelled
seven = refl

-- "18446744073709551616", which is no number of 64 bits
large : port_of (49 ∷ 56 ∷ 52 ∷ 52 ∷ 54 ∷ 55 ∷ 52 ∷ 52 ∷ 48 ∷ 55 ∷ 51 ∷ 55 ∷ 48 ∷ 57 ∷ 53 ∷ 53 ∷ 49 ∷ 54 ∷ 49 ∷ 54 ∷ []) ≡ 2 ^ 64
unfolding spelled
large = refl

is_number_lem : is_number (48 ∷ 48 ∷ 55 ∷ []) ≡ true
unfolding is_number all_digits
is_number_lem = refl

-- no argument, "-1", "1 " and ":", whose codes are next to those of digits or near them
no_argument : is_number [] ≡ false
unfolding is_number all_digits
no_argument = refl

minus_one : is_number (45 ∷ 49 ∷ []) ≡ false
unfolding is_number all_digits
minus_one = refl

with_space : is_number (49 ∷ 32 ∷ []) ≡ false
unfolding is_number all_digits
with_space = refl

colon : is_number (58 ∷ []) ≡ false
unfolding is_number all_digits
colon = refl
