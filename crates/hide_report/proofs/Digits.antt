-- Digits passed one by one.
use Rattle.std.proofs.Common.{Option, Some, None, ℕ, ◌+◌, ◌*◌, ◌-◌, ◌≤◌, ◌<◌, min, ◌≡◌, refl, sym, ◌∙◌, Bool, true, false, ◌&&◌, cond, List, [], ◌∷◌, add-one, arith, length, drop, get_or, lt-ltb, drop-cons, drop_of_length-le}
use Rattle.specification.specs.Table.{most_ports}
use Rattle.hide_report.specs.PortArgument.{is_digit, all_digits, is_number, spelled, port_of}

-- what `port_number` makes of an argument
abbrev pub port_named : List ℕ → Option ℕ
port_named s = cond (is_number s) (Some (min (port_of s) most_ports)) None

-- a larger number counts as 64
capped : (n : ℕ) (cs : List ℕ) → min (spelled (min n most_ports) cs) most_ports ≡ min (spelled n cs) most_ports
unfolding spelled
capped n [] = omega arith
capped n (c ∷ cs) =
    let e : min (min n most_ports * 10 + (c - 48)) most_ports ≡ min (n * 10 + (c - 48)) most_ports = omega arith in
    sym (capped (min n most_ports * 10 + (c - 48)) cs) ∙ rw e (capped (n * 10 + (c - 48)) cs)

-- the first i are digits, and spell n
pub record Spelled (s : List ℕ) (i n : ℕ) : Type 0 where
  pub most : n ≤ most_ports
  pub digits : all_digits s ≡ all_digits (drop i s)
  pub same : min (spelled n (drop i s)) most_ports ≡ min (port_of s) most_ports

next_digit : (s : List ℕ) (i : ℕ) → i < length s → all_digits (drop i s) ≡ is_digit (get_or s i 0) && all_digits (drop (i + 1) s)
unfolding all_digits
next_digit s i h = rw (add-one, drop-cons s i 0)

pub named_none : (s : List ℕ) → length s ≡ 0 → None ≡ port_named s
unfolding is_number all_digits
named_none [] e = refl
named_none (c ∷ s) e = absurd (omega (arith, e))

pub spelled_none : {s : List ℕ} → Spelled s 0 0
spelled_none = record { most = omega arith; digits = refl; same = refl }

module _ {s : List ℕ} {i n : ℕ} (p : Spelled s i n) where
  pub named_off : i < length s → is_digit (get_or s i 0) ≡ false → None ≡ port_named s
  unfolding is_number
  named_off h d = rw (p.digits, next_digit s i h, d)

  pub spelled_on : {m : ℕ} → i < length s → is_digit (get_or s i 0) ≡ true → m ≡ min (n * 10 + (get_or s i 0 - 48)) most_ports → Spelled s (i + 1) m
  unfolding spelled
  spelled_on h d e =
      record {
        most = omega arith;
        digits = p.digits ∙ next_digit s i h ∙ rw d;
        same = rw (e, capped (n * 10 + (get_or s i 0 - 48)) (drop (i + 1) s)) (rw (add-one) (rw (drop-cons s i 0 h) at p.same));
      }

  pub named_all : length s ≤ i → 0 < length s → Some n ≡ port_named s
  unfolding is_number all_digits spelled
  named_all h some =
      let e = drop_of_length-le s h in
      let is : n ≡ min (port_of s) most_ports = omega (arith, p.most, rw e at p.same) in
      rw (p.digits, e, lt-ltb 0 (length s) some, is)

-- what its caller knows
pub named_number : (s : List ℕ) {n : ℕ} → Some n ≡ port_named s → (is_number s ≡ true) × (n ≡ min (port_of s) most_ports)
named_number s {n} e = by (is_number s) e
  where
    by : (b : Bool) → Some n ≡ cond b (Some (min (port_of s) most_ports)) None → (b ≡ true) × (n ≡ min (port_of s) most_ports)
    by true e = (refl, cc)
    by false e = cc
