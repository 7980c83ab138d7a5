-- The definitions of hiding, computed on small tables, and returned starts that differ.
use Prim.Native.Nat.{ℕ, zero, suc, ◌<◌}
use mathlib.Core.Path.{◌≡◌, refl}
use mathlib.Core.Bool.{true, false}
use mathlib.Core.List.{[], ◌∷◌, flat_map}
use native.Mathlib.Omega.{arith}
use lib.ListN.{length}
use Rattle.numbers.specs.Divisors.{gcd}
use Rattle.numbers.specs.Rationals.{Rational, ◌≼◌, ◌⊕◌, ◌⊗◌, whole, share}
use Rattle.numbers.specs.RationalLaws.{≼_trans}
use Rattle.specification.specs.Table.{Table, IsConnection, from, δ°}
use Rattle.specification.specs.Answers.{Timing, period_of, start_of}
use Rattle.specification.specs.Solutions.{ε, δ, LeastSolution}
use Rattle.specification.specs.Bytes.{bytes, encode}
use Rattle.specification.specs.Encoding.{encode_table, encode_port, encode_link, connection_fields, link_fields, signed_word}
use Rattle.numbers.specs.Lists.{keep}
use Rattle.specification.specs.Hiding.{
  cannot_hide,
  lowest_num,
  lowest_den,
  lowest_of,
  lowest_sender,
  carried_rate,
  slower,
  lowers,
  via,
  link_leaves,
  value_leaves,
  new_number,
  hidden_table,
}
use Rattle.specification.specs.declared.Port.{Port}
use Rattle.specification.specs.declared.Link.{Link}

abbrev connect : (from to num den : ℕ) (ε⁺ ε⁻ δ⁺ δ⁻ over kind : ℕ) → Link
connect from to num den ε⁺ ε⁻ δ⁺ δ⁻ over kind = record {
  from = from;
  to = to;
  num = num;
  den = den;
  ticks = (ε⁺, ε⁻);
  events = (δ⁺, δ⁻);
  over = over;
  kind = kind;
}

abbrev rated : ℕ → ℕ → Port
rated num den = record { num = num; den = den }

-- ports 1/1, 1/3 and 1/1; 0 to 1 with ratio 2/1, ε 3, δ 1; 1 to 2 with ratio 1/2, ε −5, δ −1
abbrev chain : Table
chain = record {
  ports = rated 1 1 ∷ rated 1 3 ∷ rated 1 1 ∷ [];
  links = connect 0 1 2 1 3 0 1 0 1 2 ∷ connect 1 2 1 2 0 5 0 1 1 2 ∷ [];
}

-- the sender's rate becomes 1/3 divided by 2/1; the new connection has ratio 1/1, ε −2, δ 1 − 1 / 2
abbrev hidden_chain : Table
hidden_chain = record { ports = rated 1 6 ∷ rated 1 1 ∷ []; links = connect 0 1 1 1 0 2 1 0 2 4 ∷ [] }

chain_hidden : hidden_table chain 1 ≡ hidden_chain
unfolding hidden_table keep flat_map via lowest_num lowest_den gcd lowers slower carried_rate lowest_sender lowest_of new_number
chain_hidden = refl

-- the first port has no sender, the last no receiver, and there is no fourth
first_cannot : cannot_hide chain 0 ≡ true
unfolding cannot_hide keep
first_cannot = refl

last_cannot : cannot_hide chain 2 ≡ true
unfolding cannot_hide keep
last_cannot = refl

fourth_cannot : cannot_hide chain 3 ≡ true
unfolding cannot_hide keep
fourth_cannot = refl

middle_can : cannot_hide chain 1 ≡ false
unfolding cannot_hide keep
middle_can = refl

-- 40 bytes
bytes_are : length (encode_table hidden_chain) ≡ 40
unfolding encode_table flat_map encode_port encode_link connection_fields link_fields signed_word encode bytes
bytes_are = refl

-- a rate that is smaller already is kept as it is written: 2/14 is no more than 1/3 divided by 2/1
slow_sender : Table
slow_sender = record {
  ports = rated 2 14 ∷ rated 1 3 ∷ rated 1 1 ∷ [];
  links = connect 0 1 2 1 3 0 1 0 1 2 ∷ connect 1 2 1 2 0 5 0 1 1 2 ∷ [];
}

rate_kept : (hidden_table slow_sender 1).ports ≡ rated 2 14 ∷ rated 1 1 ∷ []
unfolding slow_sender hidden_table keep lowest_num lowest_den gcd lowers slower carried_rate lowest_sender lowest_of
rate_kept = refl

-- 19: ε of both is above its range
far : Table
far = record {
  ports = rated 1 1 ∷ rated 1 1 ∷ [];
  links = connect 0 1 1 1 10000000 0 0 0 1 2 ∷ connect 1 0 1 1 1 0 0 1 1 2 ∷ [];
}

far_leaves : value_leaves far 1 ≡ true
unfolding far value_leaves link_leaves keep flat_map via lowest_num lowest_den gcd lowers slower carried_rate lowest_sender lowest_of
far_leaves = refl

-- ---- returned starts may differ: they are the least not below zero, and the hidden port's start, which is held there too, is gone
-- three ports 1/1; 0 to 1 with ε −4, 1 to 2 with ε 3
abbrev early : Table
early = record {
  ports = rated 1 1 ∷ rated 1 1 ∷ rated 1 1 ∷ [];
  links = connect 0 1 1 1 0 4 0 0 1 2 ∷ connect 1 2 1 1 3 0 0 0 1 2 ∷ [];
}

-- 0 to 1 with ε −1
abbrev hidden_early : Table
hidden_early = record { ports = rated 1 1 ∷ rated 1 1 ∷ []; links = connect 0 1 1 1 0 1 0 0 1 4 ∷ [] }

early_hidden : hidden_table early 1 ≡ hidden_early
unfolding hidden_table keep flat_map via lowest_num lowest_den gcd lowers slower carried_rate lowest_sender lowest_of new_number
early_hidden = refl

-- the last port's start is returned as 3 or more
early_start : {r : Timing} → LeastSolution early r → whole 3 ≼ start_of r 2
early_start {r} l =
    let some : 0 < δ° early 1 = omega arith in
    ≼_trans (later some (r.start 1) (r.b 1) (r.over 1) (period_of r 1))
    (l.solution.starts.holds 1 (record { a_link = record { below = omega arith }; events = refl }) some)
  where
    later : (some : 0 < δ° early 1) (n b : ℕ) (over : 0 < b) (period : Rational) → whole 3 ≼ share n b over ⊕ ε early 1 ⊕ δ early 1 some ⊗ period
    later some n b over period = omega arith

-- with port 1 hidden it is returned as 0
hidden_start : {r : Timing} → LeastSolution hidden_early r → start_of r 1 ≼ whole 0
hidden_start {r} l = l.least_starts (λ q. whole 0) (λ q i. omega arith) (record { holds = met }) 1 (record { below = omega arith })
  where
    met : (k : ℕ) → IsConnection hidden_early k → (some : 0 < δ° hidden_early k)
        → whole 0 ⊕ ε hidden_early k ⊕ δ hidden_early k some ⊗ period_of r (from hidden_early k) ≼ whole 0
    met zero c some = omega arith
    met (suc k) c some = absurd (omega (arith, c.a_link.below))
