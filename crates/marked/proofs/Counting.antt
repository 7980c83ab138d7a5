-- The bytes that changed, counted.
use Rattle.std.specs.Prelude.{count_by, not, ◌==◌}
use Rattle.std.proofs.Common.{ℕ, zero, suc, ◌+◌, ◌≡◌, refl, arith, Bool, true, false, cond, List, replicate}
use Rattle.std.proofs.lemmas.List.Recursion.{is_count_by}
use Rattle.marked.specs.Changed.{changed_byte, changed_bytes}

pub none_changed : (n : ℕ) → changed_bytes (replicate n 165) ≡ 0
unfolding changed_byte
none_changed zero = refl
none_changed (suc n) = omega (arith, none_changed n)

pub counted : (rest : List ℕ) → changed_bytes rest ≡ count_by (λ byte. not (byte == 165)) rest
unfolding changed_byte
counted = is_count_by changed_bytes (λ byte. not (byte == 165)) refl (λ byte rest. step (byte == 165) (changed_bytes rest))
  where
    step : (b : Bool) (n : ℕ) → cond b 0 1 + n ≡ cond (not b) (1 + n) n
    step true n = omega arith
    step false n = omega arith
