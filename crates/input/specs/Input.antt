-- What a read of an input comes to.
use Rattle.std.specs.Prelude.{Result, Ok, Err, ℕ, ◌+◌, ◌≤◌, ◌<◌, min, ◌≡◌, Bool, true, false, cond, ℤ, pos, negsuc, ltb, leb}
use Rattle.std.proofs.Common.{refl, arith, ltb-true}
use Rattle.input.specs.declared.End.{End}
use Rattle.input.specs.declared.End.TheVariants.{More, Reached, Failed}
use Rattle.input.specs.declared.Input.{Input}
use Rattle.input.specs.declared.Stop.{Stop}
use Rattle.input.specs.declared.Stop.TheVariants.{Unread, Long}

-- by the result of the read: so many bytes more, the end where there are none, and a failure where it is negative
abbrev pub after_read : (count : ℕ) → ℤ → (rest : ℕ) → Input
after_read count (pos n) rest = record { count = count + min n rest; end = cond (ltb 0 (min n rest)) More Reached }
after_read count (negsuc n) rest = record { count = count; end = Failed }

-- the result of a read as the definition above takes it: how many bytes it read, and a negative number where it failed
abbrev pub read_result : {E : Type 0} → Result ℕ E → ℤ
read_result (Ok n) = pos n
read_result (Err e) = negsuc 0

pub record AfterRead (count : ℕ) (got : ℤ) (rest : ℕ) (r : Input) : Type 0 where
  pub is : r ≡ after_read count got rest

-- within a buffer of so many bytes, and further on where more may come
pub record Onward (count most : ℕ) (r : Input) : Type 0 where
  pub least : count ≤ r.count
  pub within : r.count ≤ most
  pub further : r.end ≡ More → count < r.count

pub read_onward : {count rest most : ℕ} {got : ℤ} {r : Input} → AfterRead count got rest r → count + rest ≤ most → Onward count most r
read_onward {count} {rest} {most} {got} h room = rw h.is (by got)
  where
    more : (b : Bool) → cond b More Reached ≡ More → b ≡ true
    more true e = refl
    more false e = cc

    by : (z : ℤ) → Onward count most (after_read count z rest)
    by (pos n) = record { least = omega arith; within = omega arith; further = λ e. omega (arith, ltb-true 0 (min n rest) (more _ e)) }
    by (negsuc n) = record { least = omega arith; within = omega arith; further = λ e. cc }

-- the most bytes of an input that are taken
abbrev pub most_bytes : ℕ
most_bytes = 65536

-- an input of so many bytes was read whole: no read failed, and it is not longer than is taken
unfoldable pub read_whole : (failed : Bool) (count : ℕ) → Bool
read_whole failed count = cond failed false (leb count most_bytes)

-- whether a read failed
abbrev pub has_failed : End → Bool
has_failed More = false
has_failed Reached = false
has_failed Failed = true

-- why an input was not read whole
abbrev pub stop_of : (failed : Bool) → Stop
stop_of failed = cond failed Unread Long

-- whether it was not since a read failed
abbrev pub read_failed : Stop → Bool
read_failed Unread = true
read_failed Long = false

-- how many bytes there are where they were read whole
unfoldable pub whole_of : Input → Result ℕ Stop
whole_of read = cond (read_whole (has_failed read.end) read.count) (Ok read.count) (Err (stop_of (has_failed read.end)))
