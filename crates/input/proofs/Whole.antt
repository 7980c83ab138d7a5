-- What `whole` returned, by whether the input was read whole.
use Rattle.std.proofs.Common.{Ok, Err, ℕ, ◌≡◌, refl, Bool, true, false, cond}
use Rattle.input.specs.Input.{has_failed, read_whole, stop_of, whole_of}
use Rattle.input.specs.declared.Input.{Input}
use Rattle.input.specs.declared.Stop.{Stop}

module _ (read : Input) where
  pub whole_ok : {n : ℕ} → Ok n ≡ whole_of read → (read_whole (has_failed read.end) read.count ≡ true) × (n ≡ read.count)
  unfolding whole_of
  whole_ok {n} e = by (read_whole (has_failed read.end) read.count) e
    where
      by : (b : Bool) → Ok n ≡ cond b (Ok read.count) (Err (stop_of (has_failed read.end))) → (b ≡ true) × (n ≡ read.count)
      by true e = (refl, cc)
      by false e = cc

  pub whole_err : {stop : Stop} → Err stop ≡ whole_of read → (read_whole (has_failed read.end) read.count ≡ false) × (stop ≡ stop_of (has_failed read.end))
  unfolding whole_of
  whole_err {stop} e = by (read_whole (has_failed read.end) read.count) e
    where
      by : (b : Bool) → Err stop ≡ cond b (Ok read.count) (Err (stop_of (has_failed read.end))) → (b ≡ false) × (stop ≡ stop_of (has_failed read.end))
      by true e = cc
      by false e = (refl, cc)
