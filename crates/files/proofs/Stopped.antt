-- A file that was not read whole stops those behind it.
use Rattle.std.proofs.Common.{Result, Ok, Err, ℕ, ◌≡◌, refl, Bool, true, false, cond, arith}
use Rattle.std.specs.Result.{result_and, result_err, result_unwrap_or}
use Rattle.input.specs.Input.{has_failed, read_whole, stop_of, whole_of}
use Rattle.input.specs.declared.Input.{Input}
use Rattle.input.specs.declared.Stop.{Stop}
use Rattle.files.specs.Files.{whole_file, stop_failed, stopped_of, in_turn, GivenAtMost}
use Rattle.files.specs.FilesLaws.{given_within}
use Rattle.files.specs.declared.InTurn.{InTurn}

-- what each file's reading makes of those before it
abbrev pub turn_of : (first second added : Result ℕ Stop) → InTurn
turn_of first second added =
    let both = result_and first second in
    let all = result_and both added in
    record { first = result_unwrap_or first 0; second = result_unwrap_or both 0; added = result_unwrap_or all 0; stopped = result_err all }

module _ (first second added : Input) where
  pub turn_is : turn_of (whole_of first) (whole_of second) (whole_of added) ≡ in_turn first second added
  unfolding in_turn whole_file stop_failed whole_of
  turn_is =
      by
      (read_whole (has_failed first.end) first.count)
      (read_whole (has_failed second.end) second.count)
      (read_whole (has_failed added.end) added.count)
    where
      result : Bool → Input → Result ℕ Stop
      result whole read = cond whole (Ok read.count) (Err (stop_of (has_failed read.end)))

      by : (p q r : Bool) → turn_of (result p first) (result q second) (result r added)
          ≡ (let both = cond p q false in
          let all = cond both r false in
          record {
            first = cond p first.count 0;
            second = cond both second.count 0;
            added = cond all added.count 0;
            stopped = stopped_of all (cond p (cond both (has_failed added.end) (has_failed second.end)) (has_failed first.end));
          })
      by true true true = refl
      by true true false = refl
      by true false r = refl
      by false q r = refl

  pub turn_within : GivenAtMost first second added (in_turn first second added)
  unfolding in_turn
  turn_within = record {
    first_most = given_within _ {n = first.count} (omega arith);
    second_most = given_within _ {n = second.count} (omega arith);
    added_most = given_within _ {n = added.count} (omega arith);
  }
