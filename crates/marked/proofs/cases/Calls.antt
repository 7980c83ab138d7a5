-- One call after the other, until one finds no case.
use Rattle.std.specs.Prelude.{ℕ, ◌+◌, ◌≤◌, ◌<◌, ◌≡◌, true, false, Option, Some, None, replicate}
use Rattle.std.specs.Option.{is_some}
use Rattle.std.specs.List.{FoldsTo}
use Rattle.std.proofs.Common.{refl, arith}
use Rattle.std.proofs.lemmas.Bool.{lt-ltb, le-ltb}
use Rattle.std.proofs.lemmas.Fn.{FoldsTo-push}
use Rattle.std.proofs.lemmas.List.{replicate_more, append-nil}
use Rattle.marked.specs.Cases.{most_cases, CalledToEnd}

module _ {F : Type 0} (step : F → Option (Unit {0}) → F → Type 0) (first : F) where
  -- the first n calls found a case each
  pub record FoundFirst (n : ℕ) (last : F) : Type 0 where
    pub few : n ≤ most_cases
    pub called : FoldsTo step first (replicate n (Some tt)) last

  pub found_none : FoundFirst 0 first
  found_none = record { few = omega arith; called = refl }

  module _ {n : ℕ} {last : F} (f : FoundFirst n last) where
    pub found_on : (r : Option (Unit {0})) {next : F} → n < most_cases → is_some r ≡ true → step last r next → FoundFirst (n + 1) next
    found_on None h e s = absurd cc
    found_on (Some u) h e s = record { few = omega arith; called = rw (← replicate_more n (Some (tt {0}))) (FoldsTo-push step first (replicate n (Some tt)) last (Some tt) _ f.called s) }

    pub found_end : (r : Option (Unit {0})) {next : F} → n < most_cases → is_some r ≡ false → step last r next → CalledToEnd step first
    found_end None {next} h e s = record {
      count = n;
      few = f.few;
      last = next;
      called = rw (lt-ltb n most_cases h) (FoldsTo-push step first (replicate n (Some tt)) last None next f.called s);
    }
    found_end (Some u) h e s = absurd cc

    pub found_all : most_cases ≤ n → CalledToEnd step first
    found_all h = record {
      count = n;
      few = f.few;
      last = last;
      called = rw (le-ltb n most_cases h, append-nil (replicate n (Some (tt {0})))) f.called;
    }
