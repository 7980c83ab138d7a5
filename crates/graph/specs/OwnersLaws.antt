-- What stands in the list of owners, and where.
use Rattle.std.specs.Prelude.{ℕ, ◌+◌, ◌*◌, ◌<◌, ◌≡◌, List, [], ◌∷◌, length, get_or}
use Rattle.std.proofs.Math.Path.{refl}
use Rattle.std.proofs.Common.{◌∙◌}
use native.Mathlib.Omega.{arith}
use Rattle.numbers.specs.WideRows.{rows_length, rows_at}
use Rattle.specification.specs.Table.{Table, port_count, link, is_buffer, from}
use Rattle.graph.specs.Owners.{owner_of, owners_of}

module _ (t : Table) (labels : List ℕ) where
  abbrev owner_at : ℕ → List ℕ
  owner_at k = owner_of (port_count t) (get_or labels (from t k) 0) (is_buffer (link t k)) ∷ []

  pub owners_length : (n : ℕ) → length (owners_of t labels n) ≡ n
  unfolding owners_of
  owners_length n = rows_length (owners_of t labels) owner_at 1 refl (λ n. refl) (λ n. refl) n ∙ omega arith

  pub owners_at : (n k : ℕ) → k < n → get_or (owners_of t labels n) k 0 ≡ owner_of (port_count t) (get_or labels (from t k) 0) (is_buffer (link t k))
  unfolding owners_of
  owners_at n k l =
      let e : 1 * k + 0 ≡ k = omega arith in
      rw e at (rows_at (owners_of t labels) owner_at 1 refl (λ n. refl) (λ n. refl) n k 0 l (omega arith))
