-- Laws of the lists of limits and edges: how many edges there are, and what stands where.
use Prim.Native.Nat.{ℕ, zero, suc, ◌+◌, ◌*◌, ◌/◌, ◌<◌}
use Rattle.std.specs.Prelude.{◌≡◌, length, get_or}
use Rattle.std.proofs.Math.Path.{refl}
use Rattle.std.proofs.Common.{◌∙◌, not-suc-le-zero, le_of_suc-le-suc, get_or-append-add}
use mathlib.Core.List.{List, [], ◌∷◌}
use native.Mathlib.Omega.{arith}
use Rattle.std.proofs.Math.ListN.{get_or-append}
use Rattle.numbers.specs.WideRows.{rows_at}
use Rattle.specification.specs.declared.Port.{Port}
use Rattle.specification.specs.declared.Link.{Link}
use Rattle.period.specs.Edges.{limit_parts, limits_to, limits_of, edge_of, edges_of}

module _ (ports : List Port) (weights : List ℕ) where
  pub limits_at : (p i : ℕ) → p < 64 → i < 2 → get_or (limits_of ports weights) (2 * p + i) 0 ≡ get_or (limit_parts ports weights p) i 0
  unfolding limits_to
  limits_at = rows_at (limits_to ports weights) (limit_parts ports weights) 2 refl (λ n. refl) (λ n. refl) 64

module _ (links : List Link) (weights : List ℕ) where
  pub edges_length : (ks : List ℕ) → length (edges_of links weights ks) ≡ 6 * length ks
  unfolding edges_of
  edges_length [] = refl
  edges_length (k ∷ ks) = omega (arith, edges_length ks)

  pub edges_at : (ks : List ℕ) (i j : ℕ) → i < length ks → j < 6
      → get_or (edges_of links weights ks) (6 * i + j) 0 ≡ get_or (edge_of links weights (get_or ks i 0)) j 0
  unfolding edges_of
  edges_at [] i j l m = absurd (not-suc-le-zero l)
  edges_at (k ∷ ks) zero j l m =
      let e : 6 * 0 + j ≡ j = omega arith in
      rw e (get_or-append (edge_of links weights k) (edges_of links weights ks) 0 j m)
  edges_at (k ∷ ks) (suc i) j l m =
      let e : 6 * suc i + j ≡ 6 + (6 * i + j) = omega arith in
      rw e (get_or-append-add (edge_of links weights k) (edges_of links weights ks) (6 * i + j) 0 ∙ edges_at ks i j (le_of_suc-le-suc l) m)

  pub edges_count : (ks : List ℕ) → length (edges_of links weights ks) / 6 ≡ length ks
  edges_count ks = omega (arith, edges_length ks)
