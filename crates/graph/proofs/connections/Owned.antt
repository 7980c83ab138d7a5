-- The owners that are written.
use Prim.Native.Nat.{ℕ, ◌<◌}
use mathlib.Core.Path.{◌≡◌, sym, ◌∙◌}
use mathlib.Core.List.{List}
use native.Mathlib.Omega.{arith}
use lib.ListN.{get_or, length}
use lib.Seq.{ext_get_or}
use Rattle.specification.specs.Table.{Table, port_count, link_count, link, is_buffer, from}
use Rattle.graph.specs.Owners.{owner_of, owners_of}
use Rattle.graph.specs.OwnersLaws.{owners_length, owners_at}

-- the first i owners are those of the links
abbrev pub OwnersTo : Table → (labels owners : List ℕ) (i : ℕ) → Type 0
OwnersTo t labels owners i = (k : ℕ) → k < i → get_or owners k 0 ≡ owner_of (port_count t) (get_or labels (from t k) 0) (is_buffer (link t k))

pub owners_all : (t : Table) (labels : List ℕ) {owners : List ℕ} → length owners ≡ link_count t → OwnersTo t labels owners (link_count t)
    → owners ≡ owners_of t labels (link_count t)
owners_all t labels {owners} long each =
    ext_get_or 0 owners (owners_of t labels (link_count t)) (long ∙ sym (owners_length t labels (link_count t)))
    (λ k h. let l : k < link_count t = omega (arith, long) in each k l ∙ sym (owners_at t labels (link_count t) k l))
