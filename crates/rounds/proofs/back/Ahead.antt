-- The search for a tight edge: one lies ahead.
use Prim.Native.Nat.{ℕ, ◌+◌, ◌*◌, ◌≤◌, ◌<◌}
use mathlib.Core.Path.{◌≡◌, ◌∙◌}
use mathlib.Core.Logic.{◌≢◌}
use mathlib.Core.List.{List}
use native.Mathlib.Omega.{arith}
use lib.ListN.{get_or}
use Rattle.rounds.specs.Costs.{from_of, most_cost}
use Rattle.rounds.proofs.Chunks.{Parts}
use Rattle.rounds.specs.Tight.{TightEdge, SomeTight}

-- an edge from k on is tight
pub record Ahead (cs rows : List ℕ) (r p k : ℕ) : Type 0 where
  pub edge : ℕ
  pub tight : TightEdge cs rows r p edge
  pub later : k ≤ edge

-- the numbers of an edge are in range
pub record InRange (rows : List ℕ) (r : ℕ) (edge : List ℕ) : Type 0 where
  pub from_in : get_or edge 0 0 < 64
  pub gain : get_or edge 2 0 ≤ most_cost
  pub loss : get_or edge 3 0 ≤ most_cost
  pub start : get_or rows (64 * r + get_or edge 0 0) 0 ≤ 64 * most_cost

module _ {cs rows : List ℕ} {r p : ℕ} where
  module _ {k : ℕ} {edge : List ℕ} where
    pub ahead_range : SomeTight cs rows r p → Parts cs k edge → InRange rows r edge
    ahead_range s e = record {
      from_in = omega (arith, s.edges.from_in k e.an_edge);
      gain = omega (arith, s.edges.gains k e.an_edge);
      loss = omega (arith, s.edges.losses k e.an_edge);
      start = rw e.from (s.below (from_of cs k) (s.edges.from_in k e.an_edge));
    }

    -- edge k is tight
    pub ahead_found : Parts cs k edge → get_or edge 1 0 ≡ p
        → get_or rows (64 * r + get_or edge 0 0) 0 + get_or edge 2 0 ≡ get_or rows (64 * r + 64 + p) 0 + get_or edge 3 0 → TightEdge cs rows r p k
    ahead_found e into exact = record { is_edge = e.an_edge; into = rw e.to at into; exact = rw (e.from, e.gain, e.loss) at exact }

    module _ (a : Ahead cs rows r p k) (e : Parts cs k edge) where
      past : a.edge ≢ k → Ahead cs rows r p (k + 1)
      past h = record { edge = a.edge; tight = a.tight; later = omega (arith, a.later) }

      -- it goes to another port
      pub ahead_other : get_or edge 1 0 ≢ p → Ahead cs rows r p (k + 1)
      ahead_other h = past (λ same. h (e.to ∙ rw same at a.tight.into))

      -- it is not tight
      pub ahead_loose : get_or rows (64 * r + get_or edge 0 0) 0 + get_or edge 2 0 ≢ get_or rows (64 * r + 64 + p) 0 + get_or edge 3 0
          → Ahead cs rows r p (k + 1)
      ahead_loose h = past (λ same. h (rw (e.from, e.gain, e.loss) (rw same at a.tight.exact)))
