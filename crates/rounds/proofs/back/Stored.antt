-- The rows of the buffer as starts, and the tight edge that each step back asks for.
use Prim.Native.Nat.{ℕ, suc, ◌+◌, ◌*◌, ◌≤◌, ◌<◌}
use mathlib.Core.Path.{◌≡◌, sym, ap, ◌∙◌}
use mathlib.Core.List.{List}
use native.Mathlib.Omega.{arith}
use lib.ListN.{length, get_or, drop}
use lib.Seq.{get_or-take, get_or-drop}
use Rattle.rounds.specs.Costs.{count, from_of, to_of, gain_of, loss_of, Priced}
use Rattle.rounds.specs.Starts.{start_of, Kept}
use Rattle.rounds.specs.StartsLaws.{starts_rows, starts_bound}
use Rattle.rounds.specs.Tight.{TightEdge, SomeTight}

-- edge k is tight from row u to row u + 1
pub record Tight (cs : List ℕ) (u p k : ℕ) : Type 0 where
  pub is_edge : k < count cs
  pub into : to_of cs k ≡ p
  pub exact : start_of cs u (from_of cs k) + gain_of cs k ≡ start_of cs (suc u) p + loss_of cs k

module _ {cs rows : List ℕ} {n : ℕ} (kept : Kept cs rows n) where
  stored : (r : ℕ) → r ≤ n → (j : ℕ) → j < 64 → get_or rows (64 * r + j) 0 ≡ start_of cs r j
  stored r b j l =
      sym (get_or-drop (64 * r) rows j 0) ∙ (sym (get_or-take 64 (drop (64 * r) rows) j 0 l) ∙ ap (λ (s : List ℕ). get_or s j 0) (kept.rows_are r b))

  -- the row after row u
  stored_next : (u : ℕ) → u < n → (j : ℕ) → j < 64 → get_or rows (64 * u + 64 + j) 0 ≡ start_of cs (suc u) j
  stored_next u b j l =
      let e : 64 * u + 64 + j ≡ 64 * suc u + j = omega arith in
      rw e (stored (suc u) b j l)

  module _ (edges : Priced cs) {u p : ℕ} (before : u < n) (low : p < 64) where
    -- an edge that is tight in the buffer is tight
    pub tight_stored : {k : ℕ} → TightEdge cs rows u p k → Tight cs u p k
    tight_stored {k} t = record {
      is_edge = t.is_edge;
      into = t.into;
      exact = omega (arith, t.exact, stored u (omega arith) (from_of cs k) (edges.from_in k t.is_edge), stored_next u before p low);
    }

    -- a port that grows has a tight edge into it
    pub tight_behind : n ≤ 64 → 64 * n + 64 ≤ length rows → start_of cs u p < start_of cs (suc u) p → SomeTight cs rows u p
    tight_behind few room grew =
        let (k, m, e, t) = ((starts_rows cs edges.to_in n).next u before).attained p grew in
        record {
          edges = edges;
          port = low;
          room = omega arith;
          below = λ j l. omega (arith, stored u (omega arith) j l, starts_bound cs edges u j);
          above = omega (arith, stored_next u before p low, starts_bound cs edges (suc u) p);
          edge = k;
          tight = record {
            is_edge = m;
            into = e;
            exact = omega (arith, t, stored u (omega arith) (from_of cs k) (edges.from_in k m), stored_next u before p low);
          };
        }
