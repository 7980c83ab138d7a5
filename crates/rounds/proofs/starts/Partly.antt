-- A round that is under way: the first k edges have been relaxed.
use Prim.Native.Nat.{ℕ, ◌+◌, ◌*◌, ◌≤◌}
use mathlib.Core.Path.{◌≡◌, sym, ap, ◌∙◌}
use mathlib.Core.List.{List}
use Rattle.std.specs.Prelude.{Option, Some, None}
use native.Mathlib.Omega.{arith}
use native.Mathlib.Numerals.{add-one}
use lib.ListN.{length, get_or}
use lib.Seq.{ext_get_or}
use Rattle.rounds.specs.Costs.{count, from_of, to_of, most_cost}
use Rattle.rounds.specs.Starts.{asked, raise, relaxed, round_of}
use Rattle.rounds.specs.StartsLaws.{raise_length, relaxed_round}
use Rattle.rounds.specs.Relax.{Ready, CanRound, Grown, Raised, Round}
use Rattle.rounds.proofs.Chunks.{Parts}
use Rattle.rounds.proofs.starts.Relaxed.{raise_most}

-- t is what the first k edges make of s
pub record Partly (cs s : List ℕ) (k : ℕ) (t : List ℕ) : Type 0 where
  pub low : CanRound cs s
  pub within : k ≤ count cs
  pub long : length t ≡ 64
  pub made : t ≡ relaxed cs s k
  pub starts : (j : ℕ) → get_or t j 0 ≤ 65 * most_cost

pub partly_none : {cs s t : List ℕ} → CanRound cs s → t ≡ s → Partly cs s 0 t
unfolding relaxed
partly_none w e = record { low = w; within = omega arith; long = ap length e ∙ w.ports; made = e; starts = λ j. rw e (omega (arith, w.starts j)) }

module _ {cs s : List ℕ} {k : ℕ} {t : List ℕ} (p : Partly cs s k t) where
  -- the next edge can be relaxed
  module _ {edge : List ℕ} (e : Parts cs k edge) where
    pub partly_ready : Ready edge s t 0
    partly_ready = let l = e.an_edge in record {
      an_edge = omega (arith, e.long);
      from_in = omega (arith, e.from, p.low.edges.from_in k l);
      to_in = omega (arith, e.to, p.low.edges.to_in k l);
      reach = rw (e.from, e.gain) (omega (arith, p.low.starts (from_of cs k), p.low.edges.gains k l));
      least = rw (e.to, e.loss) (omega (arith, p.starts (to_of cs k), p.low.edges.losses k l));
    }

    pub partly_on : {t' : List ℕ} → t' ≡ raise t (to_of edge 0) (asked edge s 0) → Partly cs s (k + 1) t'
    unfolding relaxed
    partly_on {t'} relaxed =
        let l = e.an_edge in
        let made : t' ≡ raise t (to_of cs k) (asked cs s k) = rw (e.from, e.to, e.gain, e.loss) at relaxed in
        record {
          low = p.low;
          within = omega arith;
          long = ap length made ∙ raise_length t (to_of cs k) (asked cs s k) ∙ p.long;
          made = rw (add-one, ← p.made) made;
          starts = λ j. rw made (raise_most t (to_of cs k) (asked cs s k) (omega (arith, p.low.edges.to_in k l, p.long)) p.starts
              (omega (arith, p.low.starts (from_of cs k), p.low.edges.gains k l)) j);
        }

  -- no edge is left, and j is the lowest port whose start grew
  pub partly_all : {j : Option ℕ} → count cs ≤ k → Grown s t j → Round cs s t j
  unfolding round_of
  partly_all {j} l g =
      let e : k ≡ count cs = omega (arith, p.within) in
      record { made = rw e at p.made; raised = raised j g }
    where
      grows : (i : ℕ) → get_or s i 0 ≤ get_or t i 0
      grows i = rw p.made ((relaxed_round cs s k (λ i m. omega (arith, p.low.edges.to_in i (omega (arith, p.within)), p.low.ports))).grows i)

      raised : (j : Option ℕ) → Grown s t j → Raised s t j
      raised None h = ext_get_or 0 t s (p.long ∙ sym p.low.ports) (λ i b. omega (arith, h i (omega (arith, p.long)), grows i))
      raised (Some j) h = record { grew = h.grew; lower = λ i b. omega (arith, h.lower i b, grows i) }
