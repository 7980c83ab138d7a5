-- Rounds that are under way: r of them have been made.
use Prim.Native.Nat.{ℕ, suc, ◌+◌, ◌-◌, ◌*◌, ◌≤◌, ◌<◌}
use mathlib.Core.Path.{◌≡◌, refl, ap, ◌∙◌}
use mathlib.Core.Logic.{◌≢◌}
use mathlib.Core.List.{List, ◌++◌}
use Rattle.std.specs.Prelude.{Option, Some, None}
use native.Mathlib.Omega.{arith}
use native.Mathlib.Decide.{ℕ_discrete}
use native.Mathlib.Numerals.{add-one}
use borrow.Author.Count.{below_more}
use lib.ListN.{length, get_or, take, drop, replicate, length-replicate}
use lib.Seq.{length-take-le}
use Rattle.rounds.specs.Starts.{starts, start_of, round_of, row, costs_in, Kept, Fitting, Stopped, Moving}
use Rattle.rounds.specs.StartsLaws.{starts_length, starts_bound}
use Rattle.rounds.specs.Relax.{Higher, Raised}
use Rattle.rounds.specs.Advance.{with_row, Ahead, Advanced}
use Rattle.rounds.proofs.starts.Buffer.{with_row_length, with_row_here, with_row_before, with_row_costs}

-- each of r rounds over the costs cs behind row n changed something, and j is the lowest port that the last of them raised; the buffer, work₀ before them, is work
pub record RoundsMade (cs : List ℕ) (n edges : ℕ) (work₀ work : List ℕ) (r j : ℕ) : Type 0 where
  pub fitting : Fitting cs work n
  pub room : 64 * n + 64 + 4 * edges ≤ length work
  pub costs : costs_in work n edges ≡ cs
  pub long : length work ≡ length work₀
  pub within : r ≤ n
  pub kept : Kept cs work r
  pub moved : (q : ℕ) → q < r → starts cs (suc q) ≢ starts cs q
  pub grew : 0 < r → start_of cs (r - 1) j < start_of cs r j
  pub lower : 0 < r → (i : ℕ) → i < j → start_of cs r i ≡ start_of cs (r - 1) i

fitting_at : {cs work work' : List ℕ} {n : ℕ} → Fitting cs work n → length work' ≡ length work → Fitting cs work' n
fitting_at f e = record { edges = f.edges; some = f.some; few = f.few; room = omega arith }

zero_ports : length (replicate {A = ℕ} 64 0) ≡ 64
zero_ports = length-replicate {A = ℕ} 64 0

-- zeros in place of the first 64 numbers are row 0
pub cleared : (work : List ℕ) {zeros : List ℕ} → 64 ≤ length work → zeros ≡ replicate (length (take 64 work)) 0 → zeros ++ drop 64 work ≡ with_row work 0 (replicate 64 0)
cleared work l e = let long : length (take 64 work) ≡ 64 = length-take-le 64 work l in rw (e, long)

module _ {work work' : List ℕ} {n : ℕ} (edges : ℕ) (f : Fitting (costs_in work n edges) work n) (e : work' ≡ with_row work 0 (replicate 64 0)) where
  -- zeros in row 0 leave the costs alone
  pub made_costs : costs_in work' n edges ≡ costs_in work n edges
  made_costs = rw e (with_row_costs work 0 (replicate 64 0) (omega arith) zero_ports n (omega arith) edges)

  pub made_none : {j : ℕ} → 64 * n + 64 + 4 * edges ≤ length work → RoundsMade (costs_in work' n edges) n edges work' work' 0 j
  unfolding starts
  made_none room =
      let zeros : List ℕ = replicate 64 0 in
      let g : Fitting (costs_in work' n edges) work n = rw made_costs f in
      let same : length work' ≡ length work = ap length e ∙ with_row_length work 0 zeros (omega arith) zero_ports in
      record {
        fitting = fitting_at g same;
        room = omega arith;
        costs = refl;
        long = refl;
        within = omega arith;
        kept = record { rows_are = λ q l. let z : q ≡ 0 = omega arith in rw (z, e) (with_row_here work 0 zeros (omega arith) zero_ports) };
        moved = λ q l. absurd (omega arith);
        grew = λ l. absurd (omega arith);
        lower = λ l. absurd (omega arith);
      }

module _ {cs : List ℕ} {n edges : ℕ} {work₀ work : List ℕ} {r j : ℕ} (g : RoundsMade cs n edges work₀ work r j) (l : r < n) where
  here : row work r ≡ starts cs r
  here = g.kept.rows_are r (omega arith)

  -- the next round can be made
  pub made_ahead : Ahead work r n edges
  made_ahead = record {
    low = rw (g.costs, here) (record {
      edges = g.fitting.edges;
      ports = starts_length cs r;
      starts = λ i. omega (arith, starts_bound cs g.fitting.edges r i);
    });
    before = l;
    room = g.room;
  }

  module _ {work' : List ℕ} {i : Option ℕ} (y : Advanced (costs_in work n edges) r work work' i) where
    x : Advanced cs r work work' i
    x = rw g.costs at y

    next : round_of cs (row work r) ≡ starts cs (suc r)
    unfolding starts
    next = rw here

    ports : length (round_of cs (row work r)) ≡ 64
    ports = rw next (starts_length cs (suc r))

    kept' : Kept cs work' (suc r)
    kept' = record { rows_are = λ q b. rw x.made (go q b (ℕ_discrete q (suc r))) }
      where
        go : (q : ℕ) → q ≤ suc r → Dec (q ≡ suc r) → row (with_row work (suc r) (round_of cs (row work r))) q ≡ starts cs q
        go q b (yes e) = rw e (with_row_here work (suc r) (round_of cs (row work r)) (omega arith) ports ∙ next)
        go q b (no d) = with_row_before work (suc r) (round_of cs (row work r)) (omega arith) ports q (omega arith) ∙ g.kept.rows_are q (omega arith)

    raised : Raised (starts cs r) (starts cs (suc r)) i
    raised = rw (next, here) at x.raised

    -- the round raised port p
    pub made_on : {p : ℕ} → costs_in work' n edges ≡ costs_in work n edges → i ≡ Some p → RoundsMade cs n edges work₀ work' (r + 1) p
    made_on {p} same d =
        let e : length work' ≡ length work = ap length x.made ∙ with_row_length work (suc r) (round_of cs (row work r)) (omega arith) ports in
        let back : r + 1 - 1 ≡ r = omega arith in
        let rose : Higher (starts cs r) (starts cs (suc r)) p = rw d at raised in
        record {
          fitting = fitting_at g.fitting e;
          room = omega arith;
          costs = same ∙ g.costs;
          long = omega arith;
          within = omega arith;
          kept = rw add-one kept';
          moved = below_more (λ (q : ℕ). starts cs (suc q) ≢ starts cs q) r g.moved (λ z. omega (arith, rose.grew, ap (λ (s : List ℕ). get_or s p 0) z));
          grew = λ _. rw (back, add-one) rose.grew;
          lower = λ _. rw (back, add-one) rose.lower;
        }

    -- the round changed nothing
    pub made_stopped : i ≡ None → Stopped cs work' n r
    made_stopped e = record {
      within = l;
      kept = record { rows_are = λ q b. kept'.rows_are q (omega arith) };
      moved = g.moved;
      still = rw e at raised;
    }

pub made_all : {cs : List ℕ} {n edges : ℕ} {work₀ work : List ℕ} {r j : ℕ} → RoundsMade cs n edges work₀ work r j → n ≤ r → Moving cs work n j
made_all {cs} {n} {edges} {work₀} {work} {r} {j} g l =
    let e : r ≡ n = omega arith in
    let h : RoundsMade cs n edges work₀ work n j = rw e at g in
    record { kept = h.kept; moved = h.moved; grew = h.grew (omega arith); lower = h.lower (omega arith) }
