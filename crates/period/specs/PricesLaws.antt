-- Laws of prices: they are the edges of the component at a/b, they are small, what holds of their graph holds of the component's, and
-- rounds over them stop where a/b serves.
use Prim.Native.Nat.{ℕ, zero, suc, ◌+◌, ◌*◌, ◌/◌, ◌≤◌, ◌<◌}
use Rattle.std.specs.Prelude.{◌≡◌, List, [], ◌∷◌}
use Rattle.std.proofs.Math.Path.{refl, ap}
use Rattle.std.proofs.Common.{◌∙◌, mul-le-mul_right, get_or-append-add}
use Rattle.std.proofs.Math.Logic.{⊎_elim}
use native.Mathlib.Omega.{arith}
use Rattle.std.proofs.Math.ListN.{length, get_or, length-append, get_or-append}
use Rattle.numbers.specs.Lists.{◌∈◌}
use Rattle.numbers.specs.ListLaws.{lt_or_le}
use Rattle.specification.specs.Periods.{Graph, gain, loss, Cycle, LeastStarts, Serves}
use Rattle.rounds.specs.Walks.{edges_of_lem, PositiveCycle}
use Rattle.rounds.specs.Rounds.{Rows, settled}
use Rattle.rounds.specs.Trails.{positive_cycle}
use Rattle.period.specs.Component.{graph_of, Component, most_amount, SmallTried}
use Rattle.rounds.specs.Costs.{count, to_of, gain_of, loss_of, most_cost, Priced, priced}
use Rattle.rounds.specs.Starts.{starts, start_of}
use Rattle.rounds.specs.StartsLaws.{starts_rows}
use Rattle.rounds.specs.Back.{Enclosed}
use Rattle.period.specs.Prices.{prices_to, prices_of}
use Rattle.period.specs.Alike.{SameEdge, Alike, alike_cycle, alike_rows}

-- what an edge gains or loses at a/b
pub cost_most : {e d a b : ℕ} → e ≤ most_amount → d ≤ most_amount → SmallTried a b → e * b + d * a ≤ most_cost
cost_most {a = a} {b = b} h k s = omega (arith, s.sum, mul-le-mul_right b h, mul-le-mul_right a k)

module _ (edges : List ℕ) (a b : ℕ) where
  -- from, to, gain and loss of edge k
  abbrev four_of : ℕ → List ℕ
  four_of k =
      get_or edges (6 * k) 0
      ∷ get_or edges (6 * k + 1) 0
      ∷ (get_or edges (6 * k + 2) 0 * b + get_or edges (6 * k + 4) 0 * a)
      ∷ (get_or edges (6 * k + 3) 0 * b + get_or edges (6 * k + 5) 0 * a)
      ∷ []

  prices_length : (n : ℕ) → length (prices_to edges a b n) ≡ 4 * n
  unfolding prices_to
  prices_length zero = refl
  prices_length (suc n) = length-append (prices_to edges a b n) (four_of n) ∙ omega (arith, prices_length n)

  pub prices_count : count (prices_of edges a b) ≡ length edges / 6
  prices_count = omega (arith, prices_length (length edges / 6))

  prices_at : (n k i : ℕ) → k < n → i < 4 → get_or (prices_to edges a b n) (4 * k + i) 0 ≡ get_or (four_of k) i 0
  unfolding prices_to
  prices_at zero k i l m = absurd (omega arith)
  prices_at (suc n) k i l m = ⊎_elim
      (λ (h : k < n). get_or-append (prices_to edges a b n) (four_of n) 0 (4 * k + i) (omega (arith, prices_length n)) ∙ prices_at n k i h m)
      (λ (h : n ≤ k).
      let e : n ≡ k = omega arith in
      let at : 4 * k + i ≡ length (prices_to edges a b n) + i = omega (arith, prices_length n) in
      rw at (get_or-append-add (prices_to edges a b n) (four_of n) i 0 ∙ ap (λ (j : ℕ). get_or (four_of j) i 0) e))
      (lt_or_le k n)

pub cycle_edges : {g : Graph} {path : List ℕ} → Cycle g path → (k : ℕ) → k ∈ path → g.IsEdge k
cycle_edges c k m = edges_of_lem c.closed k m

module _ (ports limits edges : List ℕ) (a b : ℕ) where
  -- edge k of the prices is edge k of the component at a/b
  abbrev pub PriceAt : ℕ → Type 0
  PriceAt k =
      let g = graph_of ports limits edges in
      let cs = prices_of edges a b in
      SameEdge (priced cs) g (gain_of cs) (loss_of cs) (gain g a b) (loss g a b) k

  pub price_at : {k : ℕ} → k < length edges / 6 → PriceAt k
  price_at {k} l =
      let n = length edges / 6 in
      let e : 4 * k + 0 ≡ 4 * k = omega arith in
      record {
        from = rw e at (prices_at edges a b n k 0 l (omega arith));
        to = prices_at edges a b n k 1 l (omega arith);
        gain = prices_at edges a b n k 2 l (omega arith);
        loss = prices_at edges a b n k 3 l (omega arith);
      }

  pub prices_alike :
      Alike
      (priced (prices_of edges a b))
      (graph_of ports limits edges)
      (gain_of (prices_of edges a b))
      (loss_of (prices_of edges a b))
      (gain (graph_of ports limits edges) a b)
      (loss (graph_of ports limits edges) a b)
  prices_alike =
      let c = prices_count edges a b in
      record { edge = λ k l. omega arith; back = λ k l. omega arith; same = λ k l. price_at (omega arith) }

  pub prices_cycle : {path : List ℕ} → PositiveCycle (priced (prices_of edges a b)) (gain_of (prices_of edges a b)) (loss_of (prices_of edges a b)) path
      → PositiveCycle (graph_of ports limits edges) (gain (graph_of ports limits edges) a b) (loss (graph_of ports limits edges) a b) path
  prices_cycle p = alike_cycle prices_alike p

module _ {ports limits edges : List ℕ} (component : Component ports limits edges) where
  -- every edge comes to a port below 64
  prices_to_lem : (a b k : ℕ) → k < count (prices_of edges a b) → to_of (prices_of edges a b) k < 64
  prices_to_lem a b k l =
      let alike = prices_alike ports limits edges a b in
      rw (alike.same k l).to (component.low_ports _ (component.among.to_in k (alike.edge k l)))

  module _ {a b : ℕ} where
    pub prices_small : SmallTried a b → Priced (prices_of edges a b)
    prices_small h =
        let alike = prices_alike ports limits edges a b in
        record {
          from_in = λ k l. rw (alike.same k l).from (component.low_ports _ (component.among.from_in k (alike.edge k l)));
          to_in = prices_to_lem a b;
          gains = λ k l.
              let m = alike.edge k l in
              omega (arith, (alike.same k l).gain, cost_most (component.small_edges.ticks_forward_lem k m) (component.small_edges.events_forward k m) h);
          losses = λ k l.
              let m = alike.edge k l in
              omega (arith, (alike.same k l).loss, cost_most (component.small_edges.ticks_back_lem k m) (component.small_edges.events_back k m) h);
        }

  module _ (a b : ℕ) where
    pub prices_enclosed : Enclosed (prices_of edges a b) (length ports)
    prices_enclosed =
        let alike = prices_alike ports limits edges a b in
        record {
          ports = ports;
          few = omega arith;
          among = record {
            from_in = λ k l. rw (alike.same k l).from (component.among.from_in k (alike.edge k l));
            to_in = λ k l. rw (alike.same k l).to (component.among.to_in k (alike.edge k l));
          };
        }

    rows_of : (last : ℕ) → Rows (graph_of ports limits edges) (gain (graph_of ports limits edges) a b) (loss (graph_of ports limits edges) a b) last (start_of (prices_of edges a b))
    rows_of last = alike_rows (prices_alike ports limits edges a b) (starts_rows (prices_of edges a b) (prices_to_lem a b) last)

    -- starts that a round does not change are the least
    pub prices_settled : (r : ℕ) → starts (prices_of edges a b) (suc r) ≡ starts (prices_of edges a b) r
        → LeastStarts (graph_of ports limits edges) a b (start_of (prices_of edges a b) r)
    prices_settled r e = settled (rows_of (suc r)) {r = r} (omega arith) (λ j. ap (λ (s : List ℕ). get_or s j 0) e)

    -- where a/b serves, no round behind as many as there are ports changes a start: it would have gone round a positive cycle
    pub serves_starts : Serves (graph_of ports limits edges) a b → LeastStarts (graph_of ports limits edges) a b (start_of (prices_of edges a b) (length ports))
    serves_starts s =
        let n = length ports in
        let cs = prices_of edges a b in
        settled (rows_of (suc n)) {r = n} (omega arith) (λ j. ⊎_elim
        (λ (grows : start_of cs n j < start_of cs (suc n) j).
        let (c, k) = positive_cycle (rows_of (suc n)) component.among {r = n} {j = j} (omega arith) (omega arith) grows in
        absurd (omega (arith, k.positive, s.cycles k.cycle.at c k.cycle.closed)))
        (λ (h : start_of cs (suc n) j ≤ start_of cs n j). omega (arith, ((rows_of (suc n)).next n (omega arith)).grows j))
        (lt_or_le (start_of cs n j) (start_of cs (suc n) j)))
