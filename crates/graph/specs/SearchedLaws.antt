-- What a search over the slices of a component says of the table's own graph.
use Rattle.std.specs.Prelude.{ℕ, ◌<◌, ◌≡◌, refl, List, [], map, length, get_or, Some, None}
use Rattle.std.proofs.Common.{arith}
use Rattle.numbers.specs.Lists.{◌∈◌}
use Rattle.specification.specs.Periods.{Graph, NoLeast, graph_in}
use Rattle.specification.specs.Periods.{Cycle as Path}
use Rattle.specification.specs.Table.{Table}
use Rattle.period.specs.Component.{graph_of}
use Rattle.period.specs.Edges.{limits_of, edges_of}
use Rattle.period.specs.EdgesLaws.{edges_length}
use Rattle.period.specs.Greatest.{GreatestLimit}
use Rattle.period.specs.Idle.{idle_period, idle_starts, idle_no_least, limit_small}
use Rattle.period.specs.PricesLaws.{cycle_edges}
use Rattle.period.specs.Search.{cycle_of, floor_in, SearchResult}
use Rattle.period.specs.declared.limit.Limit.{Limit}
use Rattle.period.specs.declared.cycle.Cycle.{Cycle}
use Rattle.period.specs.declared.search.Floor.{Floor as Found}
use Rattle.period.specs.declared.search.Floor.TheVariants.{Rate, Lower, Zero}
use Rattle.period.specs.declared.search.SearchEnd.{SearchEnd}
use Rattle.period.specs.declared.search.SearchEnd.TheVariants.{Least, NoLeast as EndsWithout, Blocked as EndsBlocked}
use Rattle.specification.specs.Answers.{Floor, rate, cycle, zero_floor, BlockedFrom, Blocked}
use Rattle.specification.specs.Ratios.{IsComponent}
use Rattle.graph.specs.Numbered.{Numbered}
use Rattle.graph.specs.NumberedLaws.{numbered_rate, numbered_limit, numbered_blocks, numbered_period, numbered_starts, numbered_no_least, numbered_zero, numbered_above_zero}
use Rattle.graph.specs.Arranged.{Labelled, SlicesIn}
use Rattle.graph.specs.SliceLaws.{edge_count, slices_numbered, slices_component}
use Rattle.graph.specs.Searched.{floor_of, PeriodIn, Searched}

-- the block is a cycle, whatever the floor
blocked_cycle : {g : Graph} {block : List ℕ} (floor : Floor) → Blocked g floor block → Path g block
blocked_cycle (rate p) b = b.blocks.cycle
blocked_cycle (cycle path) b = b.blocks.cycle
blocked_cycle zero_floor b = b.blocks.cycle

module _ {g h : Graph} (numbers : List ℕ) (n : Numbered g h (λ i. get_or numbers i 0)) (block : List ℕ) where
  -- a limit of g is one of h, and the block is one there
  blocked_from : {L M : ℕ → ℕ → Type 0} → ((a b : ℕ) → L a b → M a b) → BlockedFrom g L block → BlockedFrom h M (map (λ i. get_or numbers i 0) block)
  blocked_from limit k = record {
    a = k.a;
    b = k.b;
    above_zero = k.above_zero;
    over = k.over;
    is_limit = limit k.a k.b k.is_limit;
    blocks = numbered_blocks n k.blocks;
  }

  numbered_blocked : (x : Found) → Blocked g (floor_in x) block → Blocked h (floor_of numbers x) (map (λ i. get_or numbers i 0) block)
  numbered_blocked (Rate p) k = blocked_from (λ a b l. numbered_rate n l) k
  numbered_blocked (Lower c) k = blocked_from (λ a b l. numbered_limit n l) k
  numbered_blocked Zero k = record { is_zero = numbered_zero n k.is_zero; blocks = numbered_above_zero n k.blocks }

limit_edges : (g : Graph) (block : List ℕ) (c : Cycle) (x : Found) → Blocked g (floor_in x) block → x ≡ Lower c → (i : ℕ) → i ∈ cycle_of c → g.IsEdge i
limit_edges g block c x k e = let at : Blocked g (cycle (cycle_of c)) block = rw e at k in cycle_edges at.is_limit.cycle

translated : (t : Table) (weights ports limits edges numbers work : List ℕ) {c : ℕ} (r : SearchEnd)
    → Numbered (graph_of ports limits edges) (graph_in t (λ p. get_or weights p 0) c) (λ i. get_or numbers i 0)
    → ((i : ℕ) → (graph_of ports limits edges).IsEdge i → i < length numbers)
    → SearchResult ports limits edges work r
    → Searched t weights c numbers work r
translated t weights ports limits edges numbers work (Least period floor rounds) n inside found = record {
  period = numbered_period n found.period;
  least = numbered_starts n found.least;
  small = found.small;
  small_starts = λ p i. found.small_starts p;
}
translated t weights ports limits edges numbers work (EndsWithout rounds) n inside found = numbered_no_least n found.no_least_lem
translated t weights ports limits edges numbers work (EndsBlocked floor block rounds) n inside found = record {
  is_blocked = numbered_blocked numbers n (cycle_of block) floor found.is_blocked;
  limit_steps = λ limit lower i m. inside i (limit_edges (graph_of ports limits edges) (cycle_of block) limit floor found.is_blocked lower i m);
  block_steps = λ i m. inside i (cycle_edges (blocked_cycle (floor_in floor) found.is_blocked) i m);
}

module _ {t : Table} {labels weights members numbers : List ℕ} {c : ℕ} (l : Labelled t labels weights) (s : SlicesIn t labels c members numbers)
    (i : IsComponent t c) where
  pub slices_searched : (work : List ℕ) (r : SearchEnd) → SearchResult members (limits_of t.ports weights) (edges_of t.links weights numbers) work r
      → Searched t weights c numbers work r
  slices_searched work r e =
      translated t weights members (limits_of t.ports weights) (edges_of t.links weights numbers) numbers work r (slices_numbered l s i)
      (λ k m. omega (arith, edge_count l s i)) e

  -- without connections the period is the greatest limit, and the ports start at 0
  pub slices_idle : {r : Limit} → GreatestLimit members (limits_of t.ports weights) (Some r) → length numbers ≡ 0 → PeriodIn t weights c r.value []
  slices_idle g none =
      let k = slices_component l s i in
      let no_edge : length (edges_of t.links weights numbers) ≡ 0 = omega (arith, edges_length t.links weights numbers) in
      record {
        period = numbered_period (slices_numbered l s i) (idle_period k no_edge g);
        least = numbered_starts (slices_numbered l s i) (idle_starts k no_edge (λ p m. refl));
        small = limit_small g;
        small_starts = λ p m. omega arith;
      }

  -- without a rate too there is no least
  pub slices_no_least : GreatestLimit members (limits_of t.ports weights) None → length numbers ≡ 0 → NoLeast (graph_in t (λ p. get_or weights p 0) c)
  slices_no_least g none =
      numbered_no_least (slices_numbered l s i)
      (idle_no_least (slices_component l s i) (omega (arith, edges_length t.links weights numbers)) g)
