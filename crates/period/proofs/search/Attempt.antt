-- From a request to try one a/b to what the rounds and the walk back ask, and from what they say to the result.
use Prim.Native.Nat.{ℕ, ◌+◌, ◌-◌, ◌*◌, ◌≤◌}
use mathlib.Core.Path.{◌≡◌, ap, sym, ◌∙◌}
use mathlib.Core.List.{List, ◌++◌}
use native.Mathlib.Omega.{arith}
use lib.ListN.{length, take, drop, length-append, length-take, length-drop}
use lib.Seq.{length-take-le, drop_at, take-append-le}
use Rattle.rounds.specs.Starts.{Fitting, Moving, costs_in}
use Rattle.rounds.specs.Back.{EveryRoundRaises}
use Rattle.period.specs.Prices.{Pricing, PricesMade, prices_of}
use Rattle.period.specs.Try.{Trying}

-- the part of a buffer behind row n
abbrev behind : (work : List ℕ) (n : ℕ) → List ℕ
behind work n = take (length work - (64 * n + 64)) (drop (64 * n + 64) work)

-- the buffer with this part replaced
abbrev with_behind : (work : List ℕ) (n : ℕ) (costs : List ℕ) → List ℕ
with_behind work n costs = take (64 * n + 64) work ++ (costs ++ drop (length work - (64 * n + 64)) (drop (64 * n + 64) work))

-- the costs as a part from one place to another
costs_part : (work : List ℕ) (n m : ℕ) → take (64 * n + 64 + 4 * m - (64 * n + 64)) (drop (64 * n + 64) work) ≡ costs_in work n m
costs_part work n m = let e : 64 * n + 64 + 4 * m - (64 * n + 64) ≡ 4 * m = omega arith in rw e

module _ {edges : List ℕ} {m a b n : ℕ} {work : List ℕ} (y : Trying edges m a b n work) where
  long : length (behind work n) ≡ length work - (64 * n + 64)
  long = simp (length-take, length-drop) (omega arith)

  pub tried_pricing : Pricing edges a b (behind work n)
  tried_pricing = record {
    small = y.small_edges;
    room = omega (arith, y.counted, y.work_room, long);
    small_period = y.small_period;
  }

  module _ {costs : List ℕ} (p : PricesMade edges a b (behind work n) costs) where
    pub tried_length : length (with_behind work n costs) ≡ length work
    tried_length = simp (length-append, length-take, length-drop) (omega (arith, y.work_room, long, p.same_length))

    made : costs_in (with_behind work n costs) n m ≡ prices_of edges a b
    made =
        let rest = drop (length work - (64 * n + 64)) (drop (64 * n + 64) work) in
        ap (take (4 * m)) (drop_at (take (64 * n + 64) work) (costs ++ rest) (64 * n + 64) (length-take-le (64 * n + 64) work (omega (arith, y.work_room))))
        ∙ take-append-le (4 * m) costs rest (omega (arith, y.work_room, long, p.same_length))
        ∙ ap (λ (k : ℕ). take (4 * k) costs) (sym y.counted)
        ∙ p.made

    pub tried_fitting : Fitting (costs_in (with_behind work n costs) n m) (with_behind work n costs) n
    tried_fitting = rw made (record { edges = y.priced; some = y.some; few = y.few; room = omega (arith, y.work_room, tried_length) })

    -- each round changed something, and the costs are as they were
    module _ {work' : List ℕ} {port : ℕ} (moving : Moving (costs_in (with_behind work n costs) n m) work' n port)
        (kept : costs_in work' n m ≡ costs_in (with_behind work n costs) n m) where
      priced : take (64 * n + 64 + 4 * m - (64 * n + 64)) (drop (64 * n + 64) work') ≡ prices_of edges a b
      priced = costs_part work' n m ∙ kept ∙ made

      pub tried_restless : {steps : List ℕ} → 64 ≤ length steps → length work' ≡ length (with_behind work n costs)
          → EveryRoundRaises (take (64 * n + 64 + 4 * m - (64 * n + 64)) (drop (64 * n + 64) work')) work' n port steps
      tried_restless room same =
          let fitting : Fitting (prices_of edges a b) work' n = record { edges = y.priced; some = y.some; few = y.few; room = omega (arith, y.work_room, same, tried_length) } in
          rw priced (record { fitting = fitting; moving = rw made at moving; enclosed = y.enclosed; room = room })
