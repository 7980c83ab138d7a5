-- What holds of a graph holds of the graph with its edges numbered anew.
use Rattle.std.specs.Prelude.{ℕ, ◌+◌, ◌≤◌, ◌≡◌, refl, List, [], ◌∷◌, map}
use Rattle.std.proofs.Common.{ap, ◌∙◌, inl, inr, ⊎_elim, arith}
use mathlib.Core.List.Memᴰ.{head as here}
use mathlib.Core.List.Memᴰ.{tail as there}
use Rattle.numbers.specs.Lists.{◌∈◌, sum}
use Rattle.specification.specs.Periods.{Graph, Walk, stop, step, gain, loss, Meets, LeastStarts, Cycle, Serves, RateLimit, CycleLimit, Blocks, ZeroFloor, BlocksAboveZero, Period, Possible, NoLeast}
use Rattle.rounds.specs.Walks.{edges_of_lem}
use Rattle.graph.specs.Numbered.{Numbered}

module _ (f : ℕ → ℕ) (x y : ℕ → ℕ) where
  sum_map : (path : List ℕ) → ((i : ℕ) → i ∈ path → x i ≡ y (f i)) → sum x path ≡ sum y (map f path)
  sum_map [] e = refl
  sum_map (i ∷ path) e = omega (arith, e i (here refl), sum_map path (λ j m. e j (there m)))

  map_map : (path : List ℕ) → ((i : ℕ) → i ∈ path → x i ≡ y (f i)) → map x path ≡ map y (map f path)
  map_map [] e = refl
  map_map (i ∷ path) e = rw (e i (here refl), map_map path (λ j m. e j (there m)))

step_at_lem : {g : Graph} {p q r : ℕ} {path : List ℕ} (i : ℕ) → g.IsEdge i → g.from i ≡ p → g.to i ≡ r → Walk g r q path → Walk g p q (i ∷ path)
step_at_lem i m from to w = rw (← from) (step i m (rw (← to) at w))

module _ {g h : Graph} {f : ℕ → ℕ} (n : Numbered g h f) where
  -- ---- walks
  numbered_walk : {p q : ℕ} {path : List ℕ} → Walk g p q path → Walk h p q (map f path)
  numbered_walk stop = stop
  numbered_walk (step i m w) = rw (n.from i m) (step (f i) (n.edge i m) (rw (n.to i m) at (numbered_walk w)))

  -- every walk of h is one of g
  old_walk : {p q : ℕ} {path : List ℕ} → Walk h p q path → (old : List ℕ) × Walk g p q old × (map f old ≡ path)
  old_walk stop = ([], stop, refl)
  old_walk (step k m w) =
      let (i, edge, e) = n.onto k m in
      let (old, v, s) = old_walk w in
      (i ∷ old, step_at_lem i edge (n.from i edge ∙ ap h.from e) (n.to i edge ∙ ap h.to e) v, rw (e, s))

  module _ {p q : ℕ} {path : List ℕ} (w : Walk g p q path) where
    sum_of : (x y : ℕ → ℕ) → ((i : ℕ) → g.IsEdge i → x i ≡ y (f i)) → sum x path ≡ sum y (map f path)
    sum_of x y e = sum_map f x y path (λ i m. e i (edges_of_lem w i m))

    events_forward_sum : sum g.D⁺ path ≡ sum h.D⁺ (map f path)
    events_forward_sum = sum_of g.D⁺ h.D⁺ n.events_forward

    events_back_sum : sum g.D⁻ path ≡ sum h.D⁻ (map f path)
    events_back_sum = sum_of g.D⁻ h.D⁻ n.events_back

    module _ (a b : ℕ) where
      gain_sum : sum (gain g a b) path ≡ sum (gain h a b) (map f path)
      gain_sum = sum_of (gain g a b) (gain h a b) (λ i m. rw (n.ticks_forward_lem i m, n.events_forward i m))

      loss_sum : sum (loss g a b) path ≡ sum (loss h a b) (map f path)
      loss_sum = sum_of (loss g a b) (loss h a b) (λ i m. rw (n.ticks_back_lem i m, n.events_back i m))

  numbered_cycle : {path : List ℕ} → Cycle g path → Cycle h (map f path)
  numbered_cycle {path} c = record {
    at = c.at;
    closed = numbered_walk c.closed;
    simple = rw (map_map f g.to h.to path (λ i m. n.to i (edges_of_lem c.closed i m))) at c.simple;
  }

  -- ---- limits, periods and starts
  module _ {a b : ℕ} where
    old_serves : Serves h a b → Serves g a b
    old_serves s = record {
      rates = λ p i. let m = n.port p i in rw (n.limit_num_lem p m, n.limit_den_lem p m) (s.rates p m);
      cycles = λ p path w. omega (arith, s.cycles p (map f path) (numbered_walk w), gain_sum w a b, loss_sum w a b);
    }

    numbered_serves : Serves g a b → Serves h a b
    numbered_serves s = record {
      rates = λ p m. rw (← n.limit_num_lem p m, ← n.limit_den_lem p m) (s.rates p (n.port_back p m));
      cycles = λ p path w.
          let (old, v, e) = old_walk w in
          rw (← e) (omega (arith, s.cycles p old v, gain_sum v a b, loss_sum v a b));
    }

    pub numbered_rate : {p : ℕ} → RateLimit g p a b → RateLimit h p a b
    numbered_rate {p} l =
        let m = n.port p l.a_port in
        record { a_port = m; rated = rw (← n.limit_den_lem p m) l.rated; exact = rw (← n.limit_num_lem p m, ← n.limit_den_lem p m) l.exact }

    pub numbered_limit : {path : List ℕ} → CycleLimit g path a b → CycleLimit h (map f path) a b
    numbered_limit l =
        let w = l.cycle.closed in
        record {
          cycle = numbered_cycle l.cycle;
          falling = omega (arith, l.falling, events_forward_sum w, events_back_sum w);
          exact = omega (arith, l.exact, gain_sum w a b, loss_sum w a b);
        }

    pub numbered_blocks : {path : List ℕ} → Blocks g path a b → Blocks h (map f path) a b
    numbered_blocks k =
        let w = k.cycle.closed in
        record {
          cycle = numbered_cycle k.cycle;
          rising = omega (arith, k.rising, events_forward_sum w, events_back_sum w);
          positive = omega (arith, k.positive, gain_sum w a b, loss_sum w a b);
        }

    pub numbered_period : Period g a b → Period h a b
    numbered_period t = record {
      above_zero = t.above_zero;
      over = t.over;
      lowest = t.lowest;
      serves = numbered_serves t.serves;
      limit = ⊎_elim
          (λ (l : (p : ℕ) × RateLimit g p a b). inl (l.0, numbered_rate l.1))
          (λ (l : (path : List ℕ) × CycleLimit g path a b). inr (map f l.0, numbered_limit l.1))
          t.limit;
    }

    numbered_meets : {S : ℕ → ℕ} → Meets g a b S → Meets h a b S
    numbered_meets {S} s = record { holds = λ k m. let (i, edge, e) = n.onto k m in rw e at (old_holds i edge) }
      where
        old_holds : (i : ℕ) → g.IsEdge i → S (h.from (f i)) + gain h a b (f i) ≤ S (h.to (f i)) + loss h a b (f i)
        old_holds i m =
            rw (← n.from i m, ← n.to i m, ← n.ticks_forward_lem i m, ← n.ticks_back_lem i m, ← n.events_forward i m, ← n.events_back i m) (s.holds i m)

    old_meets : {S : ℕ → ℕ} → Meets h a b S → Meets g a b S
    old_meets {S} s = record {
      holds = λ i m.
          rw (n.from i m, n.to i m, n.ticks_forward_lem i m, n.ticks_back_lem i m, n.events_forward i m, n.events_back i m) (s.holds (f i) (n.edge i m));
    }

    pub numbered_starts : {S : ℕ → ℕ} → LeastStarts g a b S → LeastStarts h a b S
    numbered_starts s = record {
      meets = numbered_meets s.meets;
      least = λ T m p i. s.least T (old_meets m) p (n.port_back p i);
    }

    pub numbered_possible : Possible g a b → Possible h a b
    numbered_possible k = record {
      above_zero = k.above_zero;
      over = k.over;
      rates = λ p m. rw (← n.limit_num_lem p m, ← n.limit_den_lem p m) (k.rates p (n.port_back p m));
      start = k.start;
      meets = numbered_meets k.meets;
    }

  pub numbered_no_least : NoLeast g → NoLeast h
  numbered_no_least k = record {
    some = record { a = k.some.a; b = k.some.b; possible = numbered_possible k.some.possible };
    smaller = λ a b some over s.
        let less = k.smaller a b some over (old_serves s) in
        record { x = less.x; y = less.y; possible = numbered_possible less.possible; less = less.less };
  }

  -- ---- the floor zero
  pub numbered_zero : ZeroFloor g → ZeroFloor h
  numbered_zero z = record { unrated = λ p m. rw (← n.limit_den_lem p m) (z.unrated p (n.port_back p m)) }

  pub numbered_above_zero : {path : List ℕ} → BlocksAboveZero g path → BlocksAboveZero h (map f path)
  numbered_above_zero k =
      let w = k.cycle.closed in
      record {
        cycle = numbered_cycle k.cycle;
        rising = omega (arith, k.rising, events_forward_sum w, events_back_sum w);
        positive = λ a b some over. omega (arith, k.positive a b some over, gain_sum w a b, loss_sum w a b);
      }
