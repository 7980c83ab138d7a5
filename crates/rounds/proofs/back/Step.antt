-- One step of the walk back, along a tight edge.
use Prim.Native.Nat.{ℕ, suc, ◌-◌, ◌<◌}
use mathlib.Core.Path.{◌≡◌, ap, ◌∙◌}
use mathlib.Core.List.{List, ◌∷◌}
use Rattle.std.specs.Prelude.{Option}
use native.Mathlib.Omega.{arith}
use lib.ListN.{length, set, take, drop, length-set}
use lib.Seq.{drop-cons, get_or-set_same, drop-set-lt}
use Rattle.numbers.specs.Lists.{more}
use Rattle.rounds.specs.Trails.{trail_back, trail_grows}
use Rattle.rounds.specs.Costs.{from_of}
use Rattle.rounds.specs.Starts.{start_of}
use Rattle.rounds.specs.StartsLaws.{starts_rows}
use Rattle.rounds.specs.Tight.{TightEdge, SomeTight}
use Rattle.rounds.specs.Back.{EveryRoundRaises}
use Rattle.rounds.proofs.back.Stored.{Tight, tight_stored, tight_behind}
use Rattle.rounds.proofs.back.Course.{Arrived, Course}

-- the steps from u on, once step u is set
steps_more : (steps : List ℕ) (u n k : ℕ) → u < n → u < length steps → take (n - u) (drop u (set steps u k)) ≡ k ∷ take (n - suc u) (drop (suc u) steps)
steps_more steps u n k b l =
    let e : n - u ≡ suc (n - suc u) = omega arith in
    rw (e, drop-cons (set steps u k) u 0 (rw length-set l), get_or-set_same steps u k 0 l, drop-set-lt (suc u) steps u k (omega arith))

module _ {cs rows : List ℕ} {n port : ℕ} {steps₀ : List ℕ} (s : EveryRoundRaises cs rows n port steps₀) {steps : List ℕ} {met : List (Option ℕ)} {p r : ℕ} (c : Course cs n port steps₀ steps met p r) where
  module _ {u : ℕ} (e : r ≡ suc u) where
    before : u < n
    before = omega (arith, c.traced.within)

    grows : start_of cs u p < start_of cs (suc u) p
    grows = rw e at (c.traced.grew u e)

    asks : SomeTight cs rows u p
    asks = tight_behind s.moving.kept s.fitting.edges before c.traced.low s.fitting.few s.fitting.room grows

    module _ {k : ℕ} (m : Tight cs u p k) where
      grew : (v : ℕ) → u ≡ suc v → start_of cs v (from_of cs k) < start_of cs u (from_of cs k)
      grew v z =
          rw z (trail_grows (starts_rows cs s.fitting.edges.to_in n) (omega (arith, before)) (rw z at grows) m.is_edge m.into (rw z at m.exact))

      arrives : Arrived cs n port steps₀ (set steps u k) met (from_of cs k) u
      arrives = let t = c.traced in record {
        traced = record {
          within = omega (arith, before);
          low = s.fitting.edges.from_in k m.is_edge;
          long = length-set steps u k ∙ t.long;
          path = k ∷ t.path;
          path_is = steps_more steps u n k before (omega (arith, t.long, before, s.fitting.few, s.room)) ∙ ap (λ (x : List ℕ). k ∷ x) (rw e at t.path_is);
          trail = trail_back (rw e at t.trail) grows m.is_edge m.into m.exact;
          simple = rw m.into (more c.new t.simple);
          grew = grew;
        };
        marks = rw m.into (rw e at c.marks);
      }

  module _ (some : 0 < r) where
    whole : r ≡ suc (r - 1)
    whole = omega arith

    -- what the search for the edge asks
    pub step_asks : SomeTight cs rows (r - 1) p
    step_asks = asks whole

    pub step_back : {k : ℕ} → TightEdge cs rows (r - 1) p k → Arrived cs n port steps₀ (set steps (r - 1) k) met (from_of cs k) (r - 1)
    step_back d = arrives whole (tight_stored s.moving.kept s.fitting.edges (before whole) c.traced.low d)
