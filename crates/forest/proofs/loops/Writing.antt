-- The climb with the numbers of its steps: at the start, one turn from either end, and what each turn asks.
use Prim.Native.Nat.{ℕ, ◌+◌, ◌-◌, ◌≤◌, ◌<◌}
use mathlib.Core.Path.{◌≡◌, refl, ◌∙◌}
use mathlib.Core.Bool.{Bool, true, false, not}
use mathlib.Core.Logic.{◌≢◌}
use mathlib.Core.List.{List, [], ◌∷◌, ◌++◌}
use native.Mathlib.Omega.{arith}
use lib.ListN.{length, get_or, length-append}
use Rattle.specification.specs.Table.{Table, from, to}
use Rattle.forest.specs.Loop.{Closing}
use Rattle.forest.specs.StepNumbers.{direction, step_of, Put, none}
use Rattle.forest.specs.Climb.{Parent, Climbing}
use Rattle.forest.proofs.loops.Standing.{stands_append, stands_one, stands_before, stands_behind}
use Rattle.forest.proofs.loops.Starting.{climb_none}
use Rattle.forest.proofs.loops.Turns.{climb_up, climb_down}

-- the climb, in numbers as long as they were where the loop starts
pub record Turn (t : Table) (labels reach via : List ℕ) (k : ℕ) (start numbers down : List ℕ) (next first a b : ℕ) : Type 0 where
  pub climbing : Climbing t labels reach via k numbers down next first a b
  pub same_length : length numbers ≡ length start

module _ {t : Table} {labels reach via : List ℕ} {k : ℕ} {numbers₀ : List ℕ} (closing : Closing t labels reach via k numbers₀) where
  pub turn_none : {numbers down : List ℕ} → length down ≡ 128 → Put numbers₀ numbers 0 k 0
      → Turn t labels reach via k numbers numbers down 2 128 (to t k) (from t k)
  turn_none long put = record {
    climbing = record {
      up = [];
      under = [];
      climb = climb_none closing;
      up_stands = stands_one put (omega arith);
      down_stands = none;
      next_is = omega arith;
      first_is = omega arith;
      room = omega (arith, closing.room, put.same_length);
      long = long;
    };
    same_length = refl;
  }

  module _ {start numbers down : List ℕ} {next first a b : ℕ} (turn : Turn t labels reach via k start numbers down next first a b) where
    -- ---- from a
    module _ (later : get_or reach b 0 < get_or reach a 0) where
      pub turn_up : {numbers' : List ℕ} {link d parent : ℕ}
          → Parent t labels reach via a link d parent
          → Put numbers numbers' next link d
          → Turn t labels reach via k start numbers' down (next + 2) first parent b
      turn_up {link = link} {d = d} step put =
          let s = turn.climbing in
          let long = length-append s.up (step_of link d ∷ []) in
          record {
            climbing = record {
              up = s.up ++ step_of link d ∷ [];
              under = s.under;
              climb = climb_up closing s.climb later step;
              up_stands =
                  stands_append (omega (arith, s.next_is)) (stands_before put (omega (arith, s.next_is)) s.up_stands)
                  (stands_one put step.direction);
              down_stands = s.down_stands;
              next_is = omega (arith, s.next_is);
              first_is = s.first_is;
              room = omega (arith, s.room, put.same_length);
              long = s.long;
            };
            same_length = put.same_length ∙ turn.same_length;
          }

    -- ---- from b
    module _ (apart : a ≢ b) (no_later : get_or reach a 0 ≤ get_or reach b 0) where
      later_down : get_or reach a 0 < get_or reach b 0
      later_down =
          let c = turn.climbing.climb in
          let differ : get_or reach a 0 ≢ get_or reach b 0 = λ e. apart (closing.forest.order a b c.a_port c.b_port e) in
          omega arith

      down_room : 2 ≤ first
      down_room = let s = turn.climbing in omega (arith, s.first_is, s.climb.few_b, later_down)

      turn_down : {down' : List ℕ} {link d parent : ℕ}
          → Parent t labels reach via b link d parent
          → Put down down' (first - 2) link (1 - d)
          → Turn t labels reach via k start numbers down' next (first - 2) a parent
      turn_down {link = link} {d = d} step put =
          let s = turn.climbing in
          record {
            climbing = record {
              up = s.up;
              under = step_of link (1 - d) ∷ s.under;
              climb = climb_down closing s.climb later_down step;
              up_stands = s.up_stands;
              down_stands =
                  stands_append (omega (arith, down_room)) (stands_one put (omega arith))
                  (stands_behind put (omega (arith, down_room)) s.down_stands);
              next_is = s.next_is;
              first_is = omega (arith, s.first_is, down_room);
              room = s.room;
              long = put.same_length ∙ s.long;
            };
            same_length = turn.same_length;
          }

      pub turn_back : {down' : List ℕ} {link parent : ℕ} (against : Bool)
          → Parent t labels reach via b link (direction against) parent
          → Put down down' (first - 2) link (direction (not against))
          → Turn t labels reach via k start numbers down' next (first - 2) a parent
      turn_back true step put = turn_down step put
      turn_back false step put = turn_down step put
