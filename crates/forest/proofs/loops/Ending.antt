-- The steps up and, copied behind them, the steps down are the loop.
use Prim.Native.Nat.{ℕ, suc, ◌+◌, ◌*◌, ◌-◌, ◌/◌, ◌<◌}
use mathlib.Core.Path.{◌≡◌}
use mathlib.Core.List.{List, ◌∷◌, ◌++◌}
use native.Mathlib.Omega.{arith}
use lib.ListN.{length, length-append, take, drop}
use Rattle.specification.specs.Table.{Table}
use Rattle.specification.specs.Ratios.{Step}
use Rattle.ways.specs.WayLaws.{join}
use Rattle.forest.specs.Loop.{Closing, Closed, steps_from}
use Rattle.forest.specs.StepNumbers.{Stands}
use Rattle.forest.proofs.loops.Copying.{Copied, copied_part}
use Rattle.forest.specs.Climb.{along, Climb, Met}
use Rattle.forest.proofs.loops.Standing.{stands_moved, stands_append, stands_steps, stands_direction}

module _ {t : Table} {labels reach via : List ℕ} {k : ℕ} {numbers₀ : List ℕ} (closing : Closing t labels reach via k numbers₀) where
  loop_few : {a : ℕ} {up down : List Step} → Climb t labels reach via k a a up down → length up + length down < 64
  loop_few {a} c = omega (arith, c.few_a, closing.forest.some a c.a_port)

  loop_closed : {a n : ℕ} {up down : List Step} {numbers : List ℕ} → Climb t labels reach via k a a up down
      → Stands numbers 0 (along k ∷ (up ++ down))
      → n ≡ suc (length up + length down)
      → Closed t labels via k numbers n
  loop_closed {a} {n} {up} {down} {numbers} c w e =
      let long : n ≡ length (along k ∷ (up ++ down)) = omega (arith, length-append up down) in
      let steps : steps_from numbers 0 n ≡ along k ∷ (up ++ down) = rw long (stands_steps w) in
      record {
        rest = up ++ down;
        steps = steps;
        few = omega (arith, loop_few c);
        way = rw steps (join c.there c.back);
        ports = rw steps c.ports;
        links = rw steps c.links;
        over_forest = λ s m. let o = c.over_forest s m in (o.port, o.a_port, o.not_lowest, o.over);
        directions = λ i h. stands_direction w i (2 * i + 1) (omega arith) (omega arith);
      }

  module _ {numbers down : List ℕ} {next first : ℕ} (met : Met t labels reach via k numbers down next first) where
    pub met_closed : {part : List ℕ} (rest : List ℕ) → part ≡ take (128 - first) (drop first down)
        → Closed t labels via k (take next numbers ++ (part ++ rest)) ((next + (128 - first)) / 2)
    met_closed {part = part} rest e =
        let s = met.climbing in
        let few = loop_few s.climb in
        let copied : Copied down numbers (take next numbers ++ (part ++ rest)) first next = copied_part down numbers rest e s.long (omega (arith, s.next_is, s.room)) in
        loop_closed s.climb
        (stands_append (omega (arith, s.next_is))
        (stands_moved
        (λ p q l u m. let e : q ≡ p = omega arith in rw e (copied.before p (omega (arith, s.next_is))))
        s.up_stands)
        (stands_moved (λ p q l u m. copied.copied p q l (omega (arith, s.first_is)) m) s.down_stands))
        (omega (arith, s.first_is, s.next_is))
