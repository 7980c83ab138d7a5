-- The walk back ends at a port that it met before, and never comes to row 0.
use Prim.Native.Nat.{ℕ, suc, ◌-◌, ◌≤◌, ◌<◌}
use mathlib.Core.Path.{◌≡◌}
use mathlib.Core.List.{List}
use Rattle.std.specs.Prelude.{Option, Some, None}
use native.Mathlib.Omega.{arith}
use lib.ListN.{length, get_or, take, drop, length-map}
use lib.Seq.{take-take}
use Rattle.numbers.specs.Lists.{more}
use Rattle.numbers.specs.ListLaws.{position}
use Rattle.specification.specs.Periods.{Graph}
use Rattle.rounds.specs.Walks.{Among}
use Rattle.rounds.specs.Trails.{Trail, rest, climb, trail_cycle, trail_crowded}
use Rattle.rounds.specs.Costs.{to_of}
use Rattle.rounds.specs.StartsLaws.{starts_rows}
use Rattle.rounds.specs.Back.{EveryRoundRaises, FoundCycle}
use Rattle.rounds.proofs.back.Course.{Arrived, Course, length_path}

-- a trail with an edge has a port
some_port_lem : {g : Graph} {f h : ℕ → ℕ} {row : ℕ → ℕ → ℕ} {ports path : List ℕ} {i p l q : ℕ} → Among g ports → Trail g f h row i p l q path → 0 < length path → 0 < length ports
some_port_lem among rest s = absurd (omega arith)
some_port_lem among (climb k m gr t v) s = let (i, b, e) = position (among.to_in k m) in omega arith

module _ {cs rows : List ℕ} {n port : ℕ} {steps₀ : List ℕ} (s : EveryRoundRaises cs rows n port steps₀) {steps : List ℕ} {met : List (Option ℕ)} {p r : ℕ} where
  pub course_found : {i : ℕ} → Arrived cs n port steps₀ steps met p r → get_or met p None ≡ Some i → FoundCycle cs steps (record { first = r; last = i })
  course_found {i} a h =
      let t = a.traced in
      let at = a.marks.placed p i t.low h in
      let e : i - r - 1 ≡ i - suc r = omega arith in
      let top : i ≤ n = omega (arith, at.below, length-map t.path (to_of cs), length_path s t, t.within) in
      let c = trail_cycle (starts_rows cs s.fitting.edges.to_in n) (omega arith) t.trail t.simple (i - r)
      (omega (arith, at.from)) (omega (arith, length_path s t)) (rw e at.there) in
      let same : take (i - r) t.path ≡ take (i - r) (drop r steps) = rw (← t.path_is) (take-take (i - r) (n - r) (drop r steps) (omega arith)) in
      record {
        ordered = omega (arith, at.from);
        short = omega (arith, s.fitting.few);
        within = omega (arith, s.fitting.few, s.room, t.long);
        cycle = rw same at c;
      }

  -- the n + 1 ports from row 0 to row n would differ
  pub course_over : Course cs n port steps₀ steps met p r → r ≤ 0 → ⊥
  course_over c h =
      let t = c.traced in
      let long = length_path s t in
      let among = s.enclosed.among in
      let some = some_port_lem among t.trail (omega (arith, s.fitting.some)) in
      omega (arith, trail_crowded among some t.trail (more c.new t.simple), s.enclosed.few)
