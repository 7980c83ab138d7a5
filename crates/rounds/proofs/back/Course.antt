-- The walk back through the rows: what is known of it, and its start.
use Prim.Native.Nat.{ℕ, suc, ◌-◌, ◌≤◌, ◌<◌}
use mathlib.Core.Path.{◌≡◌, refl, ap}
use mathlib.Core.Logic.{⊎_elim}
use mathlib.Core.List.{List, [], ◌∷◌}
use Rattle.std.specs.Prelude.{Option, Some, None}
use native.Mathlib.Omega.{arith}
use lib.ListN.{length, get_or, set, take, drop, replicate, length-take, length-drop, get_or-replicate, get_or-eq_default}
use Rattle.numbers.specs.Lists.{◌∈◌, Distinct, none}
use Rattle.numbers.specs.ListLaws.{lt_or_le}
use Rattle.specification.specs.Periods.{reached}
use Rattle.rounds.specs.Trails.{Trail, rest}
use Rattle.rounds.specs.Costs.{gain_of, loss_of, priced}
use Rattle.rounds.specs.Starts.{starts, start_of}
use Rattle.rounds.specs.StartsLaws.{starts_length}
use Rattle.rounds.specs.Back.{EveryRoundRaises}
use Rattle.rounds.proofs.back.Marks.{Marks, marks_none, marks_more}

-- steps r to n - 1 lead from port p, which grew in row r, to the port where the walk began
pub record Traced (cs : List ℕ) (n port : ℕ) (steps₀ steps : List ℕ) (p r : ℕ) : Type 0 where
  pub within : r ≤ n
  pub low : p < 64
  pub long : length steps ≡ length steps₀
  pub path : List ℕ
  pub path_is : take (n - r) (drop r steps) ≡ path
  pub trail : Trail (priced cs) (gain_of cs) (loss_of cs) (start_of cs) r p n port path
  pub simple : Distinct (reached (priced cs) path)
  pub grew : (u : ℕ) → r ≡ suc u → start_of cs u p < start_of cs r p

-- port p is not marked yet
pub record Arrived (cs : List ℕ) (n port : ℕ) (steps₀ steps : List ℕ) (met : List (Option ℕ)) (p r : ℕ) : Type 0 where
  pub traced : Traced cs n port steps₀ steps p r
  pub marks : Marks (reached (priced cs) traced.path) (suc r) met

-- port p comes for the first time, and is marked
pub record Course (cs : List ℕ) (n port : ℕ) (steps₀ steps : List ℕ) (met : List (Option ℕ)) (p r : ℕ) : Type 0 where
  pub traced : Traced cs n port steps₀ steps p r
  pub new : ¬ (p ∈ reached (priced cs) traced.path)
  pub marks : Marks (p ∷ reached (priced cs) traced.path) r met

-- at a port that was not met
pub course_on : {cs : List ℕ} {n port : ℕ} {steps₀ steps : List ℕ} {met : List (Option ℕ)} {p r : ℕ} → Arrived cs n port steps₀ steps met p r
    → get_or met p None ≡ None
    → Course cs n port steps₀ steps (set met p (Some r)) p r
course_on {p = p} a h = record {
  traced = a.traced;
  new = a.marks.absent p a.traced.low h;
  marks = marks_more a.marks a.traced.low;
}

module _ {cs rows : List ℕ} {n port : ℕ} {steps₀ : List ℕ} (s : EveryRoundRaises cs rows n port steps₀) where
  pub port_low : port < 64
  port_low = ⊎_elim
      (λ (h : port < 64). h)
      (λ (h : 64 ≤ port). absurd (omega (arith, s.moving.grew, get_or-eq_default (starts cs n) 0 {n = port} (omega (arith, starts_length cs n)))))
      (lt_or_le port 64)

  pub course_first : Course cs n port steps₀ steps₀ (set (replicate 64 None) port (Some n)) port n
  course_first = course_on (record { traced = traced; marks = marks_none (suc n) }) (get_or-replicate {A = Option ℕ} 64 port None None port_low)
    where
      traced : Traced cs n port steps₀ steps₀ port n
      traced = record {
        within = omega arith;
        low = port_low;
        long = refl;
        path = [];
        path_is = let z : n - n ≡ 0 = omega arith in rw z;
        trail = rest;
        simple = none;
        grew = λ u e. let z : u ≡ n - 1 = omega arith in rw z s.moving.grew;
      }

  pub length_path : {steps : List ℕ} {p r : ℕ} (t : Traced cs n port steps₀ steps p r) → length t.path ≡ n - r
  length_path {steps} {r = r} t =
      omega (arith, ap length t.path_is, length-take (n - r) (drop r steps), length-drop r steps, t.long, t.within, s.room, s.fitting.few)
