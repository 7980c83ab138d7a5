-- The climb over the forest from both ends of a link.
use Rattle.std.specs.Prelude.{ℕ, ◌+◌, ◌*◌, ◌≤◌, ◌<◌, ◌≡◌, ◌⊎◌, ◌≢◌, false, List, ◌∷◌, ◌++◌, map, length, get_or}
use Rattle.table.specs.WellFormed.{WellFormed}
use Rattle.specification.specs.Table.{Table, IsPort, IsLink, from}
use Rattle.numbers.specs.Lists.{◌∈◌, Distinct}
use Rattle.specification.specs.Ratios.{Step, Way, leaves, comes}
use Rattle.forest.specs.Forest.{Reached}
use Rattle.forest.specs.StepNumbers.{step_of, Stands}

abbrev pub along : ℕ → Step
along k = record { number = k; against = false }

-- ---- one step
pub record Climbable (t : Table) (labels reach via : List ℕ) (p : ℕ) : Type 0 where
  pub well_formed : WellFormed t
  pub a_port : IsPort t p
  pub reached : Reached t labels reach via p

-- the step from p over the link via p to its parent
pub record Parent (t : Table) (labels reach via : List ℕ) (p link against parent : ℕ) : Type 0 where
  pub a_port : IsPort t parent
  pub a_link : IsLink t link
  pub over : link ≡ get_or via p 0
  pub direction : against ≤ 1
  pub starts : leaves t (step_of link against) ≡ p
  pub ends : comes t (step_of link against) ≡ parent
  pub earlier : get_or reach parent 0 < get_or reach p 0
  pub same_label : get_or labels parent 0 ≡ get_or labels p 0

-- ---- the climb from both ends
-- x was reached after a and after b
pub record Behind (reach : List ℕ) (a b x : ℕ) : Type 0 where
  pub after_a : get_or reach a 0 < get_or reach x 0
  pub after_b : get_or reach b 0 < get_or reach x 0

-- link s is the one over which a port was reached, and after a and b
pub record Over (t : Table) (labels reach via : List ℕ) (a b s : ℕ) : Type 0 where
  pub port : ℕ
  pub a_port : IsPort t port
  pub not_lowest : get_or labels port 0 ≢ port
  pub over : get_or via port 0 ≡ s
  pub behind : Behind reach a b port

-- the climb came from k's receiver by up to a, and from k's sender by down to b
pub record Climb (t : Table) (labels reach via : List ℕ) (k a b : ℕ) (up down : List Step) : Type 0 where
  pub a_port : IsPort t a
  pub b_port : IsPort t b
  pub same_label : get_or labels a 0 ≡ get_or labels b 0
  pub there : Way t (from t k) a (along k ∷ up)
  pub back : Way t b (from t k) down
  pub ports : Distinct (map (comes t) ((along k ∷ up) ++ down))
  pub left : (x : ℕ) → x ∈ map (comes t) ((along k ∷ up) ++ down) → (x ≡ a) ⊎ Behind reach a b x
  pub links : Distinct (map (λ x. x.number) ((along k ∷ up) ++ down))
  pub over_forest : (s : ℕ) → s ∈ map (λ x. x.number) (up ++ down) → Over t labels reach via a b s
  pub few_a : length up + length down + get_or reach a 0 ≤ 64
  pub few_b : length up + length down + get_or reach b 0 ≤ 64

-- and its steps are written
pub record Climbing (t : Table) (labels reach via : List ℕ) (k : ℕ) (numbers down : List ℕ) (next first a b : ℕ) : Type 0 where
  pub up : List Step
  pub under : List Step
  pub climb : Climb t labels reach via k a b up under
  pub up_stands : Stands numbers 0 (along k ∷ up)
  pub down_stands : Stands down first under
  pub next_is : next ≡ 2 + 2 * length up
  pub first_is : first + 2 * length under ≡ 128
  pub room : 128 ≤ length numbers
  pub long : length down ≡ 128

-- both ends met at one port
pub record Met (t : Table) (labels reach via : List ℕ) (k : ℕ) (numbers down : List ℕ) (next first : ℕ) : Type 0 where
  pub port : ℕ
  pub climbing : Climbing t labels reach via k numbers down next first port port
