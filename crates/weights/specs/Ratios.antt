-- Numbers 13 and 14, and what the ratios of a table come to.
use Rattle.std.specs.Prelude.{ℕ, ◌+◌, ◌*◌, ◌≤◌, ◌<◌, get_or, ◌≡◌, List, Result, Ok, Err}
use Rattle.specification.specs.Table.{Table}
use Rattle.specification.specs.Ratios.{Overweight, DisagreeingLoop}
use Rattle.ways.specs.Labels.{Components}
use Rattle.forest.specs.Loop.{steps_from}
use Rattle.weights.specs.Weighed.{HasWeights}
use Rattle.refusals.specs.declared.Refusal.{Refusal}
use Rattle.refusals.specs.declared.Refusal.TheVariants.{Ratios, Weight}
use Rattle.refusals.specs.Numbers.{number_of as refusal_number}
use Rattle.weights.specs.declared.ratios.Discord.{Discord}
use Rattle.weights.specs.declared.ratios.Discord.TheVariants.{Loop, OverLimit}
use Rattle.weights.specs.declared.ratios.Weighted.{Weighted}
use Rattle.weights.specs.declared.ratios.Unweighted.{Unweighted}

-- the loop as numbers: of each step the link's number and its direction, 0 along and 1 against
pub record LoopNumbers (t : Table) (numbers : List ℕ) (steps : ℕ) : Type 0 where
  pub loop : DisagreeingLoop t (steps_from numbers 0 steps)
  pub few : steps ≤ 64
  pub directions : (i : ℕ) → i < steps → get_or numbers (2 * i + 1) 0 ≤ 1

-- the refusal that says so
abbrev pub refusal_of : Discord → Refusal
refusal_of (Loop steps) = Ratios
refusal_of OverLimit = Weight

-- the number of document 01
abbrev pub number_of : Result Weighted Unweighted → ℕ
number_of (Ok r) = 0
number_of (Err u) = refusal_number (refusal_of u.discord)

-- all of 13 is tried before 14; the numbers hold the loop of 13 and are else unchanged
abbrev pub DiscordHolds : Table → (numbers numbers' : List ℕ) → Discord → Type 0
DiscordHolds t numbers numbers' (Loop steps) = LoopNumbers t numbers' steps
DiscordHolds t numbers numbers' OverLimit = Overweight t × (numbers' ≡ numbers)

-- where the ratios agree and no weight passes 10,000, the components and the weights
pub record HasRatios (t : Table) (r : Weighted) : Type 0 where
  pub components : Components t r.labels
  pub weights : HasWeights t r.weights

-- else the components too, and why there are no weights
pub record HasDiscord (t : Table) (numbers numbers' : List ℕ) (u : Unweighted) : Type 0 where
  pub components : Components t u.labels
  pub discord : DiscordHolds t numbers numbers' u.discord

abbrev pub IsRatios : Table → (numbers numbers' : List ℕ) → Result Weighted Unweighted → Type 0
IsRatios t numbers numbers' (Ok r) = HasRatios t r × (numbers' ≡ numbers)
IsRatios t numbers numbers' (Err u) = HasDiscord t numbers numbers' u
