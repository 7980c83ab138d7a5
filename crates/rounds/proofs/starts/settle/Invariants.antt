-- Each turn of the loop makes one round more, until one changes nothing.
use Rattle.rounds.specs.Starts.{costs_in}
use Rattle.rounds.proofs.starts.RoundsMade.{RoundsMade}
use Rattle.rounds.proofs.starts.settle.Given as goal

abbrev pub invariant-loop-r : goal.invariant-loop-r
invariant-loop-r l = RoundsMade (costs_in l.initial.work l.n l.edges) l.n l.edges l.initial.work l.work l.r l.raised
