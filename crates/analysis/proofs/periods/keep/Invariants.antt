-- After so many turns so many ports hold theirs.
use Rattle.analysis.proofs.periods.Keeping.{Keeping}
use Rattle.analysis.proofs.periods.keep.Given as goal

abbrev pub invariant-loop-port : goal.invariant-loop-port
invariant-loop-port l = Keeping l.members l.period l.starts l.initial.kept l.kept l.port-index
