-- An edge from k on is tight.
use Rattle.rounds.proofs.back.Ahead.{Ahead}
use Rattle.rounds.proofs.back.tight.Given as goal

abbrev pub invariant-loop-k : goal.invariant-loop-k
invariant-loop-k l = Ahead l.costs l.rows l.r l.p l.k
