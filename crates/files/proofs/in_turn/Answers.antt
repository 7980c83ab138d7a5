-- Each file in its turn.
use Rattle.std.proofs.Common.{◌≡◌, sym, subst}
use Rattle.files.specs.Files.{in_turn, GivenAtMost}
use Rattle.files.proofs.Stopped.{turn_is, turn_within}
use Rattle.files.proofs.in_turn.Goals as goal

pub returns : goal.returns
returns c =
    let turn = turn_is c.args.first c.args.second c.args.added in
    let value : _ ≡ in_turn c.args.first c.args.second c.args.added = cc in
    record { value = value; within = subst (GivenAtMost _ _ _) (sym value) (turn_within _ _ _) }
