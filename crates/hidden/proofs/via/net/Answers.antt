-- The difference in lowest terms; one of both amounts is zero.
use Rattle.hidden.specs.ViaParts.{net_is}
use Rattle.hidden.proofs.via.net.Goals as goal

pub returns : goal.returns
returns c =
    net_is c.args.forward c.args.back c.args.over c.saturating_sub-gained.ensures c.saturating_sub-lost.ensures c.reduced.ensures c.reduced-2.ensures c.reduced-3.ensures
