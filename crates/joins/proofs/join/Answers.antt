-- By whether an input has a fault.
use Rattle.joins.proofs.Outcomes.{refused, few_ports, links_fit, written_joined}
use Rattle.joins.proofs.join.Goals as goal

pub write_joined-requires : goal.write_joined-requires
write_joined-requires c =
    let cut = c.cut.ensures in
    record { ports_len_bound = few_ports c.in-Ok.ensures cut.ports cut.links; links_fit = links_fit c.in-Ok.ensures cut.ports cut.links }

pub returns-in-Ok : goal.returns-in-Ok
returns-in-Ok c = written_joined c.in-Ok.ensures c.cut.ensures.ports c.cut.ensures.links c.write_joined.ensures

pub returns-in-Err : goal.returns-in-Err
returns-in-Err c = refused c.in-Err.ensures.refused c.into.ensures
