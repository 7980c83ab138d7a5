-- The fields are the numbers of the record; the period is a/b times the weight.
use native.Mathlib.Omega.{arith}
use Rattle.text.specs.Lines.{port_line}
use Rattle.text.specs.Printed.{port_at}
use Rattle.text.specs.Record.{line_of}
use Rattle.text.proofs.record.Period.{times_fits, period_is}
use Rattle.text.proofs.record.port.Goals as goal

pub times-requires : goal.times-requires
times-requires c = times_fits _ _ (omega arith) c.reduced.ensures c.number_at-a.ensures.1 c.number_at-weight.ensures.1

pub returns : goal.returns
unfolding line_of port_at port_line
returns c =
    let period = period_is _ _ (omega arith) c.reduced.ensures _ c.times.ensures in (
      omega arith,
      λ number. rw (
        ← c.number_at.ensures.0,
        ← c.number_at-weight.ensures.0,
        ← c.number_at-a.ensures.0,
        ← c.number_at-b.ensures.0,
        ← c.number_at-2.ensures.0,
        period,
        c.reduced-2.ensures,
      ),
    )
