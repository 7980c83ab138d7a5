-- It is the first with the greatest limit among the first ports, or none of them has a rate.
use native.Mathlib.Omega.{arith}
use native.Mathlib.Nat.{pos_of_ne-zero}
use Rattle.period.proofs.limit.Read.{has_limit}
use Rattle.period.proofs.limit.Leading.{leading_none, leading_new, leading_kept, leading_unrated, leading_last}
use Rattle.period.proofs.limit.greatest_limit.Goals as goal
use Rattle.period.proofs.limit.greatest_limit.Goals.{then-less, else-less}

pub loop-port-init : goal.loop-port-init
loop-port-init c = leading_none

pub limit_of-value-requires : goal.limit_of-value-requires
limit_of-value-requires c = has_limit c.requires.port_numbers c.requires.limited (omega arith)

pub loop-port-preserved : goal.loop-port-preserved
loop-port-preserved c =
    let limited = c.requires.limited in
    elim c.if-less.branch [
      | then-less w ↦ rw w.greatest-is (leading_new limited c.loop-port.invariant (omega arith) c.limit_of-value.ensures c.less.ensures w.if-less.true)
      | else-less w ↦ rw w.greatest-is (leading_kept limited c.loop-port.invariant (omega arith) c.limit_of-value.ensures c.less.ensures w.if-less.false)
    ]

pub returns-then-greatest-eq0 : goal.returns-then-greatest-eq0
returns-then-greatest-eq0 c = leading_unrated c.requires.limited c.loop-port.invariant (omega arith) c.if-greatest-eq0.true

pub returns : goal.returns
returns c = leading_last c.requires.limited c.loop-port.invariant (omega arith) (pos_of_ne-zero c.if-greatest-eq0.false)
