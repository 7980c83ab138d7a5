-- What reading refuses, or the number of the table.
use Rattle.std.specs.Prelude.{◌≡◌, Err}
use Rattle.std.proofs.Common.{rules}
use Rattle.refusals.specs.Faults.{outcome_of}
use Rattle.table.specs.FilledLaws.{formed_read}
use Rattle.hiding.specs.Hides.{own_faulty, own_refused, own_held}
use Rattle.hiding.proofs.read_own.Goals as goal

pub returns-in_err-counts : goal.returns-in_err-counts
returns-in_err-counts c =
    let e : c.from_residual.result ≡ Err (outcome_of c.in_err-counts.field-0.0.fault) = search rules in rw e (own_faulty c.args.s.now c.in_err-counts.ensures)

pub table-requires-clause-well_formed : goal.table-requires-clause-well_formed
table-requires-clause-well_formed c = formed_read c.args.s.now c.in_ok-counts.ensures

pub returns-then-number-ne0 : goal.returns-then-number-ne0
returns-then-number-ne0 c =
    own_refused c.args.s.now c.in_ok-counts.ensures c.table.ensures c.own_number-number.ensures c.if-number-ne0.true

pub returns : goal.returns
returns c =
    own_held c.args.s.now c.in_ok-counts.ensures c.table.ensures c.own_number-number.ensures c.if-number-ne0.false (search rules) (search rules)
