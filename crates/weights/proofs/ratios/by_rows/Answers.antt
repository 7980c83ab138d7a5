-- By the first conflict and the weights.
use mathlib.Core.Path.{refl}
use Rattle.std.proofs.lemmas.Result.{err_from_is_err_and}
use Rattle.weights.proofs.ratios.Decided.{loop_numbers_lem}
use Rattle.weights.proofs.whole.Conditions.{base_passing}
use Rattle.weights.proofs.ratios.by_rows.Goals as goal

pub returns-in-Some : goal.returns-in-Some
returns-in-Some c =
    let f = c.spanning-forest.ensures in
    loop_numbers_lem c.args.table.now.well_formed c.requires.components f.spanned (rw f.table at c.in-Some.ensures) (rw (f.table, f.labels) at c.close-steps.ensures)

pub returns-in_err-weigh : goal.returns-in_err-weigh
returns-in_err-weigh c =
    let p = err_from_is_err_and c.from_residual.result c.from_residual.ensures.1 in
    rw (p.1, p.2) (base_passing c.args.table.now.well_formed c.requires.components c.in_err-weigh.ensures, refl)
