-- Both conditions of each link below k hold.
use native.Mathlib.Omega.{arith}
use Rattle.std.proofs.lemmas.Result.{MatchResult-from_err}
use Rattle.weights.proofs.whole.Conditions.{scaled_none, scaled_all, forward_on, forward_over, back_on, back_over}
use Rattle.weights.proofs.whole.scale_all.Goals as goal

pub loop-k-init : goal.loop-k-init
loop-k-init c = scaled_none c.args.table.now.well_formed c.requires.components c.requires.has_base_weights

pub returns-in_err-scale : goal.returns-in_err-scale
returns-in_err-scale c =
    MatchResult-from_err _ _ _ c.from_residual.ensures.0
    (λ _. forward_over c.args.table.now.well_formed c.requires.components (omega arith) c.link-l.ensures.whole c.port_count.ensures c.from-over.ensures c.loop-k.invariant c.in_err-scale.ensures)

pub returns-in_err-scale-2 : goal.returns-in_err-scale-2
returns-in_err-scale-2 c =
    let formed = c.args.table.now.well_formed in
    let is = c.link-l.ensures.whole in
    let half = forward_on formed c.requires.components (omega arith) is c.port_count.ensures c.from-over.ensures c.loop-k.invariant c.in_ok-scale.ensures in
    MatchResult-from_err _ _ _ c.from_residual-in_err-scale-2.ensures.0
    (λ _. back_over formed c.requires.components (omega arith) is c.port_count.ensures c.from-over.ensures half c.in_err-scale-2.ensures)

pub loop-k-preserved : goal.loop-k-preserved
loop-k-preserved c =
    let formed = c.args.table.now.well_formed in
    let is = c.link-l.ensures.whole in
    let half = forward_on formed c.requires.components (omega arith) is c.port_count.ensures c.from-over.ensures c.loop-k.invariant c.in_ok-scale.ensures in
    back_on formed c.requires.components (omega arith) is c.port_count.ensures c.from-over.ensures half c.in_ok-scale-2.ensures

pub returns : goal.returns
returns c = scaled_all c.args.table.now.well_formed c.requires.components c.loop-k.invariant (omega arith)
