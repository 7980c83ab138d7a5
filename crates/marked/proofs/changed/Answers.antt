-- The bytes that pass the filter.
use Rattle.std.specs.Prelude.{count_by, not, ◌==◌}
use Rattle.std.proofs.Common.{◌≡◌, rules, arith}
use Rattle.marked.proofs.Counting.{counted}
use Rattle.marked.proofs.changed.Goals as goal

pub returns : goal.returns
returns c =
    let count : c.count.result ≡ count_by (λ byte. not (byte == 165)) c.args.rest.now = search rules in
    rw (counted c.args.rest.now, ← count) (omega arith)
