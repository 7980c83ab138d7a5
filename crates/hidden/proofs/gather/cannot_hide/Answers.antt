-- By its tests, in their order.
use Rattle.std.proofs.Common.{rules}
use borrow.Author.Tests.{tests}
use Rattle.specification.specs.Hiding.{goes_into, comes_from, bars}
use Rattle.table.specs.Held.{table_in}
use Rattle.hidden.specs.Any.{any_of}
use Rattle.hidden.specs.HiddenIn.{cannot_is}
use Rattle.hidden.proofs.gather.cannot_hide.Goals as goal

pub returns-then-not-sends : goal.returns-then-not-sends
returns-then-not-sends c =
    let t = table_in c.args.table.now in
    let p = c.args.p in
    let b = any_of (bars p) t.links c.link_count-count.result _ _ _ c.link_count-count.ensures c.any-bars.ensures.ran (λ x b q k. search rules) in
    let s = any_of (goes_into p) t.links c.link_count-count.result _ _ _ c.link_count-count.ensures c.any-sends.ensures.ran (λ x b q k. search rules) in
    let r = any_of (comes_from p) t.links c.link_count-count.result _ _ _ c.link_count-count.ensures c.any-receives.ensures.ran (λ x b q k. search rules) in
    rw (cannot_is t p b s r, ← c.port_count.ensures) (search (rules, tests))

pub returns-else-not-sends : goal.returns-else-not-sends
returns-else-not-sends c =
    let t = table_in c.args.table.now in
    let p = c.args.p in
    let b = any_of (bars p) t.links c.link_count-count.result _ _ _ c.link_count-count.ensures c.any-bars.ensures.ran (λ x b q k. search rules) in
    let s = any_of (goes_into p) t.links c.link_count-count.result _ _ _ c.link_count-count.ensures c.any-sends.ensures.ran (λ x b q k. search rules) in
    let r = any_of (comes_from p) t.links c.link_count-count.result _ _ _ c.link_count-count.ensures c.any-receives.ensures.ran (λ x b q k. search rules) in
    rw (cannot_is t p b s r, ← c.port_count.ensures) (search (rules, tests))
