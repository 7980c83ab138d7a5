-- A link apart from the port, or a new connection.
use Rattle.std.specs.Prelude.{◌≡◌, ◌-◌, ◌<◌, length, get_or}
use Rattle.std.proofs.Common.{arith, ◌∙◌}
use Rattle.specification.specs.Table.{no_link}
use Rattle.specification.specs.Hiding.{links_after}
use Rattle.table.specs.Held.{table_in}
use Rattle.hidden.specs.Picked.{numbers_at, numbers_count}
use Rattle.hidden.specs.Without.{after_length, made_fits, kept_at, new_at, after_at}
use Rattle.hidden.specs.OfSides.{made_in}
use Rattle.hidden.proofs.sides.Sides.link_after.Goals as goal
use Rattle.hidden.proofs.sides.Sides.link_after.Goals.{then-k-kept, else-k-kept}

pub made_at-requires : goal.made_at-requires
made_at-requires c =
    let s = c.args.self.now in omega (arith, after_length (table_in s.table.now) s.port, numbers_count s.parted.apart_are)

pub link_of-l-requires : goal.link_of-l-requires
link_of-l-requires c =
    let s = c.args.self.now in
    let below : c.args.k - length s.apart.now < length (made_in s) = omega (arith, after_length (table_in s.table.now) s.port, numbers_count s.parted.apart_are) in
    let made = made_fits (table_in s.table.now) s.port s.table.now.well_formed s.parted.can c.requires.can _ below in
    rw (← c.made_at.ensures) at made.over_most

pub returns : goal.returns
returns c =
    let s = c.args.self.now in
    let t = table_in s.table.now in
    let l : c.if-k-kept.l ≡ get_or (links_after t s.port) c.args.k no_link =
    elim c.if-k-kept.branch [
      | then-k-kept w ↦ w.l-is ∙ kept_at t s.port (omega (arith, w.if-k-kept.true, numbers_count s.parted.apart_are)) (numbers_at s.parted.apart_are _ w.if-k-kept.true w.link-l.ensures.whole)
      | else-k-kept w ↦ w.l-is ∙ new_at t s.port _ (numbers_count s.parted.apart_are) w.if-k-kept.false (w.link_of-l.ensures ∙ w.made_at.ensures)
    ] in
    after_at t s.port c.requires.k_in_bounds l c.renumber.ensures
