-- The two connections are those of the pair.
use Rattle.std.proofs.Common.{arith}
use Rattle.specification.specs.Hiding.{links_into, links_from}
use Rattle.table.specs.Held.{table_in}
use Rattle.hidden.specs.Picked.{number_below, numbers_at, numbers_count}
use Rattle.hidden.specs.Made.{made_count, made_at}
use Rattle.hidden.specs.OfSides.{pair_of, fits_at}
use Rattle.hidden.proofs.via.made_at.Goals as goal

pub nonzero_div-k : goal.nonzero_div-k
nonzero_div-k c = (pair_of c.args.sides.now c.args.k c.requires).some

pub bounds-sides-k : goal.bounds-sides-k
bounds-sides-k c = (pair_of c.args.sides.now c.args.k c.requires).first

pub link-x-requires : goal.link-x-requires
link-x-requires c =
    let s = c.args.sides.now in number_below s.parted.into_are _ (pair_of s c.args.k c.requires).first

pub nonzero_rem-k : goal.nonzero_rem-k
nonzero_rem-k c = (pair_of c.args.sides.now c.args.k c.requires).some

pub bounds-sides-k-2 : goal.bounds-sides-k-2
bounds-sides-k-2 c = (pair_of c.args.sides.now c.args.k c.requires).second

pub link-y-requires : goal.link-y-requires
link-y-requires c =
    let s = c.args.sides.now in number_below s.parted.from_are _ (pair_of s c.args.k c.requires).second

pub made_via-requires : goal.made_via-requires
made_via-requires c =
    let s = c.args.sides.now in
    let pair = pair_of s c.args.k c.requires in
    record {
      x_fits = fits_at s (number_below s.parted.into_are _ pair.first) c.link-x.ensures.whole;
      y_fits = fits_at s (number_below s.parted.from_are _ pair.second) c.link-y.ensures.whole;
    }

pub returns : goal.returns
returns c =
    let s = c.args.sides.now in
    let t = table_in s.table.now in
    let pair = pair_of s c.args.k c.requires in
    made_at (links_into t s.port) (links_from t s.port) c.args.k _ (omega (arith, made_count (links_into t s.port) (links_from t s.port))) (numbers_count s.parted.from_are)
    (numbers_at s.parted.into_are _ pair.first c.link-x.ensures.whole)
    (numbers_at s.parted.from_are _ pair.second c.link-y.ensures.whole)
    c.made_via.ensures
