-- The exact fraction, whose parts are no larger than the products.
use Prim.Native.Nat.{◌*◌}
use Rattle.hidden.specs.ViaParts.{product_most, num_most, den_most, carried_is}
use native.Mathlib.Omega.{arith}
use Rattle.hidden.proofs.rate.carried_rate.Goals as goal

pub returns : goal.returns
returns c =
    let r = c.args.r in
    let l = c.args.l in
    record {
      value = carried_is r l c.reduced-rate.ensures;
      num_bound = omega (arith, num_most (r.num * l.den) (r.den * l.num) c.reduced-rate.ensures, product_most 1000 1000 c.requires.port_fits.num_most c.requires.den_fits.most);
      den_bound = omega (arith, den_most (r.num * l.den) (r.den * l.num) c.reduced-rate.ensures, product_most 1000 1000 c.requires.port_fits.den_most c.requires.num_fits.most);
    }
