-- 18, or the links by the side of the port.
use Rattle.std.proofs.Common.{rules, ◌∙◌, sym}
use Rattle.specification.specs.Hiding.{goes_into, comes_from, apart}
use Rattle.hidden.specs.HiddenIn.{hidden_18}
use Rattle.hidden.proofs.write_hidden.Goals as goal

pub returns-then-cannot_hide : goal.returns-then-cannot_hide
returns-then-cannot_hide c = hidden_18 (sym c.cannot_hide.ensures ∙ c.if-cannot_hide.true)

pub invariant_of-sides : goal.invariant_of-sides
invariant_of-sides c =
    let p = c.args.p in
    record {
      parted = record {
        can = sym c.cannot_hide.ensures ∙ c.if-cannot_hide.false;
        into_are = c.numbers_of.ensures (goes_into p) (record { each = λ k b a. search rules });
        from_are = c.numbers_of-2.ensures (comes_from p) (record { each = λ k b a. search rules });
        apart_are = c.numbers_of-3.ensures (apart p) (record { each = λ k b a. search rules });
      };
    }
