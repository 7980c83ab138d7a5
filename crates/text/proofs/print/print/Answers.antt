-- The text fits, and is written from the front on.
use native.Mathlib.Omega.{arith}
use borrow.Author.Rules.{rules}
use Rattle.text.specs.Sizes.{printed_size}
use Rattle.text.specs.Writer.{written, room_at_front}
use Rattle.text.proofs.print.print.Goals as goal

pub write_answer-requires : goal.write_answer-requires
write_answer-requires c =
    room_at_front c.new-out.ensures (omega (arith, (printed_size c.args.number c.args.place c.args.records.now).within))

pub returns : goal.returns
returns c =
    let size = printed_size c.args.number c.args.place c.args.records.now in
    record {
      written = written c.new-out.ensures c.write_answer.ensures (omega arith) (search rules);
      upper_bound = search rules;
    }
