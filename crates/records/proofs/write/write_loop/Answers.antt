-- The record is what `write_numbers` writes at kind 18.
use borrow.Author.Rules.{rules}
use Rattle.specification.specs.Bytes.{loop_answer}
use Rattle.records.proofs.write.write_loop.Goals as goal

pub returns : goal.returns
unfolding loop_answer
returns c = search rules
