-- The record is what `write_numbers` writes at kind 19.
use borrow.Author.Rules.{rules}
use Rattle.specification.specs.Bytes.{cycle_answer}
use Rattle.records.proofs.write.write_cycle.Goals as goal

pub returns : goal.returns
unfolding cycle_answer
returns c = search rules
