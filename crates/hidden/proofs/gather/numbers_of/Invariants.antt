-- Each turn of the loop stores one number more, if its link passes.
use Rattle.std.specs.Prelude.{Bool, ◌≤◌, take}
use Rattle.specification.specs.declared.Link.{Link}
use Rattle.table.specs.Held.{table_in}
use Rattle.hidden.specs.Picked.{Decides, GatheredFirst}
use Rattle.hidden.proofs.gather.numbers_of.Given as goal

abbrev pub invariant-loop-k : goal.invariant-loop-k
invariant-loop-k g l = record {
  few : l.count ≤ l.k;
  gathered : (test : Link → Bool) → Decides (goal.F-post g l.passes) test (table_in l.table).links → GatheredFirst test (table_in l.table).links (take l.count l.room) l.k;
}
