-- What a caller of the reader of the inputs knows.
use Rattle.std.specs.Prelude.{ℕ, ◌*◌, ◌≡◌, List, take}
use Rattle.std.proofs.Common.{sym, ap}
use Rattle.specification.specs.Joining.{joined_table, Join, join_of, JoinReturned}
use Rattle.records.specs.WrittenLaws.{written_none}
use Rattle.table.specs.Slices.{table_of}
use Rattle.table.specs.FilledLaws.{front_table}
use Rattle.joins.specs.JoinCases.{join_refused}
use Rattle.joins.specs.Refusals.{refusal_of}
use Rattle.joins.specs.InputsRead.{JoinFault, JoinedRead}
use Rattle.table.specs.declared.reading.Counts.{Counts}
use Rattle.joins.specs.declared.inputs.InputFault.{InputFault}

module _ {first second added : List ℕ} where
  -- a fault is the join's refusal, of whatever buffer
  pub read_refused : {f : InputFault} → JoinFault first second added f → (out : List ℕ) → JoinReturned (join_of first second added) out out (refusal_of f)
  read_refused read out = record {
    number_is = ap (λ (j : Join). j.number) (sym read.is);
    place_is = ap (λ (j : Join). j.place) (sym read.is);
    input_is = ap (λ (j : Join). j.input) (sym read.is);
    table_is = rw (join_refused first second added read.some) (written_none out);
  }

  module _ {ports links : List ℕ} {c : Counts} (read : JoinedRead first second added ports links c) where
    pub no_fault : (join_of first second added).number ≡ 0
    no_fault = ap (λ (j : Join). j.number) read.is

    -- the parts of the slices are the joined table's
    pub read_joined : {ps ls : List ℕ} → ps ≡ take (2 * c.ports) ports → ls ≡ take (10 * c.links) links → table_of ps ls ≡ joined_table first second added
    read_joined ps_are ls_are = rw (ps_are, ls_are) (front_table read.front)
