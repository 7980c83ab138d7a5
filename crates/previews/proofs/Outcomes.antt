-- What each way through the preview comes to.
use Prim.Native.Nat.{ℕ, ◌*◌, ◌≤◌, ◌<◌}
use mathlib.Core.Path.{◌≡◌, refl, sym, ap}
use mathlib.Core.List.{List}
use native.Mathlib.Omega.{arith}
use lib.ListN.{length, take}
use Rattle.specification.specs.Table.{Table, port_count}
use Rattle.specification.specs.Reading.{start}
use Rattle.specification.specs.Encoding.{encode_table}
use Rattle.specification.specs.Answers.{least_room}
use Rattle.specification.specs.Analysed.{Analysed}
use Rattle.specification.specs.Joining.{joined_table, Join}
use Rattle.specification.specs.Previewing.{Previewed}
use Rattle.table.specs.Slices.{table_of}
use Rattle.encoding.specs.ReadBack.{Writable, table_read_back, no_fault_read, no_port_read, some_port_read}
use Rattle.joins.specs.JoinedLaws.{joined_writable}
use Rattle.joins.specs.Refusals.{refusal_of}
use Rattle.joins.specs.InputsRead.{JoinFault, JoinedRead}
use Rattle.joins.specs.InputsLaws.{read_refused, read_joined, no_fault}
use Rattle.analysis.specs.Decided.{Decided}
use Rattle.analysis.specs.AnalysedLaws.{analysed_faulty, analysed_decided}
use Rattle.table.specs.declared.reading.Counts.{Counts}
use Rattle.joins.specs.declared.inputs.InputFault.{InputFault}
use Rattle.specification.specs.declared.Outcome.{Outcome}
use Rattle.specification.specs.declared.JoinOutcome.{JoinOutcome}

-- ---- the bytes of a table
module _ {t : Table} (w : Writable start t) where
  pub analysed_empty : (before : List ℕ) → least_room ≤ length before → port_count t ≡ 0
      → Analysed (encode_table t) before before (record { number = 12; place = 0; written = 0 })
  analysed_empty before room none =
      analysed_faulty (encode_table t) before 12 0 (sym (no_port_read w none)) (sym (no_fault_read w)) (λ e. omega (arith, e)) room

  pub analysed_table : {before after : List ℕ} {r : Outcome} → least_room ≤ length before → 0 < port_count t → Decided t before after r
      → Analysed (encode_table t) before after r
  analysed_table room some d = analysed_decided (encode_table t) (sym (table_read_back w)) (some_port_read w some) room d

-- ---- the join
module _ {first second added : List ℕ} where
  pub preview_refused : {f : InputFault} {r : JoinOutcome} → JoinFault first second added f → (before : List ℕ) → r ≡ refusal_of f
      → Previewed first second added before before r
  preview_refused read before e = record {
    refused = λ _. rw e (read_refused read before);
    analysed = λ z. absurd (read.some z);
    no_input = λ z. absurd (read.some z);
  }

  module _ {ports links ps ls : List ℕ} {c : Counts} (read : JoinedRead first second added ports links c) (ps_are : ps ≡ take (2 * c.ports) ports)
      (ls_are : ls ≡ take (10 * c.links) links) where
    table_is : table_of ps ls ≡ joined_table first second added
    table_is = read_joined read ps_are ls_are

    pub read_writable : Writable start (table_of ps ls)
    read_writable = rw table_is (joined_writable first second added)

    pub preview_analysed : {before after : List ℕ} {r : Outcome} → Analysed (encode_table (table_of ps ls)) before after r
        → Previewed first second added before after (record { number = r.number; place = r.place; input = 0; written = r.written })
    preview_analysed a = record {
      refused = λ f. absurd (f (no_fault read));
      analysed = λ e. rw (ap (λ (j : Join). j.table) read.is) (rw table_is at a);
      no_input = λ _. refl;
    }
