-- From what was hidden and printed to what the program writes.
use Prim.Native.Nat.{ℕ, ◌≤◌, ◌<◌, min}
use mathlib.Core.Path.{◌≡◌, sym, ap, ◌∙◌}
use mathlib.Core.Bool.{true, false, true≢false}
use mathlib.Core.Logic.{⊎_elim}
use mathlib.Core.List.{List}
use native.Mathlib.Omega.{arith}
use lib.ListN.{length}
use Rattle.specification.specs.Bytes.{Written}
use Rattle.specification.specs.Table.{most_ports}
use Rattle.specification.specs.Encoding.{most_table_bytes}
use Rattle.specification.specs.Hiding.{Hide, hide_into, HideReturned}
use Rattle.specification.specs.declared.Outcome.{Outcome}
use Rattle.numbers.specs.ListLaws.{lt_or_le}
use Rattle.records.specs.WrittenLaws.{written_front, written_within}
use Rattle.hiding_laws.specs.HideDemands.{hide_beyond, hide_fits}
use Rattle.input.specs.Input.{read_whole}
use Rattle.files.specs.Files.{File, line_of}
use Rattle.hide_report.specs.PortArgument.{is_number, port_of}
use Rattle.hide_report.specs.HideReport.{HidesTo, TableReported, HideReported}

pub table_reported : {s : List ℕ} {p : ℕ} {out out' text text' : List ℕ} {h : Outcome} {line : ℕ} → most_table_bytes ≤ length out → HideReturned s p out out' h
    → Written (line_of h.number h.place true false) text text' line
    → TableReported s p out' text' (record { written = h.written; line = line })
table_reported {s} {p} {out} room r l =
    let e = hide_fits s r.answer r.right p (length out) room in
    record {
      hides = record {
        answer = r.answer;
        right = r.right;
        table_is = written_front r.table_is ∙ ap (λ (h : Hide). h.table) e;
        line_is = rw (r.number_is, r.place_is, e) at (written_front l);
      };
      table_within = written_within r.table_is;
      line_within = written_within l;
    }

-- port numbers from 64 on are alike
hides_beyond : {s : List ℕ} {n m : ℕ} {table line : List ℕ} → m ≡ min n most_ports → HidesTo s m table line → HidesTo s n table line
hides_beyond {s} {n} {m} e h =
    let same : hide_into s h.answer m most_table_bytes ≡ hide_into s h.answer n most_table_bytes = ⊎_elim
    (λ (l : n < most_ports). let is : m ≡ n = omega arith in rw is)
    (λ (l : most_ports ≤ n). hide_beyond s h.answer m n most_table_bytes (omega arith) l)
    (lt_or_le n most_ports) in
    record { answer = h.answer; right = h.right; table_is = rw same at h.table_is; line_is = rw same at h.line_is }

module _ {argument : List ℕ} {f : File} {out text : List ℕ} {line : ℕ} where
  pub reported_table : {m written : ℕ} → is_number argument ≡ true → read_whole f.failed (length f.bytes) ≡ true → m ≡ min (port_of argument) most_ports
      → TableReported f.bytes m out text (record { written = written; line = line })
      → HideReported argument f out text (record { written = written; line = line })
  reported_table e whole port t = record {
    writes = record {
      no_number = λ z. absurd (true≢false (sym e ∙ z));
      not_whole = λ _ z. absurd (true≢false (sym whole ∙ z));
      hides = λ _ _. hides_beyond port t.hides;
    };
    table_within = t.table_within;
    line_within = t.line_within;
  }
