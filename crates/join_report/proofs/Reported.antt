-- From what was given, joined and printed to what the program writes.
use Prim.Native.Nat.{ℕ, ◌≤◌}
use mathlib.Core.Path.{◌≡◌}
use mathlib.Core.Bool.{cond}
use mathlib.Core.List.{List}
use lib.ListN.{length, take}
use Rattle.specification.specs.Bytes.{Written}
use Rattle.specification.specs.Encoding.{most_table_bytes}
use Rattle.specification.specs.Joining.{join_into, JoinReturned}
use Rattle.specification.specs.declared.JoinOutcome.{JoinOutcome}
use Rattle.records.specs.WrittenLaws.{written_front, written_within}
use Rattle.joins.specs.JoinCases.{join_fits}
use Rattle.files.specs.Files.{File, all_whole, is_unread, line_of, join_files}
use Rattle.files.specs.FilesLaws.{given_front, given_within, GivenOf}
use Rattle.files.specs.declared.InTurn.{InTurn}
use Rattle.join_report.specs.JoinReport.{JoinReported}

module _ {first second added : List ℕ} {a b c : File} {t : InTurn} (g : GivenOf first second added a b c t) where
  returned : {out out' : List ℕ} {j : JoinOutcome} → most_table_bytes ≤ length out
      → JoinReturned (join_into (take t.first first) (take t.second second) (take t.added added) (length out)) out out' j
      → JoinReturned (join_files a b c) out out' j
  returned {out} room r = rw (g.first_is, g.second_is, g.added_is, join_fits _ _ _ (length out) room) at r

  pub reported : {out out' text text' : List ℕ} {j : JoinOutcome} {written line : ℕ} → most_table_bytes ≤ length out
      → JoinReturned (join_into (take t.first first) (take t.second second) (take t.added added) (length out)) out out' j
      → Written (line_of j.number j.place (all_whole t.stopped) (is_unread t.stopped)) text text' line
      → written ≡ cond (all_whole t.stopped) j.written 0
      → JoinReported a b c out' text' (record { written = written; line = line })
  reported {out' = out'} {j = j} room r l e =
      let done = returned room r in
      record {
        table_is = rw (e, given_front (all_whole t.stopped) j.written out', written_front done.table_is, g.whole_is);
        table_within = rw e (given_within (all_whole t.stopped) (written_within done.table_is));
        line_is = rw (g.whole_is, g.failed_is, done.number_is, done.place_is) at (written_front l);
        line_within = written_within l;
      }
