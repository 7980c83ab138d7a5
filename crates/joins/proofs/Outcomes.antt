-- From what was read and written to the promise of the join.
use Prim.Native.Nat.{ℕ, ◌*◌, ◌≤◌, ◌<◌}
use mathlib.Core.Path.{◌≡◌, refl, ap}
use mathlib.Core.List.{List}
use native.Mathlib.Omega.{arith}
use lib.ListN.{length, take}
use borrow.Author.Tests.{lt-ltb, le-ltb}
use Rattle.specification.specs.Bytes.{Written}
use Rattle.specification.specs.Table.{Table, port_count, most_ports}
use Rattle.specification.specs.Encoding.{encode_table}
use Rattle.specification.specs.Joining.{joined_table, joined, join_of, fitted, join_into, JoinReturned}
use Rattle.table.specs.ReadingLaws.{fits_more}
use Rattle.table.specs.Slices.{ports_of, links_of, table_of}
use Rattle.encoding.specs.Bounded.{LinksFit}
use Rattle.joins.specs.JoinedLaws.{joined_writable}
use Rattle.joins.specs.JoinCases.{fitted_none, join_refused}
use Rattle.joins.specs.Refusals.{refusal_of}
use Rattle.joins.specs.InputsRead.{JoinFault, JoinedRead}
use Rattle.joins.specs.InputsLaws.{read_refused, read_joined}
use Rattle.specification.specs.declared.JoinOutcome.{JoinOutcome}
use Rattle.table.specs.declared.reading.Counts.{Counts}
use Rattle.joins.specs.declared.inputs.InputFault.{InputFault}

-- ---- 16, or the table
module _ (xs : List ℕ) {ys : List ℕ} where
  pub too_short : length ys < length xs → JoinReturned (fitted (joined xs) (length ys)) ys ys (record { number = 16; place = 0; input = 0; written = 0 })
  unfolding fitted
  too_short h = rw (lt-ltb (length ys) (length xs) h) (record { number_is = refl; place_is = refl; input_is = refl; table_is = record { contents = refl; counted = refl } })

  pub long_enough : {ys' : List ℕ} {n : ℕ} → length xs ≤ length ys → Written xs ys ys' n
      → JoinReturned (fitted (joined xs) (length ys)) ys ys' (record { number = 0; place = 0; input = 0; written = n })
  unfolding fitted
  long_enough h w = rw (le-ltb (length ys) (length xs) h) (record { number_is = refl; place_is = refl; input_is = refl; table_is = w })

-- ---- the join
module _ {first second added : List ℕ} where
  pub refused : {f : InputFault} {out : List ℕ} {r : JoinOutcome} → JoinFault first second added f → r ≡ refusal_of f
      → JoinReturned (join_into first second added (length out)) out out r
  refused {out = out} read e =
      let none = join_refused first second added read.some in
      rw (fitted_none (join_of first second added) (length out) none, e) (read_refused read out)

  module _ {ports links ps ls : List ℕ} {c : Counts} (read : JoinedRead first second added ports links c) (ps_are : ps ≡ take (2 * c.ports) ports)
      (ls_are : ls ≡ take (10 * c.links) links) where
    table_is : table_of ps ls ≡ joined_table first second added
    table_is = read_joined read ps_are ls_are

    pub few_ports : length (ports_of ps) ≤ 64
    few_ports = omega (arith, ap port_count table_is, (joined_writable first second added).few_ports)

    pub links_fit : LinksFit (links_of ls)
    links_fit =
        let w = joined_writable first second added in
        let same = ap (λ (t : Table). t.links) table_is in
        rw same (record {
          few = omega (arith, w.few_links);
          each = λ k h. fits_more most_ports (w.links k h) (omega (arith, w.few_ports));
        })

    pub written_joined : {out out' : List ℕ} {r : JoinOutcome} → JoinReturned (fitted (joined (encode_table (table_of ps ls))) (length out)) out out' r
        → JoinReturned (join_into first second added (length out)) out out' r
    written_joined w = rw read.is (rw table_is at w)
