-- The numbers of a connection are those of its edge.
use Prim.Native.Nat.{ℕ, ◌+◌, ◌*◌, ◌/◌, ◌<◌}
use mathlib.Core.Path.{◌≡◌, sym}
use mathlib.Core.List.{List, []}
use native.Mathlib.Omega.{arith}
use lib.ListN.{length, get_or}
use Rattle.specification.specs.declared.Link.{Link}
use Rattle.specification.specs.Table.{no_link}
use Rattle.period.specs.Component.{graph_of, SmallEdges}
use Rattle.period.specs.Edges.{edges_of, Readable, Weighable, EdgeAt}
use Rattle.period.specs.EdgesLaws.{edges_at, edges_count}

module _ {links : List Link} (weights : List ℕ) {numbers : List ℕ} {i : ℕ} {l : Link} (r : Readable links numbers)
    (small : SmallEdges (graph_of [] [] (edges_of links weights numbers))) (more : i < length numbers) (e : l ≡ get_or links (get_or numbers i 0) no_link) where
  pub read_forward : Weighable l.events.0 (get_or weights l.from 0) l.over
  read_forward = rw e (record {
    over_least = r.over_least i more;
    over_most = r.over_most i more;
    most = rw (sym (edges_at links weights numbers i 4 more (omega arith))) (small.events_forward i (omega (arith, edges_count links weights numbers)));
  })

  pub read_back : Weighable l.events.1 (get_or weights l.from 0) l.over
  read_back = rw e (record {
    over_least = r.over_least i more;
    over_most = r.over_most i more;
    most = rw (sym (edges_at links weights numbers i 5 more (omega arith))) (small.events_back i (omega (arith, edges_count links weights numbers)));
  })

  pub read_edge : {forward back : ℕ} → forward ≡ l.events.0 * get_or weights l.from 0 / l.over → back ≡ l.events.1 * get_or weights l.from 0 / l.over
      → EdgeAt (edges_of links weights numbers) i (record { from = l.from; to = l.to; ticks = l.ticks; events = (forward, back) })
  read_edge f b =
      let at = edges_at links weights numbers i in
      let first : 6 * i + 0 ≡ 6 * i = omega arith in
      rw (f, b, e) (record {
        from = sym (rw first at (at 0 more (omega arith)));
        to = sym (at 1 more (omega arith));
        ticks_forward_lem = sym (at 2 more (omega arith));
        ticks_back_lem = sym (at 3 more (omega arith));
        events_forward = sym (at 4 more (omega arith));
        events_back = sym (at 5 more (omega arith));
      })
