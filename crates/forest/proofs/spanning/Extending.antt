-- A port reached over a link: the forest with it still spreads.
use Prim.Native.Nat.{ℕ, ◌+◌, ◌*◌, ◌≤◌, ◌<◌}
use mathlib.Core.Path.{◌≡◌, sym, ◌∙◌}
use mathlib.Core.Logic.{◌≢◌, ⊎_elim}
use mathlib.Core.List.{List, []}
use native.Mathlib.Decide.{ℕ_discrete}
use native.Mathlib.Omega.{arith}
use lib.ListN.{get_or, set, length-set}
use lib.Seq.{get_or-set_same, get_or-set_other}
use Rattle.exponents.specs.Primes.{prime_at}
use Rattle.specification.specs.Table.{Table, IsPort, IsLink, from, to}
use Rattle.specification.specs.Ratios.{Component}
use Rattle.forest.specs.Forest.{HasEnds}
use Rattle.forest.specs.PortRows.{row_of, value_of, Fits, Near, PartsAtMost}
use Rattle.forest.specs.declared.spanning.Growing.{Growing}
use Rattle.forest.specs.Spreading.{entered, Child, Spreading, Extended}
use Rattle.forest.proofs.spanning.Numbers.{numbered_on, number_new, reached_other, reached_kept}

-- a link fits as before where neither end's row changed
fits_kept : {t : Table} {rows : List (List ℕ)} {k q : ℕ} (row : List ℕ) → from t k ≢ q → to t k ≢ q → Fits t rows k
    → Fits t (set rows q row) k
fits_kept {t} {rows} {k} {q} row a b h = record {
  fits = rw (get_or-set_other rows q (to t k) row [] b, get_or-set_other rows q (from t k) row [] a) h.fits;
}

-- what neither end of a link is
record NeitherEnd (t : Table) (k r : ℕ) : Type 0 where
  source : from t k ≢ r
  target : to t k ≢ r

ends_other : (t : Table) (k p q r : ℕ) → HasEnds t k p q → p ≢ r → q ≢ r → NeitherEnd t k r
ends_other t k p q r e a b =
    ⊎_elim (λ x. record { source = λ d. a (sym x.0 ∙ d); target = λ d. b (sym x.1 ∙ d) })
    (λ x. record { source = λ d. b (sym x.1 ∙ d); target = λ d. a (sym x.0 ∙ d) }) e

-- link k has the ends p and q, the parts of its ratio are `times` and `by`, and rows fit it where q's times `by` is p's times `times`
pub record LinkEnds (t : Table) (k p q times by : ℕ) : Type 0 where
  pub a_link : IsLink t k
  pub one : IsPort t p
  pub one_below : p < 64
  pub other_below : q < 64
  pub ends : HasEnds t k q p
  pub times_most : (m : ℕ) → PartsAtMost t m → times ≢ by → times ≤ m
  pub by_most : (m : ℕ) → PartsAtMost t m → times ≢ by → by ≤ m
  pub fits : (rows : List (List ℕ)) → value_of rows q * by ≡ value_of rows p * times → Fits t rows k

module _ {t : Table} {f f' : Growing} {rows rows' : List (List ℕ)} {k p q times by : ℕ} (s : Spreading t f rows) (l : LinkEnds t k p q times by) (x : Extended f rows p q k times by f' rows') where
  -- a port that was reached keeps its number
  kept : (r : ℕ) → 0 < get_or f.reach r 0 → get_or (set f.reach q (f.count + 1)) r 0 ≡ get_or f.reach r 0
  kept r h = reached_kept f.reach q x.new r (f.count + 1) h

  newest : get_or (set f.reach q (f.count + 1)) q 0 ≡ f.count + 1
  newest = number_new f.reach q x.new s.numbered l.other_below

  new_row : row_of (set rows q x.row_made.row) q ≡ x.row_made.row
  new_row = get_or-set_same rows q x.row_made.row [] (omega (arith, s.rows_long, l.other_below))

  apart : p ≢ q
  apart = reached_other f.reach q x.new p x.reached

  near_new : Near x.row_made.row (f.count + 1)
  near_new =
      let n : Near (row_of rows p) (get_or f.reach p 0) = s.near p l.one_below in
      record {
        long = x.row_made.long;
        low = λ i h. omega (arith, n.low i h, x.row_made.low i h, s.numbered.within p);
        high = λ i h. omega (arith, n.high i h, x.row_made.high i h, s.numbered.within p);
      }

  near_on : (r : ℕ) → r < 64 → Dec (r ≡ q) → Near (row_of (set rows q x.row_made.row) r) (get_or (set f.reach q (f.count + 1)) r 0)
  near_on r h (yes e) = rw (e, new_row, newest) near_new
  near_on r h (no d) =
      rw (get_or-set_other rows q r x.row_made.row [] d, get_or-set_other f.reach q r (f.count + 1) 0 d) (s.near r h)

  -- above every part of a ratio q has the exponents of p
  up_to_on : {m : ℕ} → PartsAtMost t m → (r i : ℕ) → r < 64 → i < 168 → m < prime_at i → Dec (r ≡ q)
      → get_or (row_of (set rows q x.row_made.row) r) i 0 ≡ 1000
  up_to_on {m} most r i h a b (yes e) =
      rw (e, new_row) (x.row_made.above m i (l.times_most m most) (l.by_most m most) a b ∙ (s.up_to m most).zero p i l.one_below a b)
  up_to_on {m} most r i h a b (no d) = rw (get_or-set_other rows q r x.row_made.row [] d) ((s.up_to m most).zero r i h a b)

  root_on : (r c : ℕ) → IsPort t r → Component t r c → 0 < get_or (set f.reach q (f.count + 1)) c 0
  root_on r c i m = rw (kept c (s.root r c i m)) (s.root r c i m)

  first_on : (r c : ℕ) → IsPort t r → Component t r c → Dec (r ≡ q) → 0 < get_or (set f.reach q (f.count + 1)) r 0
      → get_or (set f.reach q (f.count + 1)) c 0 ≤ get_or (set f.reach q (f.count + 1)) r 0
  first_on r c i m (yes e) h = rw (e, newest, kept c (s.root r c i m)) (omega (arith, s.numbered.within c))
  first_on r c i m (no d) h =
      let same = get_or-set_other f.reach q r (f.count + 1) 0 d in
      rw (same, kept c (s.root r c i m)) (s.root_first r c i m (rw same at h))

  -- q is a child of p
  child_new : Child t (entered f q k) (set rows q x.row_made.row) q
  child_new =
      let over : get_or (set f.via q k) q 0 ≡ k = get_or-set_same f.via q k 0 (omega (arith, s.via_long, l.other_below)) in
      record {
        parent = p;
        a_port = l.one;
        a_link = rw over l.a_link;
        ends = rw over l.ends;
        parent_reached = rw (kept p x.reached) x.reached;
        earlier = rw (kept p x.reached, newest) (omega (arith, s.numbered.within p));
        fits = rw over (l.fits (set rows q x.row_made.row) (rw (new_row, get_or-set_other rows q p x.row_made.row [] apart) x.row_made.value));
      }

  -- another child is one as before
  child_kept : (r : ℕ) → r ≢ q → 0 < get_or f.reach r 0 → Child t f rows r → Child t (entered f q k) (set rows q x.row_made.row) r
  child_kept r d h c =
      let over : get_or (set f.via q k) r 0 ≡ get_or f.via r 0 = get_or-set_other f.via q r k 0 d in
      let neither = ends_other t (get_or f.via r 0) r c.parent q c.ends d (reached_other f.reach q x.new c.parent c.parent_reached) in
      record {
        parent = c.parent;
        a_port = c.a_port;
        a_link = rw over c.a_link;
        ends = rw over c.ends;
        parent_reached = rw (kept c.parent c.parent_reached) c.parent_reached;
        earlier = rw (kept c.parent c.parent_reached, kept r h) c.earlier;
        fits = rw over (fits_kept x.row_made.row neither.source neither.target c.fits);
      }

  child_on : (r : ℕ) → IsPort t r → Dec (r ≡ q) → 0 < get_or (set f.reach q (f.count + 1)) r 0 → ¬ Component t r r
      → Child t (entered f q k) (set rows q x.row_made.row) r
  child_on r i (yes e) h other = rw e child_new
  child_on r i (no d) h other =
      let before = rw (get_or-set_other f.reach q r (f.count + 1) 0 d) at h in
      child_kept r d before (s.child r i before other)

  pub extended_spreading : Spreading t f' rows'
  extended_spreading = rw (x.made, x.row_made.rows_made) (record {
    numbered = numbered_on f.reach q x.new s.numbered l.other_below;
    via_long = length-set f.via q k ∙ s.via_long;
    rows_long = length-set rows q x.row_made.row ∙ s.rows_long;
    near = λ r h. near_on r h (ℕ_discrete r q);
    root = root_on;
    root_first = λ r c i m. first_on r c i m (ℕ_discrete r q);
    child = λ r i. child_on r i (ℕ_discrete r q);
    up_to = λ m most. record { zero = λ r i h a b. up_to_on most r i h a b (ℕ_discrete r q) };
  })
