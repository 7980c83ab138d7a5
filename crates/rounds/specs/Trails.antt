-- Trails: the walk back through the rows from a start that grows, and the positive cycle in it.
use Rattle.std.specs.Prelude.{ℕ, zero, suc, ◌+◌, ◌-◌, ◌≤◌, ◌<◌, ◌≡◌, List, [], ◌∷◌, length, get_or, take, drop}
use Rattle.std.proofs.Common.{sym, ap, arith, length-take, take-append-drop}
use mathlib.Core.List.Memᴰ.{not-nil}
use Rattle.std.proofs.Math.Numerals.{unary_clauses}
use Rattle.std.proofs.lemmas.List.{length-map}
use Rattle.numbers.specs.Lists.{◌∈◌, sum, Distinct, none, more}
use Rattle.numbers.specs.ListLaws.{member?, position}
use Rattle.specification.specs.Periods.{Graph, Walk, stop, step, reached}
use Rattle.rounds.specs.Walks.{Among, walk_short, simple_left, PositiveCycle}
use Rattle.rounds.specs.Rounds.{Rows}

-- a walk in which each edge takes a row to the next, tight, to a port that grows there
pub data Trail (g : Graph) (f h : ℕ → ℕ) (row : ℕ → ℕ → ℕ) : ℕ → ℕ → ℕ → ℕ → List ℕ → Type 0 where
  rest : {i p : ℕ} → Trail g f h row i p i p []
  climb : {i l q : ℕ} {path : List ℕ} (k : ℕ) → g.IsEdge k → row i (g.to k) < row (suc i) (g.to k)
      → row i (g.from k) + f k ≡ row (suc i) (g.to k) + h k → Trail g f h row (suc i) (g.to k) l q path → Trail g f h row i (g.from k) l q (k ∷ path)

module _ {g : Graph} {f h : ℕ → ℕ} {row : ℕ → ℕ → ℕ} where
  pub walked : {i p l q : ℕ} {path : List ℕ} → Trail g f h row i p l q path → Walk g p q path
  walked rest = stop
  walked (climb k m gr t v) = step k m (walked v)

  pub tight : {i p l q : ℕ} {path : List ℕ} → Trail g f h row i p l q path → row i p + sum f path ≡ row l q + sum h path
  tight rest = omega arith
  tight (climb k m gr t v) = omega (arith, tight v)

  rows_long : {i p l q : ℕ} {path : List ℕ} → Trail g f h row i p l q path → i + length path ≡ l
  rows_long rest = omega arith
  rows_long (climb k m gr t v) = omega (arith, rows_long v)

  -- one step back, along a tight edge into the port where the trail starts
  pub trail_back : {r p l q k : ℕ} {path : List ℕ} → Trail g f h row (suc r) p l q path → row r p < row (suc r) p
      → g.IsEdge k → g.to k ≡ p → row r (g.from k) + f k ≡ row (suc r) p + h k → Trail g f h row r (g.from k) l q (k ∷ path)
  trail_back {r} {k = k} v gr m e t = climb {i = r} k m (rw e gr) (rw e t) (rw (← e) at v)

  -- the trail up to the m-th port that it comes to
  front : {i p l q : ℕ} {path : List ℕ} → Trail g f h row i p l q path → (m : ℕ) → m < length path
      → (n : ℕ) × (n ≤ l) × Trail g f h row i p n (get_or (reached g path) m 0) (take (suc m) path)
  front rest m s = absurd (omega arith)
  front {i} (climb k e gr t v) zero s = (suc i, omega (arith, rows_long v), climb k e gr t rest)
  front (climb k e gr t v) (suc m) s = let (n, b, u) = front v m (omega arith) in (n, b, climb k e gr t u)

  pub trail_crowded : {ports : List ℕ} {i p l q : ℕ} {path : List ℕ} → Among g ports → 0 < length ports → Trail g f h row i p l q path
      → Distinct (p ∷ reached g path) → length path < length ports
  trail_crowded among some v d = walk_short among (walked v) d some

  module _ {last : ℕ} (rows : Rows g f h last row) where
    -- the port that the step back comes to grows in the row before
    pub trail_grows : {r p k : ℕ} → r < last → row (suc r) p < row (suc (suc r)) p
        → g.IsEdge k → g.to k ≡ p → row (suc r) (g.from k) + f k ≡ row (suc (suc r)) p + h k → row r (g.from k) < row (suc r) (g.from k)
    trail_grows {r} {p} {k} b gr m e t = omega (arith, (rows.next r b).dominates k m, ap (row (suc r)) e)

    -- the port where a trail ends has grown since the trail began
    grown : {i p l q : ℕ} {path : List ℕ} → l ≤ last → row i p < row (suc i) p → Trail g f h row (suc i) p l q path → row i q < row l q
    grown b s rest = s
    grown {i} {q = q} b s (climb k m gr t v) = omega (arith, (rows.next i (omega (arith, rows_long v))).grows q, grown b gr v)

    risen : {i p l q : ℕ} {path : List ℕ} → l ≤ last → 0 < length path → Trail g f h row i p l q path → row i q < row l q
    risen b s rest = absurd (omega arith)
    risen b s (climb k m gr t v) = grown b gr v

    -- a trail that comes back to the port where it starts has gained
    pub trail_cycle : {i x l q : ℕ} {path : List ℕ} → l ≤ last → Trail g f h row i x l q path → Distinct (reached g path)
        → (m : ℕ) → 0 < m → m ≤ length path → get_or (reached g path) (m - 1) 0 ≡ x → PositiveCycle g f h (take m path)
    trail_cycle b v d zero s c e = absurd (omega arith)
    trail_cycle {i} {x} {path = path} b v d (suc m) s c e =
        let (n, below, u) = front v m c in
        let w : Trail g f h row i x n x (take (suc m) path) = rw (simp unary_clauses at e) at u in
        record {
          cycle = record { at = x; closed = walked w; simple = simple_left g (take (suc m) path) (drop (suc m) path) (sym (take-append-drop (suc m) path)) d };
          positive = omega (arith, tight w, risen (omega arith) (omega (arith, length-take (suc m) path)) w);
        }

    -- a trail starts at a port that it comes to again, or goes on back
    turn : {i x l q : ℕ} {path : List ℕ} → l ≤ last → Trail g f h row i x l q path → Distinct (reached g path)
        → (Distinct (x ∷ reached g path) → (c : List ℕ) × PositiveCycle g f h c) → (c : List ℕ) × PositiveCycle g f h c
    turn {x = x} {path = path} b v d on = go (member? x (reached g path))
      where
        go : Dec (x ∈ reached g path) → (c : List ℕ) × PositiveCycle g f h c
        go (yes k) = let (m, s, e) = position k in (take (suc m) path, trail_cycle b v d (suc m) (omega arith) (omega (arith, length-map path g.to)) (simp unary_clauses e))
        go (no new) = on (more new d)

    -- back from row r + 1, until a port comes twice
    descend : {ports : List ℕ} → Among g ports → 0 < length ports → (r : ℕ) {p l q : ℕ} {path : List ℕ} → l ≤ last → length ports ≤ l → row r p < row (suc r) p
        → Trail g f h row (suc r) p l q path → Distinct (p ∷ reached g path) → (c : List ℕ) × PositiveCycle g f h c
    descend among some zero {p} b long gr v d =
        let (k, m, e, t) = (rows.next 0 (omega (arith, rows_long v))).attained p gr in
        let u = trail_back v gr m e t in
        turn b u (rw e d) (λ new. absurd (omega (arith, trail_crowded among some u new, rows_long u)))
    descend among some (suc r) {p} b long gr v d =
        let in_rows : suc r < last = omega (arith, rows_long v) in
        let (k, m, e, t) = (rows.next (suc r) in_rows).attained p gr in
        let u = trail_back v gr m e t in
        turn b u (rw e d) (λ new. descend among some r b long (trail_grows (omega arith) gr m e t) u new)

    -- behind a port that still grows in row n, of n ports, lies a positive cycle
    pub positive_cycle : {ports : List ℕ} → Among g ports → {r j : ℕ} → r < last → length ports ≤ suc r → row r j < row (suc r) j → (c : List ℕ) × PositiveCycle g f h c
    positive_cycle among {r} {j} b long gr =
        let (k, m, e, t) = (rows.next r b).attained j gr in
        let (i, some, same) = position (among.to_in k m) in
        descend among (omega arith) r b long gr rest (more not-nil none)
