-- Walks of the constraint graph: joining and splitting them, their sums, and the simple cycles in them.
use Rattle.std.specs.Prelude.{ℕ, zero, suc, ◌+◌, ◌*◌, ◌≤◌, ◌<◌, ◌≡◌, refl, ◌⊎◌, List, [], ◌∷◌, ◌++◌, length}
use Rattle.std.proofs.Common.{ap, inl, inr, ⊎_elim, arith, mul-le-mul_right, length-append}
use mathlib.Core.List.Memᴰ.{head as here}
use mathlib.Core.List.Memᴰ.{not-nil}
use mathlib.Core.List.Memᴰ.{tail as there}
use Rattle.std.proofs.lemmas.List.{map-append, length-map}
use Rattle.numbers.specs.Lists.{◌∈◌, sum, Distinct, none, more}
use Rattle.numbers.specs.ListLaws.{lt_or_le, sum_append, sum_bound, distinct_left, member?, pigeonhole}
use Rattle.specification.specs.Periods.{Graph, Walk, stop, step, reached, gain, loss, Meets, Cycle}

module _ {g : Graph} where
  pub join : {p q r : ℕ} {xs ys : List ℕ} → Walk g p q xs → Walk g q r ys → Walk g p r (xs ++ ys)
  join stop w = w
  join (step k m v) w = step k m (join v w)

  pub edges_of_lem : {p q : ℕ} {path : List ℕ} → Walk g p q path → (k : ℕ) → k ∈ path → g.IsEdge k
  edges_of_lem stop k i = elim i [ ]
  edges_of_lem (step j m w) k (here e) = rw e m
  edges_of_lem (step j m w) k (there i) = edges_of_lem w k i

  -- a walk that comes to x is a walk to x and a walk from there
  pub reach : {p q x : ℕ} {path : List ℕ} → Walk g p q path → x ∈ reached g path
      → (k : ℕ) × (xs : List ℕ) × (ys : List ℕ) × (path ≡ k ∷ xs ++ ys) × Walk g p x (k ∷ xs) × Walk g x q ys
  reach stop i = elim i [ ]
  reach (step {path = path} k m w) (here h) = (k, [], path, refl, rw h (step k m stop), rw h w)
  reach (step k m w) (there i) = let (l, xs, ys, s, u, v) = reach w i in (k, l ∷ xs, ys, ap (λ t. k ∷ t) s, step k m u, v)

  pub potential : {a b : ℕ} {S : ℕ → ℕ} {p q : ℕ} {path : List ℕ} → Meets g a b S → Walk g p q path
      → S p + sum (gain g a b) path ≤ S q + sum (loss g a b) path
  potential f stop = omega arith
  potential f (step k m w) = omega (arith, f.holds k m, potential f w)

  pub no_gain : {a b : ℕ} {S : ℕ → ℕ} {p : ℕ} {path : List ℕ} → Meets g a b S → Walk g p p path
      → sum (gain g a b) path ≤ sum (loss g a b) path
  no_gain f w = omega (arith, potential f w)

  -- starts that meet (2) exist only if no cycle is positive
  pub meets_cycles : {a b : ℕ} {S : ℕ → ℕ} → Meets g a b S → (p : ℕ) (path : List ℕ) → Walk g p p path
      → sum (gain g a b) path ≤ sum (loss g a b) path
  meets_cycles f p path w = no_gain f w

-- ---- a walk comes to few ports, unless it comes to one of them twice
pub record Among (g : Graph) (ports : List ℕ) : Type 0 where
  pub from_in : (k : ℕ) → g.IsEdge k → g.from k ∈ ports
  pub to_in : (k : ℕ) → g.IsEdge k → g.to k ∈ ports

module _ {g : Graph} {ports : List ℕ} (among : Among g ports) where
  reached_in : {p q : ℕ} {path : List ℕ} → Walk g p q path → (x : ℕ) → x ∈ reached g path → x ∈ ports
  reached_in stop x i = elim i [ ]
  reached_in (step k m w) x (here e) = rw e (among.to_in k m)
  reached_in (step k m w) x (there i) = reached_in w x i

  pub walk_short : {p q : ℕ} {path : List ℕ} → Walk g p q path → Distinct (p ∷ reached g path) → 0 < length ports → length path < length ports
  walk_short stop d some = some
  walk_short (step {q = q} {path = path} k m w) d some = omega (arith, pigeonhole d seen, length-map path g.to)
    where
      seen : (x : ℕ) → x ∈ (g.from k ∷ reached g (k ∷ path)) → x ∈ ports
      seen x (here e) = rw e (among.from_in k m)
      seen x (there i) = reached_in (step k m w) x i

  pub cycle_short : {path : List ℕ} → Cycle g path → length path ≤ length ports
  cycle_short {path} c = omega (arith, pigeonhole c.simple (reached_in c.closed), length-map path g.to)

  pub cycle_bound : {path : List ℕ} (f : ℕ → ℕ) (b : ℕ) → ((k : ℕ) → g.IsEdge k → f k ≤ b) → Cycle g path → sum f path ≤ length ports * b
  cycle_bound {path} f b h c =
      omega (arith, sum_bound f b path (λ k i. h k (edges_of_lem c.closed k i)), mul-le-mul_right b (cycle_short c))

-- ---- a closed walk that gains has a simple cycle that gains
-- a simple cycle that gains more than it loses, by any two weights
pub record PositiveCycle (g : Graph) (f h : ℕ → ℕ) (path : List ℕ) : Type 0 where
  pub cycle : Cycle g path
  pub positive : sum h path < sum f path

-- a simple cycle on the way of a walk
record Loop (g : Graph) (p q : ℕ) (path : List ℕ) : Type 0 where
  at : ℕ
  before : List ℕ
  first : ℕ
  rest : List ℕ
  after : List ℕ
  whole : path ≡ before ++ ((first ∷ rest) ++ after)
  lead : Walk g p at before
  round : Walk g at at (first ∷ rest)
  out : Walk g at q after
  simple : Distinct (reached g (first ∷ rest))

pub simple_left : (g : Graph) {path : List ℕ} (xs ys : List ℕ) → path ≡ xs ++ ys → Distinct (reached g path) → Distinct (reached g xs)
simple_left g xs ys s d = distinct_left (reached g xs) (reached g ys) (rw (← map-append, ← s) d)

module _ {g : Graph} where
  -- a walk comes to no port twice, or has a loop
  loop? : {p q : ℕ} {path : List ℕ} → Walk g p q path → Distinct (p ∷ reached g path) ⊎ Loop g p q path
  loop? stop = inl (more not-nil none)
  loop? (step {q = q} {path = path} k m w) = go (loop? w)
    where
      here? : Distinct (reached g (k ∷ path)) → Dec (g.from k ∈ reached g (k ∷ path)) → Distinct (g.from k ∷ reached g (k ∷ path)) ⊎ Loop g (g.from k) q (k ∷ path)
      here? d (no new) = inl (more new d)
      here? d (yes i) =
          let (l, xs, ys, s, u, v) = reach (step k m w) i in
          inr (record {
            at = g.from k;
            before = [];
            first = l;
            rest = xs;
            after = ys;
            whole = s;
            lead = stop;
            round = u;
            out = v;
            simple = simple_left g (l ∷ xs) ys s d;
          })

      go : Distinct (g.to k ∷ reached g path) ⊎ Loop g (g.to k) q path → Distinct (g.from k ∷ reached g (k ∷ path)) ⊎ Loop g (g.from k) q (k ∷ path)
      go (inl d) = here? d (member? (g.from k) (reached g (k ∷ path)))
      go (inr l) = inr (record {
        at = l.at;
        before = k ∷ l.before;
        first = l.first;
        rest = l.rest;
        after = l.after;
        whole = ap (λ t. k ∷ t) l.whole;
        lead = step k m l.lead;
        round = l.round;
        out = l.out;
        simple = l.simple;
      })

  end_among : {p q : ℕ} {path : List ℕ} → Walk g p q path → q ∈ (p ∷ reached g path)
  end_among stop = here refl
  end_among (step k m w) = there (end_among w)

  -- a closed walk with an edge comes to its first port again
  never : {p q : ℕ} {path : List ℕ} → Walk g p q path → 0 < length path → p ≡ q → ¬ Distinct (p ∷ reached g path)
  never stop h e d = omega arith
  never (step k m w) h e (more new d) = new (rw (← e) at (end_among w))

module _ (f h : ℕ → ℕ) where
  some_edge : (path : List ℕ) → sum h path < sum f path → 0 < length path
  some_edge [] s = omega arith
  some_edge (k ∷ path) s = omega arith

  module _ {g : Graph} where
    -- the loop gains, or the walk without it does
    shorten : {p : ℕ} {path : List ℕ} → sum h path < sum f path → (l : Loop g p p path)
        → ((c : List ℕ) × PositiveCycle g f h c) ⊎ ((length (l.before ++ l.after) < length path) × (sum h (l.before ++ l.after) < sum f (l.before ++ l.after)))
    shorten s l =
        let around = l.first ∷ l.rest in
        ⊎_elim
        (λ (p : sum h around < sum f around). inl (around, record { cycle = record { at = l.at; closed = l.round; simple = l.simple }; positive = p }))
        (λ (p : sum f around ≤ sum h around). inr (simp (length-append, sum_append) (omega (
          arith,
          simp length-append at (ap length l.whole),
          simp sum_append at (ap (sum f) l.whole),
          simp sum_append at (ap (sum h) l.whole),
        ))))
        (lt_or_le (sum h around) (sum f around))

    simplify : (n : ℕ) {p : ℕ} {path : List ℕ} → length path ≤ n → Walk g p p path → sum h path < sum f path → (c : List ℕ) × PositiveCycle g f h c
    simplify zero {path = path} short w s = absurd (omega (arith, some_edge path s))
    simplify (suc n) {p} {path} short w s = ⊎_elim
        (λ d. absurd (never w (some_edge path s) refl d))
        (λ (l : Loop g p p path). ⊎_elim (λ c. c) (λ t. simplify n (omega arith) (join l.lead l.out) t.1) (shorten s l))
        (loop? w)

    pub closed_has_cycle : {p : ℕ} {path : List ℕ} → Walk g p p path → sum h path < sum f path → (c : List ℕ) × PositiveCycle g f h c
    closed_has_cycle {path = path} w s = simplify (length path) (omega arith) w s
