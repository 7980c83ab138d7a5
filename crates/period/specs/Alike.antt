-- Two graphs with the same edges, ends and weights: what holds of one's cycles and rounds holds of the other's.
use Rattle.std.specs.Prelude.{ℕ, ◌≡◌, refl, List, [], ◌∷◌, map}
use Rattle.std.proofs.Common.{ap, arith}
use mathlib.Core.List.Memᴰ.{head as here}
use mathlib.Core.List.Memᴰ.{tail as there}
use Rattle.numbers.specs.Lists.{◌∈◌, sum}
use Rattle.specification.specs.Periods.{Graph, Walk, stop, step}
use Rattle.rounds.specs.Walks.{edges_of_lem, PositiveCycle}
use Rattle.rounds.specs.Rounds.{IsRound, Rows}

-- edge k has the same ends and the same weights in both
pub record SameEdge (g g' : Graph) (f h f' h' : ℕ → ℕ) (k : ℕ) : Type 0 where
  pub from : g.from k ≡ g'.from k
  pub to : g.to k ≡ g'.to k
  pub gain : f k ≡ f' k
  pub loss : h k ≡ h' k

pub record Alike (g g' : Graph) (f h f' h' : ℕ → ℕ) : Type 0 where
  pub edge : (k : ℕ) → g.IsEdge k → g'.IsEdge k
  pub back : (k : ℕ) → g'.IsEdge k → g.IsEdge k
  pub same : (k : ℕ) → g.IsEdge k → SameEdge g g' f h f' h' k

sum_same : (f f' : ℕ → ℕ) (xs : List ℕ) → ((x : ℕ) → x ∈ xs → f x ≡ f' x) → sum f xs ≡ sum f' xs
sum_same f f' [] e = refl
sum_same f f' (x ∷ xs) e = omega (arith, e x (here refl), sum_same f f' xs (λ y m. e y (there m)))

map_same : (f f' : ℕ → ℕ) (xs : List ℕ) → ((x : ℕ) → x ∈ xs → f x ≡ f' x) → map f xs ≡ map f' xs
map_same f f' [] e = refl
map_same f f' (x ∷ xs) e = rw (e x (here refl), map_same f f' xs (λ y m. e y (there m)))

module _ {g g' : Graph} {f h f' h' : ℕ → ℕ} (alike : Alike g g' f h f' h') where
  alike_walk : {p q : ℕ} {path : List ℕ} → Walk g p q path → Walk g' p q path
  alike_walk stop = stop
  alike_walk (step k m w) =
      let s = alike.same k m in
      rw s.from (step k (alike.edge k m) (rw s.to at (alike_walk w)))

  pub alike_cycle : {path : List ℕ} → PositiveCycle g f h path → PositiveCycle g' f' h' path
  alike_cycle {path} p =
      let edges = edges_of_lem p.cycle.closed in
      record {
        cycle = record {
          at = p.cycle.at;
          closed = alike_walk p.cycle.closed;
          simple = rw (map_same g.to g'.to path (λ k m. (alike.same k (edges k m)).to)) at p.cycle.simple;
        };
        positive = omega (
          arith,
          p.positive,
          sum_same f f' path (λ k m. (alike.same k (edges k m)).gain),
          sum_same h h' path (λ k m. (alike.same k (edges k m)).loss),
        );
      }

  alike_round : {s t : ℕ → ℕ} → IsRound g.IsEdge g.from g.to f h s t → IsRound g'.IsEdge g'.from g'.to f' h' s t
  alike_round {s} {t} r = record {
    grows = r.grows;
    dominates = λ k m.
        let e = alike.same k (alike.back k m) in
        omega (arith, r.dominates k (alike.back k m), ap s e.from, ap t e.to, e.gain, e.loss);
    attained = λ j l.
        let (k, m, to, tight) = r.attained j l in
        let e = alike.same k m in
        (k, alike.edge k m, rw e.to at to, omega (arith, ap s e.from, e.gain, e.loss));
  }

  pub alike_rows : {last : ℕ} {row : ℕ → ℕ → ℕ} → Rows g f h last row → Rows g' f' h' last row
  alike_rows rows = record { start = rows.start; next = λ r l. alike_round (rows.next r l) }
