-- The costs four by four: the numbers of an edge.
use Rattle.std.specs.Prelude.{ℕ, zero, suc, ◌+◌, ◌*◌, ◌<◌, ◌≡◌, List, [], length, get_or, take, drop}
use Rattle.std.specs.Simd.{first_chunks}
use Rattle.std.proofs.Common.{refl, sym, ap, ◌∙◌, arith}
use lib.ListN.{length-drop}
use lib.Seq.{get_or-take, get_or-drop, drop-drop, length-take-le}
use Rattle.rounds.specs.Costs.{count, from_of, to_of, gain_of, loss_of}

-- edge k by itself
pub record Parts (cs : List ℕ) (k : ℕ) (edge : List ℕ) : Type 0 where
  pub an_edge : k < count cs
  pub long : length edge ≡ 4
  pub from : get_or edge 0 0 ≡ from_of cs k
  pub to : get_or edge 1 0 ≡ to_of cs k
  pub gain : get_or edge 2 0 ≡ gain_of cs k
  pub loss : get_or edge 3 0 ≡ loss_of cs k

chunk_is : (n k : ℕ) (cs : List ℕ) → k < n → get_or (first_chunks 4 n cs) k [] ≡ take 4 (drop (4 * k) cs)
chunk_is zero k cs l = absurd (omega arith)
chunk_is (suc n) zero cs l = refl
chunk_is (suc n) (suc k) cs l =
    let e : 4 * suc k ≡ 4 + 4 * k = omega arith in
    chunk_is n k (drop 4 cs) (omega arith) ∙ ap (take 4) (drop-drop (4 * k) 4 cs ∙ ap (λ (i : ℕ). drop i cs) (sym e))

pub parts : {cs : List ℕ} {edges : List (List ℕ)} (k : ℕ) → edges ≡ first_chunks 4 (count cs) cs → k < count cs → Parts cs k (get_or edges k [])
parts {cs} {edges} k e l =
    let at : (j : ℕ) → j < 4 → get_or (get_or edges k []) j 0 ≡ get_or cs (4 * k + j) 0 =
    λ j h. rw (e, chunk_is (count cs) k cs l) (get_or-take 4 (drop (4 * k) cs) j 0 h ∙ get_or-drop (4 * k) cs j 0) in
    let first : 4 * k + 0 ≡ 4 * k = omega arith in
    record {
      an_edge = l;
      long = rw (e, chunk_is (count cs) k cs l) (length-take-le 4 (drop (4 * k) cs) (simp length-drop (omega arith)));
      from = rw first at (at 0 (omega arith));
      to = at 1 (omega arith);
      gain = at 2 (omega arith);
      loss = at 3 (omega arith);
    }
