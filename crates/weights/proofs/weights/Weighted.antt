-- The weights as the ports are passed.
use Prim.Native.Nat.{ℕ, ◌+◌, ◌≤◌, ◌<◌, ◌-◌}
use mathlib.Core.Path.{◌≡◌, refl, ◌∙◌}
use mathlib.Core.List.{List, ◌++◌}
use native.Mathlib.Omega.{arith}
use borrow.Author.Count.{below_more}
use lib.ListN.{length, get_or, set, drop, replicate, length-set, length-replicate, length-append, length-drop, get_or-append, get_or-replicate}
use Rattle.std.proofs.lemmas.List.{get_or-append_right, get_or-drop}
use lib.Seq.{get_or-set_same, get_or-set_other}
use Rattle.exponents.specs.Row.{excess}
use Rattle.exponents.specs.Primes.{prime_at}
use Rattle.numbers.specs.Exponents.{powers}
use Rattle.rounds.specs.StartsLaws.{zeros_at}
use Rattle.specification.specs.Table.{Table, port_count}
use Rattle.forest.specs.PortRows.{row_of}
use Rattle.weights.specs.LeastRows.{LabelledRows, LeastRows}
use Rattle.weights.specs.Weighed.{Weighing, Ones, HasBaseWeights, BaseOverweight}
use Rattle.specification.specs.Ratios.{most_weight}
use Rattle.weights.proofs.weights.Difference.{excess_difference}
use Rattle.weights.proofs.weights.Same.{weights_same}
use Rattle.weights.proofs.weights.Smallest.{weight_of, rows_weights}

pub labelled_rows : {t : Table} {labels : List ℕ} {rows : List (List ℕ)} → Weighing t labels rows → LabelledRows t labels rows
labelled_rows g = record {
  well_formed = g.well_formed;
  components = g.components;
  all = g.port_rows.all;
  each = λ p h. (g.port_rows.near p h).long;
}

-- the weights of the ports below n are stored, none above 10,000
pub record Weighted (t : Table) (labels : List ℕ) (rows least : List (List ℕ)) (n : ℕ) (weights : List ℕ) : Type 0 where
  pub long : length weights ≡ 64
  pub are : (p : ℕ) → p < n → get_or weights p 0 ≡ weight_of labels rows least p
  pub small : (p : ℕ) → p < n → weight_of labels rows least p ≤ most_weight
  pub rest : (p : ℕ) → n ≤ p → get_or weights p 0 ≡ 0

module _ {t : Table} {labels : List ℕ} {rows least : List (List ℕ)} where
  pub weighted_none : Weighted t labels rows least 0 (replicate 64 0)
  weighted_none = record {
    long = refl;
    are = λ p h. absurd (omega arith);
    small = λ p h. absurd (omega arith);
    rest = λ p h. zeros_at 64 p;
  }

  module _ (g : Weighing t labels rows) (l : LeastRows t labels rows (port_count t) least) where
    -- the weight of port p is x
    module _ {p x : ℕ} (h : p < port_count t) (is : x ≡ powers prime_at (excess (row_of least (get_or labels p 0)) (row_of rows p)) 168) where
      is_weight : x ≡ weight_of labels rows least p
      is_weight = is ∙ excess_difference (row_of rows p) (row_of least (get_or labels p 0))

      pub weighted_on : {weights : List ℕ} → Weighted t labels rows least p weights → x ≤ most_weight
          → Weighted t labels rows least (p + 1) (set weights p x)
      weighted_on {weights} s b = record {
        long = length-set weights p x ∙ s.long;
        are = below_more _ p (λ q k. get_or-set_other weights p q x 0 (λ e. omega arith) ∙ s.are q k)
            (get_or-set_same weights p x 0 (omega (arith, s.long, g.well_formed.few_ports)) ∙ is_weight);
        small = below_more _ p s.small (omega (arith, is_weight));
        rest = λ q k. get_or-set_other weights p q x 0 (λ e. omega arith) ∙ s.rest q (omega arith);
      }

    pub weighted_over : {p : ℕ} → p < port_count t
        → most_weight < powers prime_at (excess (row_of least (get_or labels p 0)) (row_of rows p)) 168
        → BaseOverweight t
    weighted_over {p} h more = record {
      w = weight_of labels rows least;
      weights = rows_weights g l;
      at = p;
      a_port = record { below = h };
      passes = rw (excess_difference (row_of rows p) (row_of least (get_or labels p 0))) at more;
    }

    pub weighted_all : {p : ℕ} {weights : List ℕ} → Weighted t labels rows least p weights → p ≡ port_count t → HasBaseWeights t weights
    weighted_all {p} {weights} s h = record {
      long = s.long;
      are = weights_same g.well_formed (λ q i. s.are q (omega (arith, i.below))) (rows_weights g l);
      small = λ q i. omega (arith, s.are q (omega (arith, i.below)), s.small q (omega (arith, i.below)));
      rest = λ q k. s.rest q (omega arith);
    }

-- a front of ones, and zeros behind it
module _ {ports : ℕ} {front zeros : List ℕ} (few : ports ≤ 64) (ones : front ≡ replicate ports 1) (none : zeros ≡ replicate 64 0) where
  front_long : length front ≡ ports
  front_long = rw ones (length-replicate {A = ℕ} ports 1)

  zeros_long : length zeros ≡ 64
  zeros_long = rw none (length-replicate {A = ℕ} 64 0)

  pub ones_filled : Ones ports (front ++ drop ports zeros)
  ones_filled = record {
    long = simp (length-append, length-drop) (omega (arith, front_long, zeros_long));
    one = λ p h. get_or-append front (drop ports zeros) 0 p (omega (arith, front_long)) ∙ rw ones (get_or-replicate ports p 1 0 h);
    rest = λ p h. get_or-append_right front (drop ports zeros) ports p 0 front_long h
        ∙ get_or-drop ports zeros (p - ports) 0
        ∙ rw none (zeros_at 64 (ports + (p - ports)));
  }
