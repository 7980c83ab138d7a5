-- The models A to K of document 01, some with ports without a rate and some with parts of an event, and the answers that the definitions
-- give them.
use Prim.Native.Nat.{ℕ, suc, ◌+◌, ◌*◌, ◌≤◌, ◌<◌}
use mathlib.Core.Path.{◌≡◌, refl, sym, ap, subst, ◌∙◌}
use mathlib.Core.Bool.{true, false, true≢false}
use mathlib.Core.List.{List, [], ◌∷◌}
use native.Mathlib.Nat.{mul-le-mul_right}
use native.Mathlib.Omega.{arith}
use lib.ListN.{get_or}
use Rattle.numbers.specs.DivisorLaws.{divides_all_one}
use Rattle.numbers.specs.Rationals.{Rational, ◌≼◌, ◌≈◌, ◌⊕◌, ◌·◌, whole}
use Rattle.specification.specs.declared.Ticks.{Ticks}
use Rattle.specification.specs.declared.Events.{Events}
use Rattle.specification.specs.declared.Port.{Port}
use Rattle.specification.specs.declared.Link.{Link}
use Rattle.specification.specs.Table.{Table, port, link, is_buffer, IsConnection, from, to}
use Rattle.specification.specs.Ratios.{Step, stay, walk}
use Rattle.specification.specs.Answers.{
  Timing,
  period_of,
  start_of,
  rate,
  cycle,
  zero_floor,
  Answer,
  disagreeing,
  overweight,
  blocked,
  no_least,
  consistent,
  Right,
}
use Rattle.specification.specs.declared.Needed.{Needed}
use Rattle.specification.specs.declared.Needed.TheVariants.{Nothing, Exact, PartOver}
use Rattle.specification.specs.Sizes.{IsNeeded, needed_delay}
use Rattle.specification.specs.Solutions.{ε}
use Rattle.specification.specs.Chains.{WaitsFor, Chain, first, spacing, free_spacing, connection, buffer as along_buffer, Bounded}
use Rattle.demands.specs.WaitLaws.{waits_whole}
use Rattle.demands.proofs.Tests.{distinct_is, consistent_by, blocked_by, blocked_from_zero_by, no_least_by, overweight_by}

record Model : Type 0 where
  ports : List Port
  links : List Link
  answer : Answer

-- a port of rate num / den
abbrev rated : ℕ → ℕ → Port
rated num den = record { num = num; den = den }

abbrev one : Port
one = rated 1 1

-- a port without a rate
abbrev rateless : Port
rateless = rated 0 0

-- a connection with the ratio num / den; ε and δ are each an amount forward and an amount back
abbrev geared : (from to num den : ℕ) → Ticks → Events → Link
geared from to num den ε δ = record { from = from; to = to; num = num; den = den; ticks = ε; events = δ; over = 1; kind = 2 }

-- the same with δ divided by over
abbrev parted : (from to num den : ℕ) → Ticks → Events → (over : ℕ) → Link
parted from to num den ε δ over = record { from = from; to = to; num = num; den = den; ticks = ε; events = δ; over = over; kind = 4 }

-- a connection with the ratio 1/1
abbrev plain : (from to : ℕ) → Ticks → Events → Link
plain from to ε δ = geared from to 1 1 ε δ

abbrev buffer : (from to : ℕ) → Ticks → Link
buffer from to ε = record { from = from; to = to; num = 1; den = 1; ticks = ε; events = (0, 0); over = 1; kind = 3 }

-- one component: weights and starts by port, sizes by link
abbrev timed : (weights : List ℕ) (a b : ℕ) → 0 < b → (starts sizes : List ℕ) → Timing
timed weights a b over starts sizes = record {
  component = λ p. 0;
  weight = λ p. get_or weights p 0;
  a = λ p. a;
  b = λ p. b;
  over = λ p. over;
  start = λ p. get_or starts p 0;
  size = λ k. get_or sizes k 0;
}

abbrev along : ℕ → Step
along k = record { number = k; against = false }

abbrev against : ℕ → Step
against k = record { number = k; against = true }

-- ---- the table
infix 40 ◌gives◌
◌gives◌ : List Port × List Link → Answer → Model
(ports, links) gives answer = record { ports = ports; links = links; answer = answer }

-- the period is 3/2, the starts 0 and 3
a_timing : Timing
a_timing = timed (1 ∷ 1 ∷ []) 3 2 (omega arith) (0 ∷ 6 ∷ []) (0 ∷ 0 ∷ 5 ∷ [])

A : Model
A =
    (one ∷ one ∷ [], plain 0 1 (3, 0) (0, 0) ∷ plain 1 0 (0, 0) (0, 2) ∷ buffer 1 0 (4, 0) ∷ [])
    gives consistent a_timing

-- the period is 3, the starts 0 and 2; the buffers need the delays −10, 0, 6 and 7
sized_timing : Timing
sized_timing = timed (1 ∷ 1 ∷ []) 3 1 (omega arith) (0 ∷ 2 ∷ []) (0 ∷ 0 ∷ 0 ∷ 2 ∷ 3 ∷ [])

sized : Model
sized = (
  rated 1 3 ∷ rated 1 3 ∷ [],
  plain 0 1 (2, 0) (0, 0) ∷ buffer 1 0 (0, 12) ∷ buffer 1 0 (0, 2) ∷ buffer 1 0 (4, 0) ∷ buffer 1 0 (5, 0) ∷ [],
)
    gives consistent sized_timing

I : Model
I =
    (one ∷ one ∷ [], plain 0 1 (0, 0) (0, 0) ∷ geared 0 1 2 1 (0, 0) (0, 0) ∷ [])
    gives disagreeing (along 1 ∷ against 0 ∷ [])

-- δ is −1/2, so the weight is 2; the period is 2
half : Model
half =
    (one ∷ [], parted 0 0 1 1 (1, 0) (0, 1) 2 ∷ [])
    gives consistent (timed (2 ∷ []) 1 1 (omega arith) (0 ∷ []) [])

models : List Model
models =
    A
    -- B
    ∷ ((one ∷ one ∷ [], plain 0 1 (3, 0) (0, 0) ∷ plain 1 0 (0, 3) (0, 0) ∷ [])
    gives consistent (timed (1 ∷ 1 ∷ []) 1 1 (omega arith) (0 ∷ 3 ∷ []) []))
    -- C
    ∷ ((one ∷ one ∷ [], plain 0 1 (3, 0) (0, 0) ∷ plain 1 0 (0, 2) (0, 0) ∷ [])
    gives blocked (rate 0) (0 ∷ 1 ∷ []))
    -- D
    ∷ ((rated 1 5 ∷ [], plain 0 0 (0, 5) (1, 0) ∷ [])
    gives consistent (timed (1 ∷ []) 5 1 (omega arith) (0 ∷ []) []))
    -- E
    ∷ ((rated 1 6 ∷ [], plain 0 0 (0, 5) (1, 0) ∷ [])
    gives blocked (rate 0) (0 ∷ []))
    -- F
    ∷ ((one ∷ [], plain 0 0 (7, 0) (0, 1) ∷ plain 0 0 (0, 5) (1, 0) ∷ [])
    gives blocked (cycle (0 ∷ [])) (1 ∷ []))
    -- G
    ∷ ((one ∷ [], plain 0 0 (7, 0) (0, 1) ∷ plain 0 0 (0, 7) (1, 0) ∷ [])
    gives consistent (timed (1 ∷ []) 7 1 (omega arith) (0 ∷ []) []))
    -- H: periods 4 and 2
    ∷ ((rated 1000 1 ∷ rated 1000 1 ∷ [], geared 0 1 2 1 (1, 0) (0, 0) ∷ geared 1 0 1 2 (1, 0) (0, 1) ∷ [])
    gives consistent (timed (2 ∷ 1 ∷ []) 2 1 (omega arith) (0 ∷ 1 ∷ []) []))
    ∷ I
    -- J
    ∷ ((one ∷ one ∷ one ∷ [], geared 0 1 1000 1 (0, 0) (0, 0) ∷ geared 1 2 10 1 (0, 0) (0, 0) ∷ [])
    gives consistent (timed (10000 ∷ 10 ∷ 1 ∷ []) 1 1 (omega arith) (0 ∷ 0 ∷ 0 ∷ []) []))
    -- K
    ∷ ((one ∷ one ∷ one ∷ [], geared 0 1 1000 1 (0, 0) (0, 0) ∷ geared 1 2 11 1 (0, 0) (0, 0) ∷ [])
    gives overweight)
    -- A without rates: the period is still that of the cycle
    ∷ ((rateless ∷ rateless ∷ [], plain 0 1 (3, 0) (0, 0) ∷ plain 1 0 (0, 0) (0, 2) ∷ buffer 1 0 (4, 0) ∷ [])
    gives consistent a_timing)
    -- F without a rate
    ∷ ((rateless ∷ [], plain 0 0 (7, 0) (0, 1) ∷ plain 0 0 (0, 5) (1, 0) ∷ [])
    gives blocked (cycle (0 ∷ [])) (1 ∷ []))
    -- positive at every period above zero; the first not at zero
    ∷ ((rateless ∷ [], plain 0 0 (0, 0) (1, 0) ∷ [])
    gives blocked zero_floor (0 ∷ []))
    ∷ ((rateless ∷ [], plain 0 0 (1, 0) (0, 0) ∷ [])
    gives blocked zero_floor (0 ∷ []))
    -- the period is 1/1000
    ∷ ((rateless ∷ [], plain 0 0 (1, 0) (0, 1000) ∷ [])
    gives consistent (timed (1 ∷ []) 1 1000 (omega arith) (0 ∷ []) []))
    -- the one rate is the floor of both
    ∷ ((rateless ∷ one ∷ [], plain 0 1 (0, 0) (0, 0) ∷ [])
    gives consistent (timed (1 ∷ 1 ∷ []) 1 1 (omega arith) (0 ∷ 0 ∷ []) []))
    -- periods but no least: no cycle; zero at every period; below zero at every period; not above zero up to 1/1000
    ∷ ((rateless ∷ [], []) gives no_least)
    ∷ ((rateless ∷ [], plain 0 0 (0, 0) (0, 0) ∷ []) gives no_least)
    ∷ ((rateless ∷ [], plain 0 0 (0, 0) (0, 1) ∷ []) gives no_least)
    ∷ ((rateless ∷ [], plain 0 0 (0, 1) (1000, 0) ∷ []) gives no_least)
    ∷ sized
    ∷ half
    -- δ 1/2 leaves the weight 2, so nothing is scaled; the periods are 4 and 2
    ∷ ((rated 1000 1 ∷ rated 1000 1 ∷ [], parted 0 1 2 1 (1, 0) (1, 0) 2 ∷ geared 1 0 1 2 (1, 0) (0, 2) ∷ [])
    gives consistent (timed (2 ∷ 1 ∷ []) 2 1 (omega arith) (0 ∷ 3 ∷ []) []))
    -- D with the δ 2/2
    ∷ ((rated 1 5 ∷ [], parted 0 0 1 1 (0, 5) (2, 0) 2 ∷ [])
    gives consistent (timed (1 ∷ []) 5 1 (omega arith) (0 ∷ []) []))
    -- the weights 10,000 and 5,000 times 2
    ∷ ((one ∷ one ∷ [], geared 0 1 2 1 (0, 0) (0, 0) ∷ parted 1 1 1 1 (0, 0) (0, 1) 10000 ∷ [])
    gives overweight)
    ∷ []

-- ---- the lemma
abbrev table_in : Model → Table
table_in m = record { ports = m.ports; links = m.links }

data EachRight : List Model → Type 0 where
  end : EachRight []
  also : {m : Model} {ms : List Model} → Right (table_in m) m.answer → EachRight ms → EachRight (m ∷ ms)

i_right : Right (table_in I) I.answer
unfolding I ◌gives◌
i_right = record {
  at = 0;
  way = walk (along 1) (record { below = omega arith }) (walk (against 0) (record { below = omega arith }) stay);
  ports = distinct_is (1 ∷ 0 ∷ []) tt;
  links = distinct_is (1 ∷ 0 ∷ []) tt;
  unequal = λ e. omega (arith, e);
}

-- a floor, or weights and a/b at the floor, show what the tests compute; at 17 an a/b that is possible with all below it
models_right : EachRight models
unfolding models A a_timing I sized sized_timing half ◌gives◌
models_right =
    also (consistent_by (cycle (0 ∷ 1 ∷ [])) tt)
    (also (consistent_by (rate 0) tt)
    (also (blocked_by (λ p. 1) 1 1 tt)
    (also (consistent_by (rate 0) tt)
    (also (blocked_by (λ p. 1) 6 1 tt)
    (also (blocked_by (λ p. 1) 7 1 tt)
    (also (consistent_by (cycle (0 ∷ [])) tt)
    (also (consistent_by (cycle (0 ∷ 1 ∷ [])) tt)
    (also i_right
    (also (consistent_by (rate 2) tt)
    (also (overweight_by (λ p. get_or (11000 ∷ 11 ∷ 1 ∷ []) p 0) tt)
    (also (consistent_by (cycle (0 ∷ 1 ∷ [])) tt)
    (also (blocked_by (λ p. 1) 7 1 tt)
    (also (blocked_from_zero_by (λ p. 1) tt)
    (also (blocked_from_zero_by (λ p. 1) tt)
    (also (consistent_by (cycle (0 ∷ [])) tt)
    (also (consistent_by (rate 1) tt)
    (also (no_least_by (λ p. 1) 1 1 tt)
    (also (no_least_by (λ p. 1) 1 1 tt)
    (also (no_least_by (λ p. 1) 1 1 tt)
    (also (no_least_by (λ p. 1) 1 1000 tt)
    (also (consistent_by (rate 0) tt)
    (also (consistent_by (cycle (0 ∷ [])) tt)
    (also (consistent_by (cycle (0 ∷ 1 ∷ [])) tt)
    (also (consistent_by (rate 0) tt)
    (also (overweight_by (λ p. get_or (20000 ∷ 10000 ∷ []) p 0) tt)
    end)))))))))))))))))))))))))

-- ---- model A: event 4 of port 1 is reached at 9, and is allowed until 9
a_chain : (time : Rational) × Chain (table_in A) a_timing.size 1 4 time × (time ≈ whole 9)
unfolding A a_timing ◌gives◌
a_chain = (
  _,
  connection 0 4 zeroth (connection 1 4 other (connection 0 2 zeroth (connection 1 2 other (connection 0 0 zeroth
      (first 0 0 (record { below = omega arith })) (along_zeroth 0)) (along_other 2 0 refl)) (along_zeroth 2)) (along_other 4 2 refl)) (along_zeroth 4),
  record { holds = refl },
)
  where
    zeroth : IsConnection (table_in A) 0
    zeroth = record { a_link = record { below = omega arith }; events = refl }

    other : IsConnection (table_in A) 1
    other = record { a_link = record { below = omega arith }; events = refl }

    along_zeroth : (k : ℕ) → WaitsFor (table_in A) 0 k k
    along_zeroth k = (waits_whole (table_in A) 0 k k (omega arith) (omega arith) (divides_all_one 0) (divides_all_one 0)).1 (omega arith)

    along_other : (k m : ℕ) → m + 2 ≡ k → WaitsFor (table_in A) 1 k m
    along_other k m e = (waits_whole (table_in A) 1 k m (omega arith) (omega arith) (divides_all_one 0) (divides_all_one 2)).1 (omega arith)

a_bound : start_of a_timing 1 ⊕ 4 · period_of a_timing 1 ≈ whole 9
unfolding a_timing
a_bound = record { holds = refl }

-- ---- the δ −1/2: event 1 waits for 1/2 rounded down, 0; event 0 for −1/2, which is no event
half_one : WaitsFor (table_in half) 0 1 0
unfolding half ◌gives◌
half_one = record { ratio_some = omega arith; over_some = omega arith; rounded = record { low = omega arith; high = omega arith } }

half_none : (m : ℕ) → ¬ WaitsFor (table_in half) 0 0 m
unfolding half ◌gives◌
half_none m h = omega (arith, h.rounded.low.holds)

-- every chain of it fits the period 1, though its least period is 2: that no smaller period serves wants whole δ
record HalfWithin (p k : ℕ) (time : Rational) : Type 0 where
  port_is : p ≡ 0
  bound : time ≼ whole k

half_step : {m k : ℕ} {time : Rational} → WaitsFor (table_in half) 0 k m → time ≼ whole m → time ⊕ ε (table_in half) 0 ≼ whole k
unfolding half ◌gives◌
half_step {m} {k} {time} w h =
    let later : m + 1 ≤ k = omega (arith, w.rounded.low.holds) in
    record { holds = omega (arith, h.holds, mul-le-mul_right time.over later) }

half_within : {p k : ℕ} {time : Rational} → Chain (table_in half) (λ n. 0) p k time → HalfWithin p k time
unfolding half ◌gives◌
half_within (first p k i) = record { port_is = omega (arith, i.below); bound = omega arith }
half_within (spacing {p = p} {k = k} {time = time} c some) =
    let h = half_within c in
    let num : (port (table_in half) p).num ≡ 1 = ap (λ (q : ℕ). (port (table_in half) q).num) h.port_is in
    let den : (port (table_in half) p).den ≡ 1 = ap (λ (q : ℕ). (port (table_in half) q).den) h.port_is in
    record {
      port_is = h.port_is;
      bound = record {
        holds = omega (
          arith,
          h.bound.holds,
          ap (λ (x : ℕ). time.plus * x) num,
          ap (λ (x : ℕ). time.minus * x) num,
          ap (λ (x : ℕ). suc k * time.over * x) num,
          ap (λ (x : ℕ). x * time.over) den,
        );
      };
    }
half_within (free_spacing {p = p} c none) =
    let num : (port (table_in half) p).num ≡ 1 = ap (λ (q : ℕ). (port (table_in half) q).num) (half_within c).port_is in
    absurd (omega (arith, none))
half_within (connection {m = m} {time = time} n k i c w) =
    let e : n ≡ 0 = omega (arith, i.a_link.below) in
    subst (λ (j : ℕ). HalfWithin (to (table_in half) j) k (time ⊕ ε (table_in half) j)) (sym e) (record {
      port_is = refl;
      bound = half_step (subst (λ (j : ℕ). WaitsFor (table_in half) j k m) e w) (half_within c).bound;
    })
half_within (along_buffer n k i c w) =
    let e : n ≡ 0 = omega (arith, i.a_link.below) in
    absurd (true≢false (sym i.no_events ∙ ap (λ (j : ℕ). is_buffer (link (table_in half) j)) e))

half_bounded : Bounded (table_in half) (λ n. 0) (λ p. whole 1) (λ p. whole 0)
half_bounded = record { bound = λ c. record { holds = omega (arith, (half_within c).bound.holds) } }

-- ---- the cases of buffers
abbrev Needs : Model → Timing → ℕ → Needed → Type 0
Needs m r k x = IsNeeded (needed_delay (table_in m) r k) (period_of r (from (table_in m) k)) x

-- 7 where the period is 3/2
a_needs : Needs A a_timing 2 (PartOver (4, 0))
unfolding A a_timing ◌gives◌
a_needs = record { none_back = refl; above_zero = omega arith; part = omega arith; less = omega arith }

sized_needs : Needs sized sized_timing 1 Nothing
    × Needs sized sized_timing 2 Nothing
    × Needs sized sized_timing 3 (Exact (2, 0))
    × Needs sized sized_timing 4 (PartOver (2, 0))
unfolding sized sized_timing ◌gives◌
sized_needs = (
  record { holds = omega arith },
  record { holds = omega arith },
  record { none_back = refl; above_zero = omega arith; exact = omega arith },
  record { none_back = refl; above_zero = omega arith; part = omega arith; less = omega arith },
)
