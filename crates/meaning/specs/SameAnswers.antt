-- Every right answer to a table is one to each table that means the same.
use Prim.Native.Nat.{ℕ, zero, suc, ◌*◌, ◌/◌, ◌≤◌, ◌<◌}
use Rattle.std.specs.Prelude.{◌≡◌, List, [], ◌∷◌, map, length, get_or}
use Rattle.std.proofs.Math.Path.{refl}
use Rattle.std.proofs.Common.{ap, mul-pos, le_refl, arith}
use Rattle.std.proofs.Math.Nat.{eq_of_mul-eq-mul_right}
use Rattle.specification.specs.Table.{Table, port_count, link_count, no_port, IsLink, from, δ°}
use Rattle.specification.specs.Ratios.{weighed⁺, weighed⁻, AllWhole}
use Rattle.specification.specs.Periods.{Graph, CycleLimit, Blocks, BlocksAboveZero, HasPeriod, PortIn, ConnectionIn, graph_in}
use Rattle.specification.specs.Answers.{
  Timing,
  Floor,
  rate,
  cycle,
  zero_floor,
  Answer,
  refused,
  disagreeing,
  overweight,
  blocked,
  no_least,
  consistent,
  buffer_records,
  records,
  Blocked,
  BlockedFrom,
  NoPeriod,
  NoLeastPeriod,
  Enough,
  Consistent,
  Right,
}
use Rattle.specification.specs.Meaning.{SameMeaning}
use Rattle.specification.specs.declared.Ticks.{Ticks}
use Rattle.specification.specs.declared.Port.{Port}
use Rattle.specification.specs.declared.Link.{Link}
use Rattle.demands.specs.ConstraintLaws.{some_over, forward_whole, back_whole}
use Rattle.graph.specs.Numbered.{Numbered}
use Rattle.graph.specs.NumberedLaws.{
  numbered_rate,
  numbered_limit,
  numbered_blocks,
  numbered_period,
  numbered_starts,
  numbered_possible,
  numbered_no_least,
  numbered_zero,
  numbered_above_zero,
}
use Rattle.meaning.specs.SameWays.{
  TwoWritings,
  exchange,
  port_there,
  link_there,
  link_same,
  connection_there,
  buffer_there,
  loop_there,
  whole_back,
  component_there,
  names_there,
  small_there,
  overweight_there,
}

forward_ticks : {l m : Link} → SameMeaning l m → l.ticks.0 ≡ m.ticks.0
forward_ticks s = ap (λ (x : Ticks). x.0) s.ticks

back_ticks : {l m : Link} → SameMeaning l m → l.ticks.1 ≡ m.ticks.1
back_ticks s = ap (λ (x : Ticks). x.1) s.ticks

-- ---- the graph of a component
-- whole quotients of one value
quotient_same : {a b v w c d : ℕ} → c * a ≡ v → d * b ≡ w → v * d ≡ w * c → 0 < c → 0 < d → a ≡ b
quotient_same {a} {b} {v} {w} {c} {d} e f same some more =
    eq_of_mul-eq-mul_right (c * d) (mul-pos some more) a b
    (omega (arith, same, ap (λ (n : ℕ). n * d) e, ap (λ (n : ℕ). n * c) f))

module _ {t u : Table} {w : ℕ → ℕ} (o : TwoWritings t u) (whole : AllWhole t w) (c : ℕ) where
  abbrev whole' : AllWhole u w
  whole' = whole_back (exchange o) whole

  forward_same : (k : ℕ) → IsLink t k → weighed⁺ t w k / δ° t k ≡ weighed⁺ u w k / δ° u k
  forward_same k i =
      let l = link_same o k i in
      let j = link_there o i in
      quotient_same (forward_whole whole k i) (forward_whole whole' k j)
      (rw l.from (omega (arith, ap (λ (n : ℕ). n * w (from u k)) l.events_forward))) (some_over o.one k i) (some_over o.other k j)

  back_same : (k : ℕ) → IsLink t k → weighed⁻ t w k / δ° t k ≡ weighed⁻ u w k / δ° u k
  back_same k i =
      let l = link_same o k i in
      let j = link_there o i in
      quotient_same (back_whole whole k i) (back_whole whole' k j)
      (rw l.from (omega (arith, ap (λ (n : ℕ). n * w (from u k)) l.events_back))) (some_over o.one k i) (some_over o.other k j)

  graphs_same : Numbered (graph_in t w c) (graph_in u w c) (λ k. k)
  graphs_same = record {
    port = λ p i. port_in_lem o i;
    port_back = λ p i. port_in_lem (exchange o) i;
    limit_num_lem = λ p i. ap (λ (ps : List Port). (get_or ps p no_port).den) o.same.ports;
    limit_den_lem = λ p i. ap (λ (ps : List Port). (get_or ps p no_port).num * w p) o.same.ports;
    edge = λ k i. connection_in o i;
    onto = λ k i. (k, connection_in (exchange o) i, refl);
    from = λ k i. (link_same o k i.connection.a_link).from;
    to = λ k i. (link_same o k i.connection.a_link).to;
    ticks_forward_lem = λ k i. forward_ticks (link_same o k i.connection.a_link);
    ticks_back_lem = λ k i. back_ticks (link_same o k i.connection.a_link);
    events_forward = λ k i. forward_same k i.connection.a_link;
    events_back = λ k i. back_same k i.connection.a_link;
  }
    where
      port_in_lem : {x y : Table} → TwoWritings x y → {p : ℕ} → PortIn x c p → PortIn y c p
      port_in_lem o i = record { a_port = port_there o i.a_port; component = component_there o i.component }

      connection_in : {x y : Table} → TwoWritings x y → {k : ℕ} → ConnectionIn x c k → ConnectionIn y c k
      connection_in o {k} i = record {
        connection = connection_there o i.connection;
        component = rw (link_same o k i.connection.a_link).from at (component_there o i.component);
      }

-- ---- what holds of a graph with the same numbers
map_same : (path : List ℕ) → map (λ k. k) path ≡ path
map_same [] = refl
map_same (k ∷ path) = ap (λ (rest : List ℕ). k ∷ rest) (map_same path)

module _ {g h : Graph} (n : Numbered g h (λ k. k)) where
  blocks_there : {block : List ℕ} {a b : ℕ} → Blocks g block a b → Blocks h block a b
  blocks_there {block} k = rw (map_same block) at (numbered_blocks n k)

  from_there : {L M : ℕ → ℕ → Type 0} {block : List ℕ} → ((a b : ℕ) → L a b → M a b) → BlockedFrom g L block → BlockedFrom h M block
  from_there limit k = record {
    a = k.a;
    b = k.b;
    above_zero = k.above_zero;
    over = k.over;
    is_limit = limit k.a k.b k.is_limit;
    blocks = blocks_there k.blocks;
  }

  limit_there : {path : List ℕ} (a b : ℕ) → CycleLimit g path a b → CycleLimit h path a b
  limit_there {path} a b l = rw (map_same path) at (numbered_limit n l)

  above_zero_there : {block : List ℕ} → BlocksAboveZero g block → BlocksAboveZero h block
  above_zero_there {block} k = rw (map_same block) at (numbered_above_zero n k)

  blocked_there : (floor : Floor) (block : List ℕ) → Blocked g floor block → Blocked h floor block
  blocked_there (rate p) block k = from_there (λ a b l. numbered_rate n l) k
  blocked_there (cycle path) block k = from_there limit_there k
  blocked_there zero_floor block k = record { is_zero = numbered_zero n k.is_zero; blocks = above_zero_there k.blocks }

  period_there : HasPeriod g → HasPeriod h
  period_there k = record { a = k.a; b = k.b; possible = numbered_possible n k.possible }

-- ---- right answers
enough_there : {t u : Table} {r : Timing} {k d : ℕ} → TwoWritings t u → IsLink t k → Enough t r k d → Enough u r k d
enough_there {k = k} o i e =
    let l = link_same o k i in
    record { holds = rw (← l.from, ← l.to, ← forward_ticks l, ← back_ticks l) e.holds }

module _ {t u : Table} (o : TwoWritings t u) where
  no_period_there : {floor : Floor} {block : List ℕ} → NoPeriod t floor block → NoPeriod u floor block
  no_period_there {floor} {block} k =
      let graphs = graphs_same o k.weights.weights.whole in
      record {
        w = k.w;
        weights = small_there o k.weights;
        c = k.c;
        component = names_there o k.component;
        is_blocked = blocked_there (graphs k.c) floor block k.is_blocked;
        lower = λ d i l. period_there (graphs d) (k.lower d (names_there (exchange o) i) l);
      }

  no_least_there : NoLeastPeriod t → NoLeastPeriod u
  no_least_there k =
      let graphs = graphs_same o k.weights.weights.whole in
      record {
        w = k.w;
        weights = small_there o k.weights;
        component = k.component;
        components = λ p i. component_there o (k.components p (port_there (exchange o) i));
        periods = λ d i. period_there (graphs d) (k.periods d (names_there (exchange o) i));
        c = k.c;
        is_component = names_there o k.is_component;
        no_least_lem = numbered_no_least (graphs k.c) k.no_least_lem;
      }

  consistent_there : {r : Timing} → Consistent t r → Consistent u r
  consistent_there {r} k =
      let graphs = graphs_same o k.weights.weights.whole in
      record {
        components = λ p i. component_there o (k.components p (port_there (exchange o) i));
        weights = small_there o k.weights;
        periods = λ p i. numbered_period (graphs (r.component p)) (k.periods p (port_there (exchange o) i));
        starts = λ p i. numbered_starts (graphs (r.component p)) (k.starts p (port_there (exchange o) i));
        sizes = λ n i.
            let b = buffer_there (exchange o) i in
            let size = k.sizes n b in
            record {
              enough = enough_there o b.a_link size.enough;
              fewest = λ e more. size.fewest e (enough_there (exchange o) i.a_link more);
            };
      }

  pub right_there : (x : Answer) → Right t x → Right u x
  right_there (refused n) k = absurd k
  right_there (disagreeing loop) k = loop_there o k
  right_there overweight k = overweight_there o k
  right_there (blocked floor block) k = no_period_there k
  right_there no_least k = no_least_there k
  right_there (consistent r) k = consistent_there k

  -- ---- and its records are the same
  buffers_same : (r : Timing) (n : ℕ) → n ≤ link_count t → buffer_records t r n ≡ buffer_records u r n
  unfolding buffer_records
  buffers_same r zero l = refl
  buffers_same r (suc n) l = rw (buffers_same r n (omega arith), (link_same o n (record { below = l })).buffer)

  pub records_same : (x : Answer) → records t x ≡ records u x
  records_same (refused n) = refl
  records_same (disagreeing loop) = refl
  records_same overweight = refl
  records_same (blocked floor block) = refl
  records_same no_least = refl
  records_same (consistent r) =
      let count : port_count t ≡ port_count u = ap length o.same.ports in
      rw (← count, ← o.same.count, buffers_same r (link_count t) (le_refl (link_count t)))
