-- The slices of a component are its graph with the connections numbered anew: what a search over them asks, and what it says of the
-- table's own graph.
use Rattle.std.specs.Prelude.{ℕ, ◌+◌, ◌*◌, ◌/◌, ◌≤◌, ◌<◌, ◌≡◌, refl, Bool, true, false, List, [], length, get_or}
use Rattle.std.proofs.Common.{ap, sym, ◌∙◌, ⊎_elim, arith, mul-le-mul, mul-pos, pos_of_ne-zero, div-mul-le_self, le_of_mul-le-mul_right, length-take, get_or-take}
use Rattle.numbers.specs.Lists.{◌∈◌}
use Rattle.numbers.specs.ListLaws.{lt_or_le, position}
use Rattle.rounds.specs.Walks.{Among}
use Rattle.table.specs.WellFormed.{PortFits, LinkFits}
use Rattle.specification.specs.Table.{Table, port_count, link_count, port, link, is_buffer, IsPort, IsLink, from}
use Rattle.specification.specs.Ratios.{Component as InComponent, stay, most_weight, IsComponent}
use Rattle.demands.specs.ConstraintLaws.{names_component}
use Rattle.ways.specs.WayLaws.{linked, joined_component, component_unique}
use Rattle.weights.specs.Weighed.{HasWeights}
use Rattle.order.specs.OrderLaws.{keyed_below, keyed_key, keyed_in, keyed_first, few_keyed}
use Rattle.period.specs.Component.{graph_of, most_amount, SmallEdges, SmallLimits, Component}
use Rattle.numbers.specs.Taken.{member_at}
use Rattle.specification.specs.Periods.{PortIn, ConnectionIn, graph_in}
use Rattle.period.specs.Edges.{limit_parts, limits_of, edge_of, edges_of, Readable}
use Rattle.graph.specs.Owners.{owner_of}
use Rattle.period.specs.EdgesLaws.{limits_at, edges_length, edges_at}
use Rattle.graph.specs.OwnersLaws.{owners_length, owners_at}
use Rattle.graph.specs.Numbered.{Numbered}
use Rattle.graph.specs.Arranged.{Labelled, labels_of, link_owners, SlicesIn}

weight_small : {t : Table} {weights : List ℕ} → HasWeights t weights → (p : ℕ) → get_or weights p 0 ≤ most_weight
weight_small {t} {weights} h p = ⊎_elim
    (λ (l : p < port_count t). h.small p (record { below = l }))
    (λ (l : port_count t ≤ p). omega (arith, h.rest p l))
    (lt_or_le p (port_count t))

-- a part of a port times a weight
weighed_most : {x w : ℕ} → x ≤ 1000 → w ≤ most_weight → x * w ≤ most_amount
weighed_most h k = omega (arith, mul-le-mul h k)

-- δ times a weight
events_most : {x w o : ℕ} → 0 < o → x ≤ 1000 * o → w ≤ most_weight → x * w / o ≤ most_amount
events_most {x} {w} {o} some h k = le_of_mul-le-mul_right {k = o} (omega (arith, div-mul-le_self (x * w) o, mul-le-mul h k)) some

-- a factor of a product that is above zero, or zero
factor_above_zero : (x y : ℕ) → 0 < x * y → 0 < x
factor_above_zero x y h = pos_of_ne-zero (λ e. omega (arith, ap (λ (z : ℕ). z * y) e))

factor_zero : (x y : ℕ) → 0 < y → x * y ≡ 0 → x ≡ 0
factor_zero x y some e = ⊎_elim (λ (l : 0 < x). absurd (omega (arith, mul-pos l some))) (λ (l : x ≤ 0). omega arith) (lt_or_le 0 x)

-- a link whose owner is a label is a connection from a port of that label
owned : (b : Bool) (none label c : ℕ) → c < none → owner_of none label b ≡ c → (b ≡ false) × (label ≡ c)
owned true none label c h e = absurd (omega (arith, e))
owned false none label c h e = (refl, e)

module _ {t : Table} {labels weights : List ℕ} (l : Labelled t labels weights) where
  -- as many labels as ports, each port's own
  pub labels_length : length (labels_of t labels) ≡ port_count t
  labels_length = simp length-take (omega (arith, l.components.long, l.well_formed.few_ports))

  pub label_at : (p : ℕ) → p < port_count t → get_or (labels_of t labels) p 0 ≡ get_or labels p 0
  label_at p h = get_or-take (port_count t) labels p 0 h

  from_port : {k : ℕ} → IsLink t k → IsPort t (from t k)
  from_port {k} i = record { below = (l.well_formed.links k i.below).from }

  module _ {c : ℕ} {members numbers : List ℕ} (s : SlicesIn t labels c members numbers) where
    -- ---- the ports and connections of the component
    pub port_of_lem : {p : ℕ} → p ∈ members → PortIn t c p
    port_of_lem {p} m =
        let i = rw s.members_are at m in
        let port : IsPort t p = record { below = omega (arith, keyed_below (labels_of t labels) c _ i, labels_length) } in
        record {
          a_port = port;
          component = rw (sym (label_at p port.below) ∙ keyed_key (labels_of t labels) c _ i) at (l.components.each p port);
        }

    pub of_port : {p : ℕ} → IsPort t p → InComponent t p c → p ∈ members
    of_port {p} port i =
        rw s.members_are
        (keyed_in (labels_of t labels) c _ (omega (arith, labels_length, port.below))
        (label_at p port.below ∙ component_unique (l.components.each p port) i))

    -- a port of the list names the component
    pub some_component : 0 < length members → IsComponent t c
    some_component some =
        let i = port_of_lem (member_at members 0 some) in
        names_component l.well_formed i.a_port i.component

    -- without ports it is no component
    pub no_component : length members ≡ 0 → ¬ IsComponent t c
    no_component none i = let (j, within, is) = position (of_port i.a_port i.lowest) in omega arith

    module _ (component : IsComponent t c) where
      -- the port that names a component is its first
      pub first_member : get_or members 0 0 ≡ c
      first_member =
          let keys = labels_of t labels in
          let least : (x : ℕ) → x ∈ members → c ≤ x = λ x m. (port_of_lem m).component.lowest x (record { path = []; way = stay }) in
          rw s.members_are
          (keyed_first keys c (length keys) (rw s.members_are at (of_port component.a_port component.lowest)) (rw s.members_are at least))

      low : c < port_count t
      low = component.a_port.below

      connection_of : {k : ℕ} → k ∈ numbers → ConnectionIn t c k
      connection_of {k} m =
          let i = rw s.numbers_are at m in
          let below : k < link_count t = omega (arith, keyed_below (link_owners t labels) c _ i, owners_length t labels (link_count t)) in
          let a_link : IsLink t k = record { below = below } in
          let (no_buffer, label) = owned (is_buffer (link t k)) (port_count t) (get_or labels (from t k) 0) c low
          (sym (owners_at t labels (link_count t) k below) ∙ keyed_key (link_owners t labels) c _ i) in
          record {
            connection = record { a_link = a_link; events = no_buffer };
            component = rw label at (l.components.each (from t k) (from_port a_link));
          }

      of_connection : {k : ℕ} → ConnectionIn t c k → k ∈ numbers
      of_connection {k} i =
          let link = i.connection.a_link in
          let label = component_unique (l.components.each (from t k) (from_port link)) i.component in
          rw s.numbers_are
          (keyed_in (link_owners t labels) c _ (omega (arith, owners_length t labels (link_count t), link.below))
          (owners_at t labels (link_count t) k link.below ∙ ap (owner_of (port_count t) (get_or labels (from t k) 0)) i.connection.events ∙ label))

      -- ---- the graph that a search reads of the table
      abbrev limits : List ℕ
      limits = limits_of t.ports weights

      abbrev edges : List ℕ
      edges = edges_of t.links weights numbers

      limit_at : (p i : ℕ) → IsPort t p → i < 2 → get_or limits (2 * p + i) 0 ≡ get_or (limit_parts t.ports weights p) i 0
      limit_at p i port b = limits_at t.ports weights p i (omega (arith, port.below, l.well_formed.few_ports)) b

      -- as many edges as connections
      pub edge_count : length edges / 6 ≡ length numbers
      edge_count = omega (arith, edges_length t.links weights numbers)

      edge_in : (i : ℕ) → i < length edges / 6 → get_or numbers i 0 ∈ numbers
      edge_in i m = member_at numbers i (omega (arith, edge_count))

      edge_at : (i j : ℕ) → i < length edges / 6 → j < 6 → get_or edges (6 * i + j) 0 ≡ get_or (edge_of t.links weights (get_or numbers i 0)) j 0
      edge_at i j m b = edges_at t.links weights numbers i j (omega (arith, edge_count)) b

      -- its connections can be read
      pub slices_readable : Readable t.links numbers
      slices_readable = record {
        of_links = record { below = λ i h. (a_link i h).below };
        senders = λ i h. omega (arith, (from_port (a_link i h)).below, l.well_formed.few_ports);
        over_least = λ i h. (l.well_formed.links (get_or numbers i 0) (a_link i h).below).over_least;
        over_most = λ i h. (l.well_formed.links (get_or numbers i 0) (a_link i h).below).over_most;
      }
        where
          a_link : (i : ℕ) → i < length numbers → IsLink t (get_or numbers i 0)
          a_link i h = (connection_of (member_at numbers i h)).connection.a_link

      pub slices_numbered : Numbered (graph_of members limits edges) (graph_in t (λ p. get_or weights p 0) c) (λ i. get_or numbers i 0)
      slices_numbered = record {
        port = λ p m. port_of_lem m;
        port_back = λ p m. of_port m.a_port m.component;
        limit_num_lem = λ p m. let e : 2 * p + 0 ≡ 2 * p = omega arith in rw e at (limit_at p 0 m.a_port (omega arith));
        limit_den_lem = λ p m. limit_at p 1 m.a_port (omega arith);
        edge = λ i m. connection_of (edge_in i m);
        onto = λ k m.
            let (i, b, e) = position (of_connection m) in
            (i, omega (arith, edge_count), e);
        from = λ i m. let e : 6 * i + 0 ≡ 6 * i = omega arith in rw e at (edge_at i 0 m (omega arith));
        to = λ i m. edge_at i 1 m (omega arith);
        ticks_forward_lem = λ i m. edge_at i 2 m (omega arith);
        ticks_back_lem = λ i m. edge_at i 3 m (omega arith);
        events_forward = λ i m. edge_at i 4 m (omega arith);
        events_back = λ i m. edge_at i 5 m (omega arith);
      }

      -- ---- what a search asks
      edge_among : Among (graph_of members limits edges) members
      edge_among = record {
        from_in = λ i m.
            let k = slices_numbered.edge i m in
            rw (slices_numbered.from i m) (of_port (from_port k.connection.a_link) k.component);
        to_in = λ i m.
            let k = slices_numbered.edge i m in
            let link = k.connection.a_link in
            rw (slices_numbered.to i m)
            (of_port (record { below = (l.well_formed.links (get_or numbers i 0) link.below).to }) (joined_component (linked link) k.component));
      }

      fits : (i : ℕ) → i < length edges / 6 → LinkFits (port_count t) (link t (get_or numbers i 0))
      fits i m = l.well_formed.links (get_or numbers i 0) (slices_numbered.edge i m).connection.a_link.below

      small_edges : SmallEdges (graph_of members limits edges)
      small_edges =
          let small = weight_small l.weighed in
          record {
            ticks_forward_lem = λ i m. omega (arith, slices_numbered.ticks_forward_lem i m, (fits i m).ticks_forward_lem);
            ticks_back_lem = λ i m. omega (arith, slices_numbered.ticks_back_lem i m, (fits i m).ticks_back_lem);
            events_forward = λ i m.
                rw (slices_numbered.events_forward i m) (events_most (fits i m).over_least (fits i m).events_forward (small (from t (get_or numbers i 0))));
            events_back = λ i m.
                rw (slices_numbered.events_back i m) (events_most (fits i m).over_least (fits i m).events_back (small (from t (get_or numbers i 0))));
          }

      port_fits : (p : ℕ) → p ∈ members → PortFits (port t p)
      port_fits p m = l.well_formed.ports p (port_of_lem m).a_port.below

      small_limits : SmallLimits (graph_of members limits edges)
      small_limits = record {
        rated = λ p m some.
            let i = port_of_lem m in
            rw (slices_numbered.limit_num_lem p i)
            ((port_fits p m).rated (factor_above_zero (port t p).num (get_or weights p 0) (rw (slices_numbered.limit_den_lem p i) at some)));
        unrated = λ p m none.
            let i = port_of_lem m in
            rw (slices_numbered.limit_num_lem p i)
            ((port_fits p m).unrated
            (factor_zero (port t p).num (get_or weights p 0) (l.weighed.are.proportional.positive p i.a_port) (rw (slices_numbered.limit_den_lem p i) at none)));
        num_most = λ p m. omega (arith, slices_numbered.limit_num_lem p (port_of_lem m), (port_fits p m).den_most);
        den_most = λ p m.
            let i = port_of_lem m in
            rw (slices_numbered.limit_den_lem p i) (weighed_most (port_fits p m).num_most (l.weighed.small p i.a_port));
      }

      pub slices_component : Component members limits edges
      slices_component = record {
        some_port_lem = let (i, b, e) = position (of_port component.a_port component.lowest) in omega arith;
        few_ports = rw s.members_are (omega (arith, few_keyed (labels_of t labels) c (length (labels_of t labels)), labels_length, l.well_formed.few_ports));
        low_ports = λ p m. omega (arith, (port_of_lem m).a_port.below, l.well_formed.few_ports);
        among = edge_among;
        small_edges = small_edges;
        small_limits = small_limits;
      }
