-- How many ports and connections a component has, and what sorting asks of the labels and the owners.
use Rattle.std.specs.Prelude.{ℕ, ◌+◌, ◌≤◌, ◌<◌, Bool, true, false, List, length, get_or}
use Rattle.std.proofs.Common.{arith}
use Rattle.specification.specs.Table.{Table, port_count, link_count, link, is_buffer, IsPort}
use Rattle.order.specs.Order.{Sortable}
use Rattle.order.specs.OrderLaws.{few_keyed, few_most, most_keyed_lem}
use Rattle.demands.specs.ConstraintLaws.{names_component}
use Rattle.table.specs.WellFormed.{WellFormed}
use Rattle.ways.specs.Labels.{Components}
use Rattle.graph.specs.Owners.{owner_of}
use Rattle.graph.specs.OwnersLaws.{owners_length, owners_at}
use Rattle.graph.specs.Arranged.{Labelled, labels_of, most_members, link_owners, SlicesIn}
use Rattle.graph.specs.SliceLaws.{labels_length, label_at}

module _ {t : Table} {labels : List ℕ} {c : ℕ} {members numbers : List ℕ} (s : SlicesIn t labels c members numbers) where
  pub few_members : c < port_count t → length members ≤ most_members t labels
  few_members low =
      let keys = labels_of t labels in
      rw s.members_are (most_keyed_lem keys (length keys) (port_count t) low)

  pub few_numbers : length numbers ≤ link_count t
  few_numbers =
      let owners = link_owners t labels in
      rw s.numbers_are (omega (arith, few_keyed owners c (length owners), owners_length t labels (link_count t)))

module _ {t : Table} {labels : List ℕ} (formed : WellFormed t) (components : Components t labels) where
  label_below : {p : ℕ} → IsPort t p → get_or labels p 0 < port_count t
  label_below {p} i = (names_component formed i (components.each p i)).a_port.below

  pub owners_sortable : Sortable (link_owners t labels) (port_count t + 1)
  owners_sortable = record {
    few = omega (arith, formed.few_ports);
    below = λ k h.
        let low : k < link_count t = omega (arith, owners_length t labels (link_count t)) in
        rw (owners_at t labels (link_count t) k low)
        (owner_below (is_buffer (link t k)) (label_below (record { below = (formed.links k low).from })));
  }
    where
      owner_below : {none label : ℕ} (b : Bool) → label < none → owner_of none label b < none + 1
      owner_below true h = omega arith
      owner_below false h = omega arith

module _ {t : Table} {labels weights : List ℕ} (l : Labelled t labels weights) where
  pub labels_sortable : Sortable (labels_of t labels) (port_count t)
  labels_sortable = record {
    few = omega (arith, l.well_formed.few_ports);
    below = λ p h.
        let low : p < port_count t = omega (arith, labels_length l) in
        rw (label_at l p low) (label_below l.well_formed l.components (record { below = low }));
  }

  pub most_members_lem : most_members t labels ≤ 64
  most_members_lem =
      let keys = labels_of t labels in
      omega (arith, few_most keys (length keys) (port_count t), labels_length l, l.well_formed.few_ports)
