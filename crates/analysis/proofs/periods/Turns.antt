-- What one component, and then every component, comes to.
use Prim.Native.Nat.{ℕ, ◌+◌, ◌*◌, ◌-◌, ◌≤◌, ◌<◌}
use mathlib.Core.Path.{◌≡◌, refl, sym, ◌∙◌}
use mathlib.Core.Bool.{Bool, true, false, true≢false}
use mathlib.Core.List.{List, [], ◌++◌}
use Rattle.std.specs.Prelude.{Some, None}
use native.Mathlib.Nat.{pos_of_ne-zero}
use native.Mathlib.Omega.{arith}
use lib.ListN.{length, get_or}
use Rattle.specification.specs.Bytes.{Written, cycle_answer}
use Rattle.specification.specs.Table.{Table, port_count, link_count}
use Rattle.period.specs.Component.{Component}
use Rattle.period.specs.Edges.{limits_of, edges_of, PortNumbers, Readable}
use Rattle.period.specs.Greatest.{GreatestLimit}
use Rattle.period.specs.Search.{FoundBlock, SearchResult}
use Rattle.period.specs.declared.limit.Limit.{Limit}
use Rattle.period.specs.declared.cycle.Cycle.{Cycle}
use Rattle.period.specs.declared.search.Floor.{Floor}
use Rattle.period.specs.declared.search.SearchEnd.TheVariants.{Least, NoLeast as EndsWithout, Blocked as EndsBlocked}
use Rattle.fraction.specs.declared.Fraction.{Fraction}
use Rattle.specification.specs.Ratios.{IsComponent}
use Rattle.specification.specs.Answers.{blocked, no_least, consistent, records, floor_record}
use Rattle.graph.specs.Arranged.{Labelled, most_members, SlicesIn}
use Rattle.graph.specs.ArrangedLaws.{few_members, few_numbers}
use Rattle.graph.specs.Searched.{connections_of, floor_of, PeriodIn, BlockIn}
use Rattle.graph.specs.SearchedLaws.{slices_searched, slices_idle, slices_no_least}
use Rattle.graph.specs.SliceLaws.{port_of_lem, some_component, no_component, first_member, slices_component, slices_readable}
use Rattle.results.specs.declared.kept.Kept.{Kept}
use Rattle.results.specs.Kept.{TableNumbers, timing_of}
use Rattle.results.specs.Sizes.{size_is, size_small}
use Rattle.results.specs.Named.{NamedCycle, NamedFloor}
use Rattle.analysis.specs.Decided.{shown_in, Decided}
use Rattle.analysis.specs.ShownLaws.{shown_none}
use Rattle.analysis.specs.Ordered.{part, IsMembers, IsNumbers}
use Rattle.analysis.specs.Timed.{Members, IsKept, TimedBelow, PeriodsBelow, SomeNoLeast, Shown, OneLeast, OneNoLeast, OneShown, ComponentSlices}
use Rattle.analysis.proofs.periods.Components.{timed_skip, timed_next, periods_skip, periods_next, has_period_lem, no_period, no_least_period, timed_numbers, timed_consistent, timed_fields}

-- ---- one component
module _ {t : Table} {weights members numbers : List ℕ} (k : ComponentSlices t weights members numbers) where
  abbrev limits : List ℕ
  limits = limits_of t.ports weights

  abbrev edges : List ℕ
  edges = edges_of t.links weights numbers

  pub component_of : Component members limits edges
  component_of = slices_component k.labelled k.slices k.component

  pub members_of : Members members
  members_of = record { some = component_of.some_port_lem; low = component_of.low_ports }

  pub ports_of_lem : PortNumbers t.ports members
  ports_of_lem = record { below = λ p m. (port_of_lem k.labelled k.slices m).a_port.below }

  pub readable_of : Readable t.links numbers
  readable_of = slices_readable k.labelled k.slices k.component

  abbrev c : ℕ
  c = get_or members 0 0

  -- a period that is kept
  one_least : {a_b : Fraction} {starts : List ℕ} {kept₀ kept : List Kept} (answer : List ℕ) → PeriodIn t weights c a_b starts → IsKept members a_b starts kept₀ kept
      → OneLeast t weights c kept₀ kept answer answer
  one_least answer p h = record {
    timed = timed_next k.labelled k.slices h k.component p;
    has_period_lem = has_period_lem k.labelled p;
    same_length = h.same_length;
    unchanged = refl;
  }

  -- without connections
  module _ (none : length numbers ≡ 0) where
    pub idle : {l : Limit} {kept₀ kept : List Kept} (answer : List ℕ) → GreatestLimit members limits (Some l) → IsKept members l.value [] kept₀ kept
        → OneLeast t weights c kept₀ kept answer answer
    idle answer g h = one_least answer (slices_idle k.labelled k.slices k.component g none) h

    pub idle_without : (kept : List Kept) (answer : List ℕ) → GreatestLimit members limits None → OneNoLeast t weights c kept kept answer answer
    idle_without kept answer g = record { no_least_lem = slices_no_least k.labelled k.slices k.component g none; same_length = refl; unchanged = refl }

  pub settled : (work answer : List ℕ) {period : Fraction} {floor : Floor} {rounds : ℕ} {kept₀ kept : List Kept}
      → SearchResult members limits edges work (Least period floor rounds)
      → IsKept members period (part work (64 * (rounds - 1)) (64 * (rounds - 1) + 64)) kept₀ kept
      → OneLeast t weights c kept₀ kept answer answer
  settled work answer {period} {floor} {rounds} found h =
      one_least answer (slices_searched k.labelled k.slices k.component work (Least period floor rounds) found) (rw width at h)
    where
      width : 64 * (rounds - 1) + 64 - 64 * (rounds - 1) ≡ 64
      width = omega arith

  pub without : (work : List ℕ) (kept : List Kept) (answer : List ℕ) {rounds : ℕ} → SearchResult members limits edges work (EndsWithout rounds)
      → OneNoLeast t weights c kept kept answer answer
  without work kept answer {rounds} found =
      record { no_least_lem = slices_searched k.labelled k.slices k.component work (EndsWithout rounds) found; same_length = refl; unchanged = refl }

  module _ {floor : Floor} {block : Cycle} {rounds : ℕ} (found : FoundBlock members limits edges floor block rounds) where
    block_in : BlockIn t weights c floor block numbers
    block_in = slices_searched k.labelled k.slices k.component [] (EndsBlocked floor block rounds) found

    pub shown : {answer answer' : List ℕ} {n : ℕ} (kept : List Kept)
        → Written (shown_in (length answer) (floor_record (floor_of numbers floor) ++ cycle_answer (connections_of numbers block))) answer answer' n
        → OneShown t weights c kept kept answer answer' n
    shown kept w = record {
      of = λ below. record {
        floor = floor_of numbers floor;
        block = connections_of numbers block;
        no_period = no_period k.labelled k.component below block_in;
        records_are = w;
      };
    }

    -- the floor and the block that are found can be named
    pub named_floor : NamedFloor numbers floor
    named_floor = record { limit = λ limit lower. record { named = block_in.limit_steps limit lower } }

    pub named_block : NamedCycle numbers block
    named_block = record { named = block_in.block_steps }

-- ---- the slices of component c
module _ {t : Table} {labels : List ℕ} {c : ℕ} {members numbers : List ℕ} (m : IsMembers t labels c members) (n : IsNumbers t labels c numbers) where
  pub slices_of : SlicesIn t labels c members numbers
  slices_of = record { members_are = m.are; numbers_are = n.are }

  -- the room for the largest suffices
  pub enough_room : {room : ℕ} → c < port_count t → 64 * most_members t labels + 64 + 4 * link_count t ≤ room → 64 * length members + 64 + 4 * length numbers ≤ room
  enough_room low enough = omega (arith, few_members slices_of low, few_numbers slices_of)

  module _ {weights : List ℕ} (l : Labelled t labels weights) (some : ¬ (length members ≡ 0)) where
    pub names : IsComponent t c
    names = some_component l slices_of (pos_of_ne-zero some)

    pub first_is : get_or members 0 0 ≡ c
    first_is = first_member l slices_of names

    pub component_slices : ComponentSlices t weights members numbers
    component_slices = record { labels = labels; labelled = l; component = rw first_is names; slices = rw first_is slices_of }

-- ---- every component: those below c have periods, and as long as each has a least they are timed; nothing is written
pub record Turns (t : Table) (weights : List ℕ) (kept : List Kept) (answer₀ answer : List ℕ) (least : Bool) (c : ℕ) : Type 0 where
  pub long : length kept ≡ 64
  pub periods : PeriodsBelow t weights c
  pub timed : least ≡ true → TimedBelow t weights kept c
  pub some : least ≡ false → SomeNoLeast t weights
  pub unchanged : answer ≡ answer₀

module _ {t : Table} {labels weights : List ℕ} (l : Labelled t labels weights) where
  module _ {kept : List Kept} {answer₀ answer : List ℕ} {least : Bool} {c : ℕ} (s : Turns t weights kept answer₀ answer least c) where
    -- port c names no component
    pub turns_skip : {members : List ℕ} → IsMembers t labels c members → length members ≡ 0 → Turns t weights kept answer₀ answer least (c + 1)
    turns_skip {members} m none =
        let not_one = no_component l (slices_of m (record { are = refl })) none in
        record {
          long = s.long;
          periods = periods_skip l not_one s.periods;
          timed = λ e. timed_skip l not_one (s.timed e);
          some = s.some;
          unchanged = s.unchanged;
        }

    -- it has a least period
    pub turns_least : {kept' : List Kept} {answer' : List ℕ} → OneLeast t weights c kept kept' answer answer' → Turns t weights kept' answer₀ answer' least (c + 1)
    turns_least one = record {
      long = one.same_length ∙ s.long;
      periods = periods_next l one.has_period_lem s.periods;
      timed = λ e. one.timed (s.timed e);
      some = s.some;
      unchanged = one.unchanged ∙ s.unchanged;
    }

    -- it has periods but no least
    pub turns_no_least : {kept' : List Kept} {answer' : List ℕ} → IsComponent t c → OneNoLeast t weights c kept kept' answer answer' → Turns t weights kept' answer₀ answer' false (c + 1)
    turns_no_least component one = record {
      long = one.same_length ∙ s.long;
      periods = periods_next l one.no_least_lem.some s.periods;
      timed = λ e. absurd (true≢false (sym e));
      some = λ e. record { c = c; component = component; no_least_lem = one.no_least_lem };
      unchanged = one.unchanged ∙ s.unchanged;
    }

    -- it has none
    pub turns_shown : {kept' : List Kept} {answer' : List ℕ} {r : ℕ} → OneShown t weights c kept kept' answer answer' r
        → Decided t answer₀ answer' (record { number = 15; place = 0; written = r })
    turns_shown {answer' = answer'} {r = r} one =
        let h : Shown t answer₀ answer' r = rw (← s.unchanged) (one.of s.periods) in
        record {
          answer = blocked h.floor h.block;
          right = h.no_period;
          number_is = refl;
          place_is = refl;
          records_are = h.records_are;
          fits = tt;
        }

    -- ---- behind the last component
    module _ (last : c ≡ port_count t) where
      -- some component has no least
      pub turns_without : least ≡ false → Decided t answer₀ answer (record { number = 17; place = 0; written = 0 })
      turns_without e = record {
        answer = no_least;
        right = no_least_period l (rw last at s.periods) (s.some e);
        number_is = refl;
        place_is = refl;
        records_are = rw s.unchanged (shown_none answer₀);
        fits = tt;
      }

      -- each has one
      module _ (e : least ≡ true) where
        timed_all : TimedBelow t weights kept (port_count t)
        timed_all = rw last at (s.timed e)

        pub all_numbers : TableNumbers t weights kept
        all_numbers = timed_numbers l timed_all

        pub turns_all : {after : List ℕ} {written : ℕ} → Written (shown_in (length answer) (records t (consistent (timing_of t weights kept)))) answer after written
            → Decided t answer₀ after (record { number = 0; place = 0; written = written })
        turns_all w = record {
          answer = consistent (timing_of t weights kept);
          right = timed_consistent l timed_all (λ k i. size_is all_numbers i);
          number_is = refl;
          place_is = refl;
          records_are = rw (← s.unchanged) w;
          fits = timed_fields l timed_all (λ k i. size_small all_numbers i);
        }
