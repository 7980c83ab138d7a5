-- A needed delay divided by the ticks of one event: the quotient has the whole events, the remainder the part over.
use Prim.Native.Nat.{ℕ, ◌+◌, ◌*◌, ◌-◌, ◌/◌, ◌%◌, ◌≤◌, ◌<◌}
use mathlib.Core.Path.{◌≡◌, ap, ◌∙◌}
use mathlib.Core.Logic.{◌≢◌}
use native.Mathlib.Nat.{le_antisymm}
use native.Mathlib.Omega.{arith}
use Rattle.numbers.specs.Rationals.{◌≺◌, signed, whole}
use Rattle.specification.specs.declared.Events.{Events}
use Rattle.specification.specs.declared.Needed.{Needed}
use Rattle.specification.specs.declared.Needed.TheVariants.{Nothing, Exact, PartOver}
use Rattle.specification.specs.Sizes.{NothingNeeded, ExactEvents, EventsAndPart, IsNeeded, size_of}
use Rattle.demands.specs.CaseLaws.{amounts, case_enough, case_least, exact_events, events_and_part}
use Rattle.results.specs.Kept.{fewest_events}
use Rattle.results.specs.Sizes.{fewest_enough, fewest_least, fewest_most}

-- a delay and one event, each with its ticks forward and back
event_some : {event event_back : ℕ} → event_back < event → whole 0 ≺ signed event event_back
event_some some = omega arith

-- ---- division finds the case
module _ {forward back event event_back : ℕ} (some : event_back < event) where
  pub exact_found : back < forward → (forward - back) % (event - event_back) ≡ 0
      → ExactEvents (signed forward back) (signed event event_back) ((forward - back) / (event - event_back), 0)
  exact_found above none = exact_events (event_some some) (signed forward back) (omega arith) _ _ (omega arith) (omega arith) none

  pub part_found : back < forward → (forward - back) % (event - event_back) ≢ 0
      → EventsAndPart (signed forward back) (signed event event_back) ((forward - back) / (event - event_back), 0)
  part_found above part = events_and_part (event_some some) (signed forward back) (omega arith) _ _ (omega arith) (omega arith) part

-- ---- the value of a case is the fewest events
module _ (forward back event event_back : ℕ) (some : event_back < event) where
  abbrev fewest : ℕ
  fewest = fewest_events forward back (event - event_back)

  case_size : (x : Needed) → IsNeeded (signed forward back) (signed event event_back) x → size_of x ≡ fewest
  case_size x h =
      let length : 0 < event - event_back = omega arith in
      let whole_event : event ≡ event_back + (event - event_back) = omega arith in
      le_antisymm
      (case_least (event_some some) (signed forward back) x h fewest
      (omega (arith, ap (λ (y : ℕ). fewest * y) whole_event, fewest_enough forward back (event - event_back) length)))
      (fewest_least forward back (event - event_back) (size_of x) length
      (omega (arith, ap (λ (y : ℕ). size_of x * y) whole_event, (case_enough (event_some some) (signed forward back) x h).holds)))

module _ {forward back event event_back : ℕ} (some : event_back < event) where
  pub nothing_size : NothingNeeded (signed forward back) (signed event event_back)
      → amounts 0 0 ≡ amounts (fewest_events forward back (event - event_back)) 0
  nothing_size h = ap (λ (n : ℕ). amounts n 0) (case_size forward back event event_back some Nothing h)

  module _ {e : Events} where
    pub exact_size : ExactEvents (signed forward back) (signed event event_back) e
        → e ≡ amounts (fewest_events forward back (event - event_back)) 0
    exact_size h = ap (amounts e.0) h.none_back ∙ ap (λ (n : ℕ). amounts n 0) (case_size forward back event event_back some (Exact e) h)

    pub part_size : EventsAndPart (signed forward back) (signed event event_back) e
        → amounts (e.0 + 1) 0 ≡ amounts (fewest_events forward back (event - event_back)) 0
    part_size h = ap (λ (n : ℕ). amounts n 0) (case_size forward back event event_back some (PartOver e) h)

    -- so the sum fits 64 bits
    pub part_small : EventsAndPart (signed forward back) (signed event event_back) e → e.0 + 1 ≤ forward
    part_small h =
        let same = case_size forward back event event_back some (PartOver e) h in
        omega (arith, same, fewest_most forward back (event - event_back) (omega arith))
