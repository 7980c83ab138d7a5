-- The size of a buffer by the cases of change request F-4, in rationals, and as document 000 has it: its line (7), and its rounding up.
use Rattle.std.specs.Prelude.{ℕ, ◌+◌, ◌≤◌, ◌≡◌}
use Rattle.numbers.specs.Rationals.{Rational, ◌≼◌, ◌≺◌, ◌≈◌, ◌⊕◌, ◌⊖◌, ◌·◌, ◌⊗◌, whole}
use Rattle.specification.specs.declared.Events.{Events}
use Rattle.specification.specs.declared.Needed.{Needed}
use Rattle.specification.specs.declared.Needed.TheVariants.{Nothing, Exact, PartOver}
use Rattle.specification.specs.Table.{Table, from, to}
use Rattle.specification.specs.Answers.{Timing, period_of, start_of}
use Rattle.specification.specs.Solutions.{ε}

-- a needed delay and the period of the sender, in ticks; a number of events has nothing back
module _ (needed period : Rational) where
  -- zero or less
  pub record NothingNeeded : Type 0 where
    pub holds : needed ≼ whole 0

  -- above zero, and an exact number of events
  pub record ExactEvents (events : Events) : Type 0 where
    pub none_back : events.1 ≡ 0
    pub above_zero : whole 0 ≺ needed
    pub exact : needed ≈ events.0 · period

  -- above zero, with a part over
  pub record EventsAndPart (events : Events) : Type 0 where
    pub none_back : events.1 ≡ 0
    pub above_zero : whole 0 ≺ needed
    pub part : events.0 · period ≺ needed
    pub less : needed ≺ (events.0 + 1) · period

  abbrev pub IsNeeded : Needed → Type 0
  IsNeeded Nothing = NothingNeeded
  IsNeeded (Exact events) = ExactEvents events
  IsNeeded (PartOver events) = EventsAndPart events

  -- one case holds, with one number of events, and no other
  pub record ExactlyOne : Type 0 where
    pub case : Needed
    pub holds : IsNeeded case
    pub only : (other : Needed) → IsNeeded other → other ≡ case

-- nothing, that number, or the whole events plus one
abbrev pub size_of : Needed → ℕ
size_of Nothing = 0
size_of (Exact events) = events.0
size_of (PartOver events) = events.0 + 1

module _ (t : Table) (r : Timing) (k : ℕ) where
  -- the delay that buffer k needs: the sender's start plus ε minus the receiver's start
  abbrev pub needed_delay : Rational
  needed_delay = start_of r (from t k) ⊕ ε t k ⊖ start_of r (to t k)

  pub record SizeByCases : Type 0 where
    pub one : ExactlyOne needed_delay (period_of r (from t k))
    pub size : r.size k ≡ size_of one.case

  -- document 000's lines (5) and (7) about buffer k with this δ, at the returned periods and starts
  pub record DeltaMeets (δ : Rational) : Type 0 where
    pub line_5 : start_of r (from t k) ⊕ ε t k ⊕ δ ⊗ period_of r (from t k) ≼ start_of r (to t k)
    pub line_7 : δ ≼ whole 0

  -- its Algorithm 2 looks for the greatest
  pub record GreatestDelta (δ : Rational) : Type 0 where
    pub meets : DeltaMeets δ
    pub greatest : (other : Rational) → DeltaMeets other → other ≼ δ

-- x rounded up
pub record RoundedUp (x : Rational) (n : ℕ) : Type 0 where
  pub enough : x ≼ whole n
  pub least : (m : ℕ) → x ≼ whole m → n ≤ m

-- the size of buffer k is −δ rounded up
pub record SizeRoundedUp (t : Table) (r : Timing) (k : ℕ) : Type 0 where
  pub δ : Rational
  pub greatest : GreatestDelta t r k δ
  pub rounded : RoundedUp (whole 0 ⊖ δ) (r.size k)
