-- The input stands within the buffer; each read adds to it or is the last.
use Rattle.std.proofs.Common.{◌≡◌, ℕ, ◌+◌, ◌-◌, ◌≤◌, length, take}
use Rattle.std.specs.Io.KnownBytes.{Consumes, IsAtEnd}
use Rattle.input.specs.declared.End.{End}
use Rattle.input.specs.declared.End.TheVariants.{More, Reached, Failed}
use Rattle.input.proofs.fill.Given as goal

abbrev pub invariant-loop-reader : goal.invariant-loop-reader
invariant-loop-reader g l = record {
  within : l.input.count ≤ length l.buf;
  bytes : Consumes (g.R.Read.remaining l.initial.reader) (g.R.Read.remaining l.reader) (take l.input.count l.buf);
  end : l.input.end ≡ Reached → IsAtEnd (g.R.Read.remaining l.reader);
}

-- the read that is the last adds nothing
abbrev last : End → ℕ
last More = 1
last Reached = 0
last Failed = 0

abbrev pub decreases-loop-reader : goal.decreases-loop-reader
decreases-loop-reader g l = length l.initial.buf - l.input.count + last l.input.end
