-- What is returned of a fault of an input.
use Rattle.std.specs.Prelude.{ℕ}
use Rattle.specification.specs.declared.JoinOutcome.{JoinOutcome}
use Rattle.refusals.specs.Numbers.{number_of}
use Rattle.joins.specs.declared.inputs.Input.{Input}
use Rattle.joins.specs.declared.inputs.Input.TheVariants.{First, Second, Added}
use Rattle.joins.specs.declared.inputs.InputFault.{InputFault}

abbrev pub input_of : Input → ℕ
input_of First = 1
input_of Second = 2
input_of Added = 3

-- nothing is written
abbrev pub refusal_of : InputFault → JoinOutcome
refusal_of f = record { number = number_of f.fault.refusal; place = f.fault.place; input = input_of f.input; written = 0 }
