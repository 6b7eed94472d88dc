-- What a fault says on its way out of a term.
use Rattle.std.specs.Prelude.{◌≡◌, Option, Some, None, Result, Ok, Err, IfSome, reverse}
use Rattle.lf_meaning.specs.Faults.{Fault}
use Rattle.lf_meaning.specs.Faults as meant
use Rattle.lf_check.specs.declared.stops.FaultKind.{FaultKind}
use Rattle.lf_check.specs.declared.stops.FaultKind.TheVariants as kind
use Rattle.lf_check.specs.declared.stops.Stop.{Stop}
use Rattle.lf_check.specs.declared.stops.Stop.TheVariants as stop

abbrev pub kind_of : FaultKind → meant.FaultKind
kind_of kind.UnknownConstant = meant.UnknownConstant
kind_of kind.NotAFunction = meant.NotAFunction
kind_of kind.NotCanonical = meant.NotCanonical
kind_of kind.Mismatch = meant.Mismatch
kind_of kind.Level = meant.Level

-- The fault, with its place from the outside in; none for want of memory.
abbrev pub stopped_by : Stop → Option Fault
stopped_by stop.Memory = None
stopped_by (stop.Fault kind inside_out) = Some (record { kind = kind_of kind; at = reverse inside_out.items })

-- The fault is the first one. Want of memory says nothing.
abbrev pub Stops : Stop → Option Fault → Type 0
Stops s first = IfSome (stopped_by s) (λ f. first ≡ Some f)

-- A check that is over: Ok where there is no fault, else at the first one.
abbrev pub Checked : Result (Unit {0}) Stop → Option Fault → Type 0
Checked (Ok _) first = first ≡ None
Checked (Err s) first = Stops s first

-- A synthesis that is over: with what the definitions find, or at its first fault.
abbrev pub Found : {A B : Type 0} → (A → B) → Result A Stop → Result B Fault → Type 0
Found read (Ok a) found = found ≡ Ok (read a)
Found read (Err s) found = IfSome (stopped_by s) (λ f. found ≡ Err f)
