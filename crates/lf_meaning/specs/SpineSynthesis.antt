-- What a head synthesises with a row of arguments taken at once.
use Rattle.std.specs.Prelude.{◌≡◌, ℕ, suc, ◌+◌, List, [], ◌∷◌, Result, Err}
use Rattle.lf_meaning.specs.Terms.{Object, Atomic, AtomicFamily, Family, Kind, Context, apply_all, family_apply_all, argument_count, family_argument_count}
use Rattle.lf_meaning.specs.Signatures.{Signature}
use Rattle.lf_meaning.specs.Faults.{Fault, application_answer, family_application_answer, object_fault, synthesised, synthesised_kind}

-- The classifier so far takes the arguments from left to right, of which the first is argument i.
abbrev pub arguments_answer : Signature → Context → Result Family Fault → ℕ → List Object → Result Family Fault
arguments_answer sig context so_far i [] = so_far
arguments_answer sig context so_far i (m ∷ ms) = arguments_answer sig context (application_answer so_far (2 + i) m (object_fault sig context m)) (suc i) ms

abbrev pub family_arguments_answer : Signature → Context → Result Kind Fault → ℕ → List Object → Result Kind Fault
family_arguments_answer sig context so_far i [] = so_far
family_arguments_answer sig context so_far i (m ∷ ms) = family_arguments_answer sig context (family_application_answer so_far (2 + i) m (object_fault sig context m)) (suc i) ms

abbrev pub SynthesisOfSpine : Type 0
SynthesisOfSpine = (sig : Signature) (context : Context) (r : Atomic) (ms : List Object) → synthesised sig context (apply_all r ms) ≡ arguments_answer sig context (synthesised sig context r) (argument_count r) ms

abbrev pub KindSynthesisOfSpine : Type 0
KindSynthesisOfSpine = (sig : Signature) (context : Context) (p : AtomicFamily) (ms : List Object) → synthesised_kind sig context (family_apply_all p ms) ≡ family_arguments_answer sig context (synthesised_kind sig context p) (family_argument_count p) ms

-- After a fault no argument counts.
abbrev pub FaultStays : Type 0
FaultStays = (sig : Signature) (context : Context) (fault : Fault) (i : ℕ) (ms : List Object) → arguments_answer sig context (Err fault) i ms ≡ Err fault

abbrev pub KindFaultStays : Type 0
KindFaultStays = (sig : Signature) (context : Context) (fault : Fault) (i : ℕ) (ms : List Object) → family_arguments_answer sig context (Err fault) i ms ≡ Err fault
