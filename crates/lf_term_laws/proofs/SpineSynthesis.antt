-- A head synthesises with a row of arguments what it synthesises with them one by one.
use Rattle.std.proofs.Common.{suc, [], ◌∷◌, refl}
use Rattle.lf_meaning.specs.Terms.{App, FamilyApp}
use Rattle.lf_meaning.specs.SpineSynthesis.{SynthesisOfSpine, KindSynthesisOfSpine, FaultStays, KindFaultStays}

pub synthesised_spine : SynthesisOfSpine
synthesised_spine sig context r [] = refl
synthesised_spine sig context r (m ∷ ms) = synthesised_spine sig context (App r m) ms

pub synthesised_kind_spine : KindSynthesisOfSpine
synthesised_kind_spine sig context p [] = refl
synthesised_kind_spine sig context p (m ∷ ms) = synthesised_kind_spine sig context (FamilyApp p m) ms

pub fault_stays : FaultStays
fault_stays sig context f i [] = refl
fault_stays sig context f i (m ∷ ms) = fault_stays sig context f (suc i) ms

pub kind_fault_stays : KindFaultStays
kind_fault_stays sig context f i [] = refl
kind_fault_stays sig context f i (m ∷ ms) = kind_fault_stays sig context f (suc i) ms
