-- The laws of faults, over the bytes of a text.
use Rattle.std.proofs.Common.{ℕ, arith}
use Rattle.span_meaning.specs.Spans.{StandsWithin}
use Rattle.fault_laws.specs.FaultLaws.{ObjectFaults, FamilyFaults, KindFaults, ClassFaults, ValueFaults, LinkRefusals, DeclarationRefusals, RefusalsStandInTexts}
use Rattle.fault_laws.proofs.ExpressionFaults.{object_faults, family_faults, kind_faults, class_faults, value_faults}
use Rattle.fault_laws.proofs.LinkFaults.{map_refuses}
use Rattle.fault_laws.proofs.ModuleFaults.{declare_refuses, refused_within}

pub object_within : ObjectFaults
object_within from to scope locals e family h = object_faults (StandsWithin from to) e scope locals family h

pub family_within : FamilyFaults
family_within from to scope locals e h = family_faults (StandsWithin from to) e scope locals h

pub kind_within : KindFaults
kind_within from to scope locals e h = kind_faults (StandsWithin from to) e scope locals h

pub class_within : ClassFaults
class_within from to scope e h = class_faults (StandsWithin from to) scope e h

pub value_within : ValueFaults
value_within from to scope e class h = value_faults (StandsWithin from to) scope e class h

nowhere : (bytes : ℕ) → StandsWithin 0 bytes (record { from = 0; to = 0 })
nowhere bytes = record { behind = omega arith; forward = omega arith; before = omega arith }

pub link_within : LinkRefusals
link_within bytes setting assigns h g = map_refuses (StandsWithin 0 bytes) (nowhere bytes) setting h assigns g

pub declaration_within : DeclarationRefusals
declaration_within bytes environment here decl h = declare_refuses (StandsWithin 0 bytes) (nowhere bytes) environment here decl h

pub refusals_stand_in_texts : RefusalsStandInTexts
refusals_stand_in_texts environment ungrounded name text refusal h = refused_within environment ungrounded name text refusal h
