-- What the answers of this crate say, in the words of the definitions.
use Rattle.std.specs.Prelude.{◌≡◌, Result, Ok, Err, ⊤}
use Rattle.list_laws.proofs.Members.{Member}
use Rattle.name_meaning.specs.Names.{Path}
use Rattle.lf_meaning.specs.Signatures.{Declaration}
use Rattle.link_meaning.specs.Refusals.{Refusal, Outcome}
use Rattle.library_meaning.specs.Faces.{TheoryFace}
use Rattle.mmt_syntax.specs.Readings.{read_span}
use Rattle.mmt_interface.specs.ReadRules.{read_rule}
use Rattle.mmt_interface.specs.Readings.{read_refusal}
use Rattle.elaborate.specs.declared.fault.ElabFault.{ElabFault}
use Rattle.elaborate.specs.declared.fault.ElabFault.TheVariants as expressions
use Rattle.link_setting.specs.Answers.{IsFirstRefusal}
use Rattle.link_setting.specs.declared.fault.LinkFault.{LinkFault}
use Rattle.link_setting.specs.declared.fault.LinkFault.TheVariants.{Broken, Memory}

-- The fault is this refusal. Want of memory says nothing.
abbrev pub IsRefusalOf : LinkFault → Refusal → Type 0
IsRefusalOf (Broken found) refusal = read_refusal found ≡ refusal
IsRefusalOf Memory refusal = ⊤

-- The fault is that of an expression, with this label.
abbrev pub IsLabelled : ElabFault → Path → LinkFault → Type 0
IsLabelled (expressions.Broken span rule) label fault = IsRefusalOf fault (record { span = read_span span; rule = read_rule rule; label = label })
IsLabelled expressions.Memory label fault = fault ≡ Memory

-- A test passes exactly where the definition's does.
abbrev pub Passes : Result ⊤ LinkFault → Outcome ⊤ → Type 0
Passes (Ok done) outcome = outcome ≡ Ok tt
Passes (Err fault) outcome = IsFirstRefusal fault outcome

-- The call answers what the definition does: the theory is then the one that it makes; else the fault is the first refusal.
abbrev pub Declares : Result ⊤ LinkFault → TheoryFace → Outcome TheoryFace → Type 0
Declares (Ok done) after outcome = outcome ≡ Ok after
Declares (Err fault) after outcome = IsFirstRefusal fault outcome

-- Each own constant of the theory has the theory's name.
abbrev pub IsNamed : TheoryFace → Type 0
IsNamed here = (declaration : Declaration) → Member declaration here.own → declaration.name.theory ≡ here.name
