-- The refusal of a text that does not read.
use Rattle.std.specs.Prelude.{◌≡◌, ℕ, [], ◌∷◌}
use Rattle.name_meaning.specs.Names.{Name}
use Rattle.elaborate_meaning.specs.Rules.{Rule}
use Rattle.link_meaning.specs.Refusals.{Refusal}
use Rattle.link_setting.specs.declared.fault.LinkFault.{LinkFault}
use Rattle.link_setting.specs.declared.fault.LinkFault.TheVariants.{Memory}
use Rattle.twelf_expressions.specs.declared.fault.ReadFault.{ReadFault}
use Rattle.twelf_expressions.specs.declared.fault.ReadFault.TheVariants as faults
use Rattle.module_verdicts.specs.Answers.{IsRefusalOf}

-- This rule is broken at a place, with the name of the module as its label.
abbrev pub refusal_at : Name → Rule → ℕ → Refusal
refusal_at name rule at = record { span = record { from = at; to = at }; rule = rule; label = name ∷ [] }

-- The fault is the refusal for the fault of reading.
abbrev pub IsUnread : Name → ReadFault → LinkFault → Type 0
IsUnread name (faults.Syntax at) fault = IsRefusalOf fault (refusal_at name Rule.Syntax at)
IsUnread name (faults.TooDeep at) fault = IsRefusalOf fault (refusal_at name Rule.TooDeep at)
IsUnread name (faults.Unsupported at) fault = IsRefusalOf fault (refusal_at name Rule.Unsupported at)
IsUnread name faults.Memory fault = fault ≡ Memory
