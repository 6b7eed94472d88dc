-- Labels of assignments, and refusals that have them.
use Rattle.std.specs.Prelude.{◌≡◌, Option, Some, None, ⊤}
use Rattle.name_meaning.specs.Names.{Path}
use Rattle.text_meaning.specs.Tokens.{Span}
use Rattle.elaborate_meaning.specs.Rules.{Rule}
use Rattle.link_meaning.specs.Assignments.{Setting, label_along}
use Rattle.mmt_interface.specs.Readings.{read_refusal}
use Rattle.link_setting.specs.declared.fault.LinkFault.{LinkFault}
use Rattle.link_setting.specs.declared.fault.LinkFault.TheVariants.{Broken, Memory}

-- The label of an assignment to a path; without one, the link's own.
abbrev pub label_of : Setting → Option Path → Path
label_of setting None = setting.label
label_of setting (Some path) = label_along setting path

-- The fault is this refusal. Want of memory says nothing.
abbrev pub IsRefused : LinkFault → Span → Rule → Path → Type 0
IsRefused (Broken refusal) span rule label = read_refusal refusal ≡ record { span = span; rule = rule; label = label }
IsRefused Memory span rule label = ⊤
