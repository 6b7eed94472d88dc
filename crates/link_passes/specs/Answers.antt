-- What the answers of the calls inside say, in the words of the definitions.
use Rattle.std.specs.Prelude.{◌≡◌, ⊤}
use Rattle.name_meaning.specs.Names.{Path}
use Rattle.text_meaning.specs.Tokens.{Span}
use Rattle.elaborate_meaning.specs.Rules.{Rule}
use Rattle.mmt_interface.specs.Readings.{read_refusal}
use Rattle.link_setting.specs.declared.fault.LinkFault.{LinkFault}
use Rattle.link_setting.specs.declared.fault.LinkFault.TheVariants.{Broken, Memory}

-- The fault says that this rule is broken here, with this label. Want of memory says nothing.
abbrev pub Refuses : LinkFault → Span → Rule → Path → Type 0
Refuses (Broken refusal) span rule label = read_refusal refusal ≡ record { span = span; rule = rule; label = label }
Refuses Memory span rule label = ⊤
