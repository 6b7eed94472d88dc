-- What the answer of this crate says, in the words of the definitions.
use Rattle.std.specs.Prelude.{◌≡◌, ◌⊎◌, Result, Ok, Err, ⊤}
use Rattle.name_meaning.specs.Names.{Path}
use Rattle.library_meaning.specs.Words as words
use Rattle.elaborate_meaning.specs.Rules as rules
use Rattle.link_meaning.specs.Refusals.{Outcome, refused}
use Rattle.mmt_syntax.specs.Readings.{read_span}
use Rattle.mmt_interface.specs.ReadRules.{read_rule}
use Rattle.morphism_words.specs.Readings.{read_link}
use Rattle.morphism_words.specs.declared.link.Link.{Link}
use Rattle.morphism_words.specs.declared.fault.MorphFault.{MorphFault}
use Rattle.morphism_words.specs.declared.fault.MorphFault.TheVariants.{Module, UnknownMorphism, Ends, Memory}

-- The rule is one of those that a word breaks by its module: that is absent, of the other kind, or refused.
abbrev pub IsModuleRule : rules.Rule → Type 0
IsModuleRule rule = (rule ≡ rules.Rule.UnknownModule) ⊎ (rule ≡ rules.Rule.WrongModuleKind) ⊎ (rule ≡ rules.Rule.DependencyRefused)

-- The fault is the refusal of the definition. Want of memory says nothing.
abbrev pub IsFirstFault : MorphFault → Path → Outcome words.Link → Type 0
IsFirstFault (Module span rule) label outcome = IsModuleRule (read_rule rule) × (outcome ≡ refused (read_span span) (read_rule rule) label)
IsFirstFault (UnknownMorphism span) label outcome = outcome ≡ refused (read_span span) rules.Rule.UnknownName label
IsFirstFault (Ends span) label outcome = outcome ≡ refused (read_span span) rules.Rule.MorphismEnds label
IsFirstFault Memory label outcome = ⊤

-- The call answers what the definition does, whose refusal has this label: the link, or the first fault.
abbrev pub IsMeaning : Result Link MorphFault → Path → Outcome words.Link → Type 0
IsMeaning (Ok link) label outcome = outcome ≡ Ok (read_link link)
IsMeaning (Err fault) label outcome = IsFirstFault fault label outcome
