-- The rule that a value of this crate stands for.
use Rattle.judged_meaning.specs.Below.Rules as rules
use Rattle.mmt_interface.specs.declared.rule.Rule.{Rule}
use Rattle.mmt_interface.specs.declared.rule.Rule.TheVariants as rule

abbrev pub read_rule : Rule → rules.Rule
read_rule rule.Syntax = rules.Rule.Syntax
read_rule rule.TooDeep = rules.Rule.TooDeep
read_rule rule.Unsupported = rules.Rule.Unsupported
read_rule rule.WrongName = rules.Rule.WrongName
read_rule rule.Cycle = rules.Rule.Cycle
read_rule rule.UnknownModule = rules.Rule.UnknownModule
read_rule rule.WrongModuleKind = rules.Rule.WrongModuleKind
read_rule rule.DependencyRefused = rules.Rule.DependencyRefused
read_rule rule.DuplicateName = rules.Rule.DuplicateName
read_rule rule.UnknownName = rules.Rule.UnknownName
read_rule rule.AmbiguousName = rules.Rule.AmbiguousName
read_rule rule.Level = rules.Rule.Level
read_rule rule.NotAFunction = rules.Rule.NotAFunction
read_rule rule.NotCanonical = rules.Rule.NotCanonical
read_rule rule.Mismatch = rules.Rule.Mismatch
read_rule rule.Annotation = rules.Rule.Annotation
read_rule rule.UnknownTarget = rules.Rule.UnknownTarget
read_rule rule.DoubleAssignment = rules.Rule.DoubleAssignment
read_rule rule.MissingAssignment = rules.Rule.MissingAssignment
read_rule rule.DefinitionClash = rules.Rule.DefinitionClash
read_rule rule.IncludeNotCovered = rules.Rule.IncludeNotCovered
read_rule rule.MorphismsDisagree = rules.Rule.MorphismsDisagree
read_rule rule.MorphismEnds = rules.Rule.MorphismEnds
read_rule rule.FamilyNotAtomic = rules.Rule.FamilyNotAtomic
