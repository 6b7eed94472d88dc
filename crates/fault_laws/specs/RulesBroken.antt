-- Which rules can break where (this profile).
use Rattle.std.specs.Prelude.{◌≡◌, true, List, [], ◌∷◌, ◌++◌, Option, Some, None, Ok, Err, nat_eq, ⊤}
use Rattle.std.specs.List.{list_any}
use Rattle.name_meaning.specs.Names.{Name}
use Rattle.text_meaning.specs.Tokens.{Span}
use Rattle.elaborate_meaning.specs.Rules.{Rule, number_of}
use Rattle.elaborate_meaning.specs.Answers.{Answer}
use Rattle.link_meaning.specs.Refusals.{Outcome}

-- The rule is one of these.
abbrev pub IsOneOf : List Rule → Rule → Type 0
IsOneOf rules rule = list_any (λ (other : Rule). nat_eq (number_of other) (number_of rule)) rules ≡ true

-- The rules that an expression can break.
abbrev pub expression_rules : List Rule
expression_rules = Rule.UnknownName ∷ Rule.AmbiguousName ∷ Rule.Level ∷ Rule.NotAFunction ∷ Rule.NotCanonical ∷ Rule.Mismatch ∷ Rule.Annotation ∷ Rule.FamilyNotAtomic ∷ []

-- An undefined constant without an assignment is missing in a view alone.
abbrev pub copy_rules : Option Name → List Rule
copy_rules None = Rule.MissingAssignment ∷ []
copy_rules (Some structure) = []

-- The rules that the passes over a link can break beside those of its values.
abbrev pub pass_rules : Option Name → List Rule
pass_rules structure =
    Rule.UnknownModule ∷ Rule.WrongModuleKind ∷ Rule.DependencyRefused ∷ Rule.UnknownTarget ∷ Rule.DoubleAssignment ∷ Rule.DefinitionClash ∷ Rule.IncludeNotCovered ∷ Rule.MorphismsDisagree ∷ Rule.MorphismEnds
    ∷ copy_rules structure

-- The rules that a link can break, of this structure or of a view.
abbrev pub link_rules : Option Name → List Rule
link_rules structure = expression_rules ++ pass_rules structure

-- The rules that the tree of a module can break by its tests: all that links can, and names that stand twice.
abbrev pub module_rules : List Rule
module_rules = link_rules None ++ (Rule.DuplicateName ∷ [])

-- The rules that a grounded module can break: these, a name that is not the written one, and those of texts that do not read.
abbrev pub grounded_rules : List Rule
grounded_rules = module_rules ++ (Rule.WrongName ∷ Rule.Syntax ∷ Rule.TooDeep ∷ Rule.Unsupported ∷ [])

-- A fault stands at a span with the property, and breaks one of these rules.
abbrev pub Tells : (Span → Type 0) → List Rule → {A : Type 0} → Answer A → Type 0
Tells P rules (Ok value) = ⊤
Tells P rules (Err fault) = P fault.span × IsOneOf rules fault.rule

-- So does a refusal.
abbrev pub Refuses : (Span → Type 0) → List Rule → {A : Type 0} → Outcome A → Type 0
Refuses P rules (Ok value) = ⊤
Refuses P rules (Err refusal) = P refusal.span × IsOneOf rules refusal.rule
