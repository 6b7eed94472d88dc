-- Laws of faults and refusals (this profile).
use Rattle.std.specs.Prelude.{◌≡◌, ◌↔◌, ℕ, Bool, true, List, length, Some}
use Rattle.name_meaning.specs.Names.{Name, Text, is_among}
use Rattle.lf_meaning.specs.Terms.{Family}
use Rattle.lf_meaning.specs.Signatures.{Class}
use Rattle.edit_log_meaning.specs.Log.{Library, text_of}
use Rattle.module_graph_meaning.specs.Walks.{is_grounded, is_ungrounded}
use Rattle.library_meaning.specs.Faces.{TheoryFace, Environment}
use Rattle.library_meaning.specs.Resolution.{Scope}
use Rattle.text_meaning.specs.Trees.{Expr, Assign, Decl}
use Rattle.text_meaning.specs.Dependencies.{dependencies}
use Rattle.elaborate_meaning.specs.Rules.{Rule}
use Rattle.elaborate_meaning.specs.Locals.{Locals}
use Rattle.elaborate_meaning.specs.Expansion.{expand_object, expand_family, expand_kind}
use Rattle.elaborate_meaning.specs.Values.{expand_class, expand_value}
use Rattle.link_meaning.specs.Refusals.{Refusal}
use Rattle.link_meaning.specs.Assignments.{Setting}
use Rattle.link_meaning.specs.Passes.{link_map}
use Rattle.verdict_meaning.specs.Modules.{declare}
use Rattle.verdict_meaning.specs.Verdicts.{Refused, judge}
use Rattle.verdict_meaning.specs.Rounds.{others_reached, verdict_of}
use Rattle.span_meaning.specs.Spans.{StandsWithin, ExprStands, AssignsStand, DeclStands}
use Rattle.fault_laws.specs.RulesBroken.{expression_rules, link_rules, module_rules, Tells, Refuses}

-- The fault of an expression stands within the bytes within which the expression does, and breaks one of the rules of expressions.
abbrev pub ObjectFaults : Type 0
ObjectFaults =
    (from to : ℕ) (scope : Scope) (locals : Locals) (expression : Expr) (family : Family) → ExprStands (StandsWithin from to) expression
    → Tells (StandsWithin from to) expression_rules (expand_object scope locals expression family)

abbrev pub FamilyFaults : Type 0
FamilyFaults =
    (from to : ℕ) (scope : Scope) (locals : Locals) (expression : Expr) → ExprStands (StandsWithin from to) expression
    → Tells (StandsWithin from to) expression_rules (expand_family scope locals expression)

abbrev pub KindFaults : Type 0
KindFaults =
    (from to : ℕ) (scope : Scope) (locals : Locals) (expression : Expr) → ExprStands (StandsWithin from to) expression
    → Tells (StandsWithin from to) expression_rules (expand_kind scope locals expression)

abbrev pub ClassFaults : Type 0
ClassFaults =
    (from to : ℕ) (scope : Scope) (expression : Expr) → ExprStands (StandsWithin from to) expression
    → Tells (StandsWithin from to) expression_rules (expand_class scope expression)

abbrev pub ValueFaults : Type 0
ValueFaults =
    (from to : ℕ) (scope : Scope) (expression : Expr) (class : Class) → ExprStands (StandsWithin from to) expression
    → Tells (StandsWithin from to) expression_rules (expand_value scope expression class)

-- The refusal of a link stands within the bytes of the text within which its name and its assignments stand, and breaks one of
-- the rules of links.
abbrev pub LinkRefusals : Type 0
LinkRefusals =
    (bytes : ℕ) (setting : Setting) (assigns : List Assign) → StandsWithin 0 bytes setting.span → AssignsStand (StandsWithin 0 bytes) assigns
    → Refuses (StandsWithin 0 bytes) (link_rules setting.structure) (link_map setting assigns)

-- So does that of a declaration.
abbrev pub DeclarationRefusals : Type 0
DeclarationRefusals =
    (bytes : ℕ) (environment : Environment) (here : TheoryFace) (decl : Decl) → DeclStands (StandsWithin 0 bytes) decl
    → Refuses (StandsWithin 0 bytes) module_rules (declare environment here decl)

-- A refused module has its place within its text, whatever is known of others and whichever names are ungrounded.
abbrev pub RefusalsStandInTexts : Type 0
RefusalsStandInTexts =
    (environment : Environment) (ungrounded : Name → Bool) (name : Name) (text : Text) (refusal : Refusal)
    → judge environment ungrounded name text ≡ Refused refusal → StandsWithin 0 (length text) refusal.span

-- So it is with the verdicts of a library.
abbrev pub VerdictsStandInTexts : Type 0
VerdictsStandInTexts =
    (library : Library) (name : Name) (text : Text) (refusal : Refusal) → text_of library name ≡ Some text
    → verdict_of library name ≡ Some (Refused refusal) → StandsWithin 0 (length text) refusal.span

-- A module is refused as a cycle exactly where it is ungrounded.
abbrev pub CyclesAreUngrounded : Type 0
CyclesAreUngrounded =
    (library : Library) (name : Name)
    → ((refusal : Refusal) × (verdict_of library name ≡ Some (Refused refusal)) × (refusal.rule ≡ Rule.Cycle)) ↔ (is_ungrounded dependencies library name ≡ true)

-- A name that is grounded in one library is so in another that has the same text under it, and the same verdicts of all that
-- it reaches in the first.
abbrev pub VerdictsDecideGrounds : Type 0
VerdictsDecideGrounds =
    (library other : Library) (name : Name) (text : Text) → text_of library name ≡ Some text → text_of other name ≡ Some text
    → is_grounded dependencies library name ≡ true
    → ((reached : Name) → is_among (others_reached library name) reached ≡ true → verdict_of library reached ≡ verdict_of other reached)
    → is_grounded dependencies other name ≡ true
