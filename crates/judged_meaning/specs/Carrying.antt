-- Carrying a judgement along a view (Rabe and Kohlhase 2013, section 4: morphisms carry judgements; which texts are judgements,
-- and the order of tests, are this profile's).
use Rattle.std.specs.Prelude.{ℕ, [], Option, Some, None, Ok, Err}
use Rattle.name_meaning.specs.Names.{Name, Text}
use Rattle.lf_meaning.specs.Terms.{Object, Family}
use Rattle.text_meaning.specs.Trees.{Judgement}
use Rattle.text_meaning.specs.Reading as reading
use Rattle.text_meaning.specs.TextAnswers.{read}
use Rattle.lf_meaning.specs.HeadMaps.{HeadMap}
use Rattle.translation_meaning.specs.Translation.{translate_object, translate_family}
use Rattle.library_meaning.specs.Faces.{TheoryFace, ViewFace, Environment, theory_of, view_of}
use Rattle.library_meaning.specs.Resolution.{Scope}
use Rattle.verdict_meaning.specs.Below.Answers.{Fault, Answer}
use Rattle.verdict_meaning.specs.Below.Rules.{Rule}
use Rattle.verdict_meaning.specs.Below.Expansion.{expand_object, expand_family}
use Rattle.verdict_meaning.specs.Modules.{scope_in}

-- A judgement is carried to this object and family; or no accepted view has the name; or the judgement breaks a rule at a
-- place of its text.
pub data Carriage : Type 0 where
  CarriedTo : (object : Object) → (family : Family) → Carriage
  NoSuchView : Carriage
  IllBy : (fault : Fault) → Carriage

-- A text that does not read breaks a rule where reading stops, over no byte.
abbrev pub fault_at : ℕ → Rule → Fault
fault_at at rule = record { span = record { from = at; to = at }; rule = rule }

-- An object over the source, at this family, is carried with it along the map; or it breaks a rule.
abbrev pub carried_object : HeadMap → Family → Answer Object → Carriage
carried_object along family (Ok object) = CarriedTo (translate_object along object) (translate_family along family)
carried_object along family (Err fault) = IllBy fault

-- The family of a judgement over the source, and then its object.
abbrev pub carried_family : HeadMap → Scope → Judgement → Answer Family → Carriage
carried_family along scope judgement (Ok family) = carried_object along family (expand_object scope [] judgement.object family)
carried_family along scope judgement (Err fault) = IllBy fault

-- A judgement over the whole source theory. The source of an accepted view is accepted.
abbrev pub carried_over : Environment → ViewFace → Judgement → Option TheoryFace → Carriage
carried_over environment view judgement None = NoSuchView
carried_over environment view judgement (Some source) =
    carried_family view.map (scope_in environment source) judgement (expand_family (scope_in environment source) [] judgement.family)

-- What a text that is read so comes to. A module in place of a judgement is not what reading a judgement answers.
abbrev pub carried_tree : Environment → ViewFace → reading.Tree → Carriage
carried_tree environment view (reading.ModuleTree tree) = IllBy (fault_at 0 Rule.Syntax)
carried_tree environment view (reading.JudgementTree judgement) = carried_over environment view judgement (theory_of environment view.domain)

abbrev pub carried_text : Environment → ViewFace → reading.Answer → Carriage
carried_text environment view (reading.Read tree) = carried_tree environment view tree
carried_text environment view (reading.Syntax at) = IllBy (fault_at at Rule.Syntax)
carried_text environment view (reading.TooDeep at) = IllBy (fault_at at Rule.TooDeep)
carried_text environment view (reading.Unsupported at) = IllBy (fault_at at Rule.Unsupported)

-- What carrying the judgement of a text along the view of this name comes to. Whether there is such a view is tested
-- before the text is read.
abbrev pub carried_along : Environment → Option ViewFace → Text → Carriage
carried_along environment None text = NoSuchView
carried_along environment (Some view) text = carried_text environment view (read reading.JudgementText text)

unfoldable pub carry : Environment → Name → Text → Carriage
carry environment name text = carried_along environment (view_of environment name) text
