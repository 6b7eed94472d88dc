-- What carrying comes to, with no order of tests (Rabe and Kohlhase 2013, section 4: morphisms carry judgements; the rest is
-- this profile).
use Rattle.std.specs.Prelude.{◌≡◌, ◌↔◌, ℕ, [], Some, Ok, Err}
use Rattle.name_meaning.specs.Names.{Name, Text}
use Rattle.lf_meaning.specs.Terms.{Object, Family}
use Rattle.text_meaning.specs.Trees.{Judgement}
use Rattle.text_meaning.specs.Reading.{JudgementText, JudgementTree, Read, Syntax, TooDeep, Unsupported, Reads}
use Rattle.translation_meaning.specs.Translation.{translate_object, translate_family}
use Rattle.library_meaning.specs.Faces.{TheoryFace, ViewFace, IsView, Environment, theory_of}
use Rattle.elaborate_meaning.specs.Rules.{Rule}
use Rattle.elaborate_meaning.specs.Answers.{Fault}
use Rattle.elaborate_meaning.specs.Expansion.{expand_object, expand_family}
use Rattle.elaborate_meaning.specs.Stands.{StandsObject, StandsFamily}
use Rattle.verdict_meaning.specs.Modules.{scope_in}
use Rattle.judged_meaning.specs.Carrying.{CarriedTo, NoSuchView, IllBy, fault_at, carry}

-- The name is a view's, and the text is a judgement that stands for an object and a family over the view's whole domain.
-- The object and the family here are the translations of these along the view.
pub record IsTranslated (environment : Environment) (name : Name) (text : Text) (object : Object) (family : Family) : Type 0 where
  pub view : ViewFace
  pub view_is : environment name ≡ IsView view
  pub judgement : Judgement
  pub reads : Reads JudgementText text (Read (JudgementTree judgement))
  pub source : TheoryFace
  pub source_is : theory_of environment view.domain ≡ Some source
  pub from_object : Object
  pub from_family : Family
  pub family_stands : StandsFamily (scope_in environment source) [] judgement.family from_family
  pub object_stands : StandsObject (scope_in environment source) [] judgement.object from_family from_object
  pub object_is : object ≡ translate_object view.map from_object
  pub family_is : family ≡ translate_family view.map from_family

-- An object and a family are carried exactly where they are such translations, whatever is known.
abbrev pub CarryIsTranslation : Type 0
CarryIsTranslation =
    (environment : Environment) (name : Name) (text : Text) (object : Object) (family : Family)
    → (carry environment name text ≡ CarriedTo object family) ↔ IsTranslated environment name text object family

-- A name that is no view's carries nothing; and along a view whose domain is a theory it is never said that there is none.
abbrev pub OnlyViewsCarry : Type 0
OnlyViewsCarry =
    (environment : Environment) (name : Name) (text : Text) → ((view : ViewFace) → environment name ≡ IsView view → ⊥)
    → carry environment name text ≡ NoSuchView

abbrev pub ViewsAreFound : Type 0
ViewsAreFound =
    (environment : Environment) (name : Name) (view : ViewFace) (source : TheoryFace) (text : Text) → environment name ≡ IsView view
    → theory_of environment view.domain ≡ Some source → carry environment name text ≡ NoSuchView → ⊥

-- Along a view, a text that does not read is refused where reading stops, over no byte, by the rule that says why.
abbrev pub UnreadIsIll : Type 0
UnreadIsIll =
    (environment : Environment) (name : Name) (view : ViewFace) (text : Text) (at : ℕ) → environment name ≡ IsView view
    → (Reads JudgementText text (Syntax at) → carry environment name text ≡ IllBy (fault_at at Rule.Syntax))
    × (Reads JudgementText text (TooDeep at) → carry environment name text ≡ IllBy (fault_at at Rule.TooDeep))
    × (Reads JudgementText text (Unsupported at) → carry environment name text ≡ IllBy (fault_at at Rule.Unsupported))

-- Along a view, a judgement that reads is refused by the fault of its family over the whole domain, and else by that of its
-- object.
abbrev pub FamilyIsIllFirst : Type 0
FamilyIsIllFirst =
    (environment : Environment) (name : Name) (view : ViewFace) (source : TheoryFace) (text : Text) (judgement : Judgement) (fault : Fault)
    → environment name ≡ IsView view → theory_of environment view.domain ≡ Some source
    → Reads JudgementText text (Read (JudgementTree judgement))
    → expand_family (scope_in environment source) [] judgement.family ≡ Err fault → carry environment name text ≡ IllBy fault

abbrev pub ObjectIsIllNext : Type 0
ObjectIsIllNext =
    (environment : Environment) (name : Name) (view : ViewFace) (source : TheoryFace) (text : Text) (judgement : Judgement) (family : Family) (fault : Fault)
    → environment name ≡ IsView view → theory_of environment view.domain ≡ Some source
    → Reads JudgementText text (Read (JudgementTree judgement))
    → expand_family (scope_in environment source) [] judgement.family ≡ Ok family
    → expand_object (scope_in environment source) [] judgement.object family ≡ Err fault → carry environment name text ≡ IllBy fault
