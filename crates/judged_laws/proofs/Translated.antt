-- What is carried is the translation of the judgement that the text stands for, and back.
use Rattle.std.proofs.Common.{◌≡◌, [], Option, Some, None, Ok, Err, refl, sym, ap, ap₂, ◌∙◌, subst}
use Rattle.name_meaning.specs.Names.{Name, Text}
use Rattle.lf_meaning.specs.Terms.{Object, Family}
use Rattle.text_meaning.specs.Trees.{Judgement}
use Rattle.text_meaning.specs.Reading.{JudgementText, ModuleTree, JudgementTree, Answer, Read, Syntax, TooDeep, Unsupported, Reads}
use Rattle.text_meaning.specs.TextAnswers.{read}
use Rattle.reading_laws.proofs.OneAnswer.{one_reading}
use Rattle.library_meaning.specs.Faces.{TheoryFace, ViewFace, Known, IsAbsent, IsRefused, IsTheory, IsView, view_face, Environment, theory_of}
use Rattle.elaborate_meaning.specs.Answers as answers
use Rattle.elaborate_meaning.specs.Expansion.{expand_object, expand_family}
use Rattle.elaborate_laws.proofs.Sound.{object_sound, family_sound}
use Rattle.elaborate_laws.proofs.Complete.{object_complete, family_complete}
use Rattle.verdict_meaning.specs.Modules.{scope_in}
use Rattle.judged_meaning.specs.Carrying.{CarriedTo, NoSuchView, carried_object, carried_family, carried_over, carried_text, carried_along, carry}
use Rattle.judged_laws.specs.CarryingLaws.{IsTranslated, CarryIsTranslation, OnlyViewsCarry, ViewsAreFound, UnreadIsIll, FamilyIsIllFirst, ObjectIsIllNext}

objects_same : {m n : Object} {a b : Family} → CarriedTo m a ≡ CarriedTo n b → m ≡ n
objects_same e = cc

families_same : {m n : Object} {a b : Family} → CarriedTo m a ≡ CarriedTo n b → a ≡ b
families_same e = cc

module _ (environment : Environment) (name : Name) (text : Text) (object : Object) (family : Family) where
  -- ---- what is carried is translated

  module _ (view : ViewFace) (view_is : environment name ≡ IsView view) where
    module _ (judgement : Judgement) (reads : Reads JudgementText text (Read (JudgementTree judgement))) (source : TheoryFace) (source_is : theory_of environment view.domain ≡ Some source) where
      by_object : (from_family : Family) (answer : answers.Answer Object) → expand_family (scope_in environment source) [] judgement.family ≡ Ok from_family → expand_object (scope_in environment source) [] judgement.object from_family ≡ answer
          → carried_object view.map from_family answer ≡ CarriedTo object family → IsTranslated environment name text object family
      by_object from_family (Ok from_object) f g h =
          record {
            view = view;
            view_is = view_is;
            judgement = judgement;
            reads = reads;
            source = source;
            source_is = source_is;
            from_object = from_object;
            from_family = from_family;
            family_stands = family_sound judgement.family (scope_in environment source) [] from_family f;
            object_stands = object_sound judgement.object (scope_in environment source) [] from_family from_object g;
            object_is = sym (objects_same h);
            family_is = sym (families_same h);
          }
      by_object from_family (Err fault) f g h = absurd (cc)

      by_family : (answer : answers.Answer Family) → expand_family (scope_in environment source) [] judgement.family ≡ answer
          → carried_family view.map (scope_in environment source) judgement answer ≡ CarriedTo object family → IsTranslated environment name text object family
      by_family (Ok from_family) f h = by_object from_family (expand_object (scope_in environment source) [] judgement.object from_family) f refl h
      by_family (Err fault) f h = absurd (cc)

    by_source : (judgement : Judgement) → Reads JudgementText text (Read (JudgementTree judgement)) → (o : Option TheoryFace) → theory_of environment view.domain ≡ o
        → carried_over environment view judgement o ≡ CarriedTo object family → IsTranslated environment name text object family
    by_source judgement reads None e h = absurd (cc)
    by_source judgement reads (Some source) e h = by_family judgement reads source e (expand_family (scope_in environment source) [] judgement.family) refl h

    by_reading : (answer : Answer) → read JudgementText text ≡ answer → carried_text environment view answer ≡ CarriedTo object family → IsTranslated environment name text object family
    by_reading (Read (ModuleTree tree)) e h = absurd (cc)
    by_reading (Read (JudgementTree judgement)) e h =
        by_source judgement (subst (Reads JudgementText text) e (one_reading JudgementText text).is_read) (theory_of environment view.domain) refl h
    by_reading (Syntax at) e h = absurd (cc)
    by_reading (TooDeep at) e h = absurd (cc)
    by_reading (Unsupported at) e h = absurd (cc)

  by_known : (known : Known) → environment name ≡ known → carried_along environment (view_face known) text ≡ CarriedTo object family → IsTranslated environment name text object family
  by_known IsAbsent e h = absurd (cc)
  by_known IsRefused e h = absurd (cc)
  by_known (IsTheory face) e h = absurd (cc)
  by_known (IsView view) e h = by_reading view e (read JudgementText text) refl h

  -- ---- what is translated is carried

  carried : IsTranslated environment name text object family → carried_along environment (view_face (environment name)) text ≡ CarriedTo object family
  carried t =
      let scope = scope_in environment t.source in
      ap (λ k. carried_along environment (view_face k) text) t.view_is
      ∙ ap (carried_text environment t.view) (sym ((one_reading JudgementText text).only (Read (JudgementTree t.judgement)) t.reads))
      ∙ ap (carried_over environment t.view t.judgement) t.source_is
      ∙ ap (carried_family t.view.map scope t.judgement) (family_complete t.judgement.family scope [] t.from_family t.family_stands)
      ∙ ap (carried_object t.view.map t.from_family) (object_complete t.judgement.object scope [] t.from_family t.from_object t.object_stands)
      ∙ ap₂ CarriedTo (sym t.object_is) (sym t.family_is)

pub carry_is_translation : CarryIsTranslation
unfolding carry
carry_is_translation environment name text object family =
    ((λ h. by_known environment name text object family (environment name) refl h), (λ t. carried environment name text object family t))

-- ---- what is refused

found_no_view : (environment : Environment) (text : Text) (known : Known) → ((view : ViewFace) → known ≡ IsView view → ⊥) → carried_along environment (view_face known) text ≡ NoSuchView
found_no_view environment text IsAbsent h = refl
found_no_view environment text IsRefused h = refl
found_no_view environment text (IsTheory face) h = refl
found_no_view environment text (IsView view) h = absurd (h view refl)

pub only_views_carry : OnlyViewsCarry
unfolding carry
only_views_carry environment name text h = found_no_view environment text (environment name) h

module _ (environment : Environment) (name : Name) (view : ViewFace) (text : Text) (view_is : environment name ≡ IsView view) where
  along_view : (answer : Answer) → Reads JudgementText text answer → carry environment name text ≡ carried_text environment view answer
  unfolding carry
  along_view answer reads =
      ap (λ k. carried_along environment (view_face k) text) view_is
      ∙ ap (carried_text environment view) (sym ((one_reading JudgementText text).only answer reads))

pub unread_is_ill : UnreadIsIll
unread_is_ill environment name view text at view_is =
    ((λ r. along_view environment name view text view_is (Syntax at) r), (λ r. along_view environment name view text view_is (TooDeep at) r), (λ r. along_view environment name view text view_is (Unsupported at) r))

pub family_is_ill_first : FamilyIsIllFirst
family_is_ill_first environment name view source text judgement fault view_is source_is reads e =
    along_view environment name view text view_is (Read (JudgementTree judgement)) reads
    ∙ ap (carried_over environment view judgement) source_is
    ∙ ap (carried_family view.map (scope_in environment source) judgement) e

pub object_is_ill_next : ObjectIsIllNext
object_is_ill_next environment name view source text judgement family fault view_is source_is reads f e =
    along_view environment name view text view_is (Read (JudgementTree judgement)) reads
    ∙ ap (carried_over environment view judgement) source_is
    ∙ ap (carried_family view.map (scope_in environment source) judgement) f
    ∙ ap (carried_object view.map family) e

never_for_object : (view : ViewFace) (family : Family) (answer : answers.Answer Object) → carried_object view.map family answer ≡ NoSuchView → ⊥
never_for_object view family (Ok object) h = absurd (cc)
never_for_object view family (Err fault) h = absurd (cc)

never_for_family : (environment : Environment) (view : ViewFace) (source : TheoryFace) (judgement : Judgement) (answer : answers.Answer Family)
    → carried_family view.map (scope_in environment source) judgement answer ≡ NoSuchView → ⊥
never_for_family environment view source judgement (Ok family) h = never_for_object view family (expand_object (scope_in environment source) [] judgement.object family) h
never_for_family environment view source judgement (Err fault) h = absurd (cc)

never_over : (environment : Environment) (view : ViewFace) (source : TheoryFace) (answer : Answer) → theory_of environment view.domain ≡ Some source
    → carried_text environment view answer ≡ NoSuchView → ⊥
never_over environment view source (Read (ModuleTree tree)) e h = absurd (cc)
never_over environment view source (Read (JudgementTree judgement)) e h =
    never_for_family environment view source judgement (expand_family (scope_in environment source) [] judgement.family)
    (sym (ap (carried_over environment view judgement) e) ∙ h)
never_over environment view source (Syntax at) e h = absurd (cc)
never_over environment view source (TooDeep at) e h = absurd (cc)
never_over environment view source (Unsupported at) e h = absurd (cc)

pub views_are_found : ViewsAreFound
unfolding carry
views_are_found environment name view source text view_is source_is h =
    never_over environment view source (read JudgementText text) source_is (sym (ap (λ k. carried_along environment (view_face k) text) view_is) ∙ h)
