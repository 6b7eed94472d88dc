-- What carrying comes to depends on the faces of the view's reach alone, faults included.
use Rattle.std.proofs.Common.{◌≡◌, Bool, true, [], Option, Some, None, Ok, Err, refl, sym, ap, ◌∙◌}
use Rattle.name_meaning.specs.Names.{Name, Path, Text}
use Rattle.edit_log_meaning.specs.Log.{Library}
use Rattle.lf_meaning.specs.Terms.{Family}
use Rattle.lf_meaning.specs.HeadMaps.{HeadMap}
use Rattle.library_meaning.specs.Faces.{TheoryFace, ViewFace, Known, IsAbsent, IsRefused, IsTheory, IsView, Environment, theory_face, view_face, theory_of, view_of}
use Rattle.library_meaning.specs.Resolution.{Scope, Variables, resolve}
use Rattle.library_laws.proofs.Resolving.{resolution_stands}
use Rattle.link_laws.proofs.Linked.{known_theory}
use Rattle.text_meaning.specs.Trees.{Judgement}
use Rattle.text_meaning.specs.Reading as reading
use Rattle.text_meaning.specs.TextAnswers.{read}
use Rattle.elaborate_meaning.specs.Answers.{Answer}
use Rattle.elaborate_meaning.specs.Expansion.{expand_family}
use Rattle.verdict_meaning.specs.Modules.{scope_in}
use Rattle.verdict_meaning.specs.Rounds.{known_of, verdicts, told_by}
use Rattle.carried_typing.proofs.Below.Alike.{AllNamed, stands_for_alike}
use Rattle.judged_meaning.specs.Carrying.{carried_object, carried_family, carried_over, carried_text, carried_along, carry}
use Rattle.carried_typing.specs.CarriedTyping.{HaveReachOf}
use Rattle.carried_typing.proofs.ReachFaces.{reached, of_reach, reach_coherent, itself_reached, there_reached, reach_alike, told_same, known_same}
use Rattle.reach_printing_laws.specs.PrintedFaces.{FacesCarryTheSame}
use Rattle.reach_printing_laws.proofs.ExpandedAlike.{object_expanded, family_expanded}

pub view_known : (known : Known) (face : ViewFace) → view_face known ≡ Some face → known ≡ IsView face
view_known IsAbsent face h = absurd (cc)
view_known IsRefused face h = absurd (cc)
view_known (IsTheory theory) face h = absurd (cc)
view_known (IsView own) face h = let e : own ≡ face = cc in ap IsView e

module _ (library : Library) (name : Name) (environment : Environment) (same : (x : Name) → reached library name x ≡ true → of_reach library name x ≡ environment x) where
  -- Names in a theory of the reach are resolved alike.
  module _ (source : TheoryFace) (named : AllNamed (reached library name) source.includes) where
    resolved_alike : (variables : Variables) (path : Path) → resolve (scope_in (of_reach library name) source) variables path ≡ resolve (scope_in environment source) variables path
    resolved_alike variables path =
        (resolution_stands (scope_in environment source) variables path).1 (resolve (scope_in (of_reach library name) source) variables path)
        (stands_for_alike (reached library name) (of_reach library name) environment (reach_alike library name environment same) source.own source.includes named variables path
        (resolve (scope_in (of_reach library name) source) variables path) (resolution_stands (scope_in (of_reach library name) source) variables path).0)

    object_carried : (along : HeadMap) (judgement : Judgement) (answer : Answer Family)
        → carried_family along (scope_in (of_reach library name) source) judgement answer ≡ carried_family along (scope_in environment source) judgement answer
    object_carried along judgement (Ok family) =
        ap (carried_object along family) (object_expanded (scope_in (of_reach library name) source) (scope_in environment source) resolved_alike [] judgement.object family)
    object_carried along judgement (Err fault) = refl

    source_carried : (view : ViewFace) (judgement : Judgement) → carried_over (of_reach library name) view judgement (Some source) ≡ carried_over environment view judgement (Some source)
    source_carried view judgement =
        object_carried view.map judgement (expand_family (scope_in (of_reach library name) source) [] judgement.family)
        ∙ ap (carried_family view.map (scope_in environment source) judgement)
        (family_expanded (scope_in (of_reach library name) source) (scope_in environment source) resolved_alike [] judgement.family)

  module _ (view : ViewFace) (domain : reached library name view.domain ≡ true) where
    named_there : (source : TheoryFace) → theory_of (of_reach library name) view.domain ≡ Some source → AllNamed (reached library name) source.includes
    named_there source e x m =
        (reach_alike library name environment same).includes view.domain source x domain (known_theory (of_reach library name view.domain) source e) m

    judgement_carried : (judgement : Judgement)
        → carried_over (of_reach library name) view judgement (theory_of (of_reach library name) view.domain) ≡ carried_over environment view judgement (theory_of environment view.domain)
    judgement_carried judgement =
        by (theory_of (of_reach library name) view.domain) refl ∙ ap (carried_over environment view judgement) (ap theory_face (same view.domain domain))
      where
        by : (o : Option TheoryFace) → theory_of (of_reach library name) view.domain ≡ o → carried_over (of_reach library name) view judgement o ≡ carried_over environment view judgement o
        by None e = refl
        by (Some source) e = source_carried source (named_there source e) view judgement

    text_carried : (answer : reading.Answer) → carried_text (of_reach library name) view answer ≡ carried_text environment view answer
    text_carried (reading.Read (reading.ModuleTree tree)) = refl
    text_carried (reading.Read (reading.JudgementTree judgement)) = judgement_carried judgement
    text_carried (reading.Syntax at) = refl
    text_carried (reading.TooDeep at) = refl
    text_carried (reading.Unsupported at) = refl

  carried_same : (text : Text) → carry (of_reach library name) name text ≡ carry environment name text
  unfolding carry
  carried_same text =
      by (view_of (of_reach library name) name) refl ∙ ap (λ o. carried_along environment o text) (ap view_face (same name (itself_reached library name)))
    where
      by : (o : Option ViewFace) → view_of (of_reach library name) name ≡ o → carried_along (of_reach library name) o text ≡ carried_along environment o text
      by None e = refl
      by (Some view) e =
          text_carried view (there_reached library name view.domain (((reach_coherent library name).views name view (view_known (of_reach library name name) view e)).domain)) (read reading.JudgementText text)

pub faces_carry_the_same : FacesCarryTheSame
faces_carry_the_same library names name text have =
    sym (carried_same library name (known_of names (verdicts library)) (known_same library name names have) text) ∙ carried_same library name (told_by library) (told_same library name) text
