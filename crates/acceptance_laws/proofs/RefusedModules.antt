-- A module is refused exactly where it is present and no face makes it accepted.
use Rattle.std.proofs.Common.{◌≡◌, ◌↔◌, ℕ, Option, Some, None, is_some, refl, sym, ap, ◌∙◌, true≢false}
use Rattle.name_meaning.specs.Names.{Name}
use Rattle.edit_log_meaning.specs.Log.{Library}
use Rattle.library_meaning.specs.Faces.{TheoryFace, ViewFace, Environment}
use Rattle.link_meaning.specs.Refusals.{Refusal}
use Rattle.verdict_meaning.specs.Verdicts.{Interface, Theory, View, Verdict, Accepted, Refused}
use Rattle.verdict_meaning.specs.Rounds.{verdict_of, told_by, known_to}
use Rattle.verdict_laws.proofs.Verdicts.{verdict_exactly}
use Rattle.acceptance_laws.specs.ViewLaws.{IsAcceptedView}
use Rattle.acceptance_laws.specs.TheoryLaws.{IsAcceptedTheory}
use Rattle.acceptance_laws.specs.RefusedModules.{HasNoFace, RefusedModules, RefusedModulesTold}
use Rattle.acceptance_laws.proofs.AcceptedViews.{accepted_views}
use Rattle.acceptance_laws.proofs.AcceptedTheories.{accepted_theories}
use Rattle.acceptance_laws.proofs.ToldModules.{accepted_views_told, accepted_theories_told}

clash : {interface : Interface} {refusal : Refusal} → Some (Refused refusal) ≡ Some (Accepted interface) → ⊥
clash e = absurd (cc)

module _ (library : Library) (name : Name) (environment : Environment)
    (theories : (face : TheoryFace) (size : ℕ) → (verdict_of library name ≡ Some (Accepted (Theory face size))) ↔ IsAcceptedTheory library environment name face size)
    (views : (face : ViewFace) → (verdict_of library name ≡ Some (Accepted (View face))) ↔ IsAcceptedView library environment name face) where
  no_face : (refusal : Refusal) → verdict_of library name ≡ Some (Refused refusal) → HasNoFace library environment name
  no_face refusal h =
      record {
        present = sym (verdict_exactly library name) ∙ ap is_some h;
        theories = λ face size a. clash (sym h ∙ (theories face size).1 a);
        views = λ face a. clash (sym h ∙ (views face).1 a);
      }

  refused_by : (o : Option Verdict) → verdict_of library name ≡ o → HasNoFace library environment name → (refusal : Refusal) × (verdict_of library name ≡ Some (Refused refusal))
  refused_by None e n = absurd (true≢false (sym n.present ∙ sym (verdict_exactly library name) ∙ ap is_some e))
  refused_by (Some (Refused refusal)) e n = (refusal, e)
  refused_by (Some (Accepted (Theory face size))) e n = absurd (n.theories face size ((theories face size).0 e))
  refused_by (Some (Accepted (View face))) e n = absurd (n.views face ((views face).0 e))

  refused_exactly : ((refusal : Refusal) × (verdict_of library name ≡ Some (Refused refusal))) ↔ HasNoFace library environment name
  refused_exactly = ((λ r. no_face r.0 r.1), (λ n. refused_by (verdict_of library name) refl n))

pub refused_modules : RefusedModules
refused_modules library name = refused_exactly library name (known_to library name) (accepted_theories library name) (accepted_views library name)

pub refused_modules_told : RefusedModulesTold
refused_modules_told library name = refused_exactly library name (told_by library) (accepted_theories_told library name) (accepted_views_told library name)
