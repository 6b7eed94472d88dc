-- Where the faces of a name's reach are known, whatever else is, the same is carried as where that reach alone is known; and of
-- that all is coherent and well typed.
use Rattle.std.proofs.Common.{◌≡◌, Bool, true, List, [], sym, ap, ◌∙◌, subst}
use Rattle.lf_meaning.specs.Terms.{Object, Family}
use Rattle.lf_meaning.specs.Judgements.{IsTyping}
use Rattle.name_meaning.specs.Names.{Name, Text}
use Rattle.edit_log_meaning.specs.Log.{Library}
use Rattle.module_graph_meaning.specs.Reach.{reach}
use Rattle.library_meaning.specs.Faces.{IsView, theory_face, Environment, theory_of}
use Rattle.link_laws.proofs.Linked.{known_theory}
use Rattle.text_meaning.specs.Dependencies.{dependencies}
use Rattle.verdict_meaning.specs.Modules.{scope_in}
use Rattle.verdict_meaning.specs.Rounds.{known_of, verdicts, told_by}
use Rattle.acceptance_laws.proofs.Alike.{Alike, alike_back, AllNamed, flat_alike, stands_for_alike}
use Rattle.acceptance_laws.proofs.StandsAlike.{object_alike, family_alike}
use Rattle.face_typing.specs.Below.TypedFaces.{IsTypedEnvironment}
use Rattle.face_typing.proofs.LinksTyped.{links_are_typed}
use Rattle.face_typing.proofs.LibrariesTyped.{closed_are_typed}
use Rattle.judged_meaning.specs.Carrying.{CarriedTo, carry}
use Rattle.judged_laws.specs.CarryingLaws.{IsTranslated}
use Rattle.judged_laws.proofs.Translated.{carry_is_translation}
use Rattle.carried_typing.specs.CarriedTyping.{IsCarried, FacesCarryTyping, FacesCarryAlike}
use Rattle.carried_typing.proofs.ReachFaces.{reached, of_reach, reach_is_closed, reach_coherent, itself_reached, there_reached, reach_alike, told_same, known_same}
use Rattle.carried_typing.proofs.Carried.{translated_from, translated_to}

-- ---- two environments that are alike on a view and its ends

module _ (names : Name → Bool) (first second : Environment) (alike : Alike names first second) (name : Name) (text : Text) (object : Object) (family : Family) (t : IsTranslated first name text object family) (named : names name ≡ true) (domain : names t.view.domain ≡ true) where
  scope_goes : AllNamed names t.source.includes
  scope_goes x m = alike.includes t.view.domain t.source x domain (known_theory (first t.view.domain) t.source t.source_is) m

  abbrev translated_alike : IsTranslated second name text object family
  translated_alike =
      record {
        view = t.view;
        view_is = sym (alike.same name named) ∙ t.view_is;
        judgement = t.judgement;
        reads = t.reads;
        source = t.source;
        source_is = ap theory_face (sym (alike.same t.view.domain domain)) ∙ t.source_is;
        from_object = t.from_object;
        from_family = t.from_family;
        family_stands = family_alike (scope_in first t.source) (scope_in second t.source) (stands_for_alike names first second alike t.source.own t.source.includes scope_goes) t.judgement.family [] t.from_family t.family_stands;
        object_stands = object_alike (scope_in first t.source) (scope_in second t.source) (stands_for_alike names first second alike t.source.own t.source.includes scope_goes) t.judgement.object [] t.from_family t.from_object t.object_stands;
        object_is = t.object_is;
        family_is = t.family_is;
      }

-- ---- the reach of a name

module _ (library : Library) (name : Name) where
  reach_typed : IsTypedEnvironment (of_reach library name)
  reach_typed = closed_are_typed links_are_typed library (reach dependencies library name) (reach_is_closed library name)

  module _ (environment : Environment) (same : (x : Name) → reached library name x ≡ true → of_reach library name x ≡ environment x) where
    module _ (text : Text) (object : Object) (family : Family) where
      from_reach : IsTranslated (of_reach library name) name text object family → IsTranslated environment name text object family
      from_reach t =
          translated_alike (reached library name) (of_reach library name) environment (reach_alike library name environment same) name text object family t (itself_reached library name)
          (there_reached library name t.view.domain (((reach_coherent library name).views name t.view t.view_is).domain))

      module _ (t : IsTranslated environment name text object family) where
        view_there : (of_reach library name) name ≡ IsView t.view
        view_there = same name (itself_reached library name) ∙ t.view_is

        domain_reached : (reached library name) t.view.domain ≡ true
        domain_reached = there_reached library name t.view.domain (((reach_coherent library name).views name t.view view_there).domain)

        codomain_reached : (reached library name) t.view.codomain ≡ true
        codomain_reached = there_reached library name t.view.codomain (((reach_coherent library name).views name t.view view_there).codomain)

        abbrev in_reach : IsTranslated (of_reach library name) name text object family
        in_reach = translated_alike (reached library name) environment (of_reach library name) (alike_back (reached library name) (of_reach library name) environment (reach_alike library name environment same)) name text object family t (itself_reached library name) domain_reached

        pub carried_in_reach : IsCarried environment name text object family
        carried_in_reach =
            record {
              translated = t;
              is_typing = subst (λ z. IsTyping z [] t.from_object t.from_family) (flat_alike (reached library name) (of_reach library name) environment (reach_alike library name environment same) t.view.domain domain_reached)
                  (translated_from (of_reach library name) (reach_coherent library name) reach_typed name text object family in_reach);
              carried_typing = subst (λ z. IsTyping z [] object family) (flat_alike (reached library name) (of_reach library name) environment (reach_alike library name environment same) t.view.codomain codomain_reached)
                  (translated_to (of_reach library name) (reach_coherent library name) reach_typed name text object family in_reach);
            }

  -- what is carried in the one is carried in the other
  carried_too : (first second : Environment) → ((x : Name) → (reached library name) x ≡ true → (of_reach library name) x ≡ first x) → ((x : Name) → (reached library name) x ≡ true → (of_reach library name) x ≡ second x)
      → (text : Text) (object : Object) (family : Family) → carry first name text ≡ CarriedTo object family → carry second name text ≡ CarriedTo object family
  carried_too first second f g text object family h =
      (carry_is_translation second name text object family).1
      (from_reach second g text object family (in_reach first f text object family ((carry_is_translation first name text object family).0 h)))

pub faces_carry_typing : FacesCarryTyping
faces_carry_typing library names name text object family have h =
    carried_in_reach library name (known_of names (verdicts library)) (known_same library name names have) text object family
    ((carry_is_translation (known_of names (verdicts library)) name text object family).0 h)

pub faces_carry_alike : FacesCarryAlike
faces_carry_alike library names name text object family have = (
  carried_too library name (known_of names (verdicts library)) (told_by library) (known_same library name names have) (told_same library name) text object family,
  carried_too library name (told_by library) (known_of names (verdicts library)) (told_same library name) (known_same library name names have) text object family,
)
