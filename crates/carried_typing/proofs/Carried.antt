-- What is carried along an accepted view is a typing judgement.
use Rattle.std.proofs.Common.{◌≡◌, [], ◌++◌, sym, ap, subst, subst₂}
use Rattle.name_meaning.specs.Names.{Name, Text}
use Rattle.lf_meaning.specs.Terms.{Object, Family}
use Rattle.lf_meaning.specs.Judgements.{IsTyping}
use Rattle.library_meaning.specs.Faces.{Environment, includes_of, own_of, own_parts, flat_signature, flat_of}
use Rattle.library_meaning.specs.Coherence.{IsCoherent}
use Rattle.face_typing.specs.Below.TypingOfExpansion.{IsTypedScope}
use Rattle.face_typing.proofs.Below.Expanding.{standing_object_checks, standing_family_is_family}
use Rattle.link_laws.proofs.Linked.{known_theory}
use Rattle.face_typing.proofs.Below.Onces.{Once, once_names}
use Rattle.face_typing.proofs.Below.WordsHold.{flat_once}
use Rattle.verdict_meaning.specs.Modules.{scope_in}
use Rattle.verdict_meaning.specs.Rounds.{told_by}
use Rattle.face_typing.proofs.Below.LibrariesHold.{library_coherent}
use Rattle.face_typing.specs.Below.TypedFaces.{IsTypedEnvironment}
use Rattle.face_typing.proofs.LinksTyped.{links_are_typed}
use Rattle.face_typing.proofs.LibrariesTyped.{faces_are_typed, known_views_carry}
use Rattle.judged_laws.specs.CarryingLaws.{IsTranslated}
use Rattle.judged_laws.proofs.Translated.{carry_is_translation}
use Rattle.carried_typing.specs.CarriedTyping.{CarriedIsTyping, LibrariesCarryTyping}

module _ (environment : Environment) (coherent : IsCoherent environment) (typed : IsTypedEnvironment environment) (name : Name) (text : Text) (object : Object) (family : Family) (t : IsTranslated environment name text object family) where
  flat_is : flat_of environment t.view.domain ≡ flat_signature environment t.source
  flat_is = ap (λ o. own_parts environment (includes_of o) ++ own_of o) t.source_is

  typed_scope : IsTypedScope (scope_in environment t.source)
  typed_scope = record {
    typed = (typed.theories t.view.domain t.source (known_theory (environment t.view.domain) t.source t.source_is)).signature;
    once = once_names (flat_signature environment t.source) (subst Once flat_is (flat_once environment coherent t.view.domain));
  }

  -- what is translated is a typing judgement
  pub translated_from : IsTyping (flat_of environment t.view.domain) [] t.from_object t.from_family
  translated_from =
      let scope = scope_in environment t.source in
      let family_is = standing_family_is_family scope [] t.judgement.family t.from_family typed_scope tt t.family_stands in
      let checks = standing_object_checks scope [] t.judgement.object t.from_family t.from_object typed_scope tt family_is t.object_stands in
      subst (λ z. IsTyping z [] t.from_object t.from_family) (sym flat_is) (record { context_is = tt; family_is = family_is; object_checks = checks })

  -- and so is its translation
  pub translated_to : IsTyping (flat_of environment t.view.codomain) [] object family
  translated_to =
      subst₂ (IsTyping (flat_of environment t.view.codomain) []) (sym t.object_is) (sym t.family_is)
      (known_views_carry environment name t.view [] t.from_object t.from_family coherent typed t.view_is translated_from)

pub carried_is_typing : CarriedIsTyping
carried_is_typing environment name text object family coherent typed h =
    let t = (carry_is_translation environment name text object family).0 h in
    record { translated = t; is_typing = translated_from environment coherent typed name text object family t; carried_typing = translated_to environment coherent typed name text object family t }

pub libraries_carry_typing : LibrariesCarryTyping
libraries_carry_typing library name text object family h =
    carried_is_typing (told_by library) name text object family (library_coherent library) (faces_are_typed links_are_typed library) h
