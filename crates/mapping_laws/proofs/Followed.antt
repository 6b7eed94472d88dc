-- Links that follow others have images for all that these bring.
use Rattle.std.proofs.Common.{◌≡◌, true, [], ◌∷◌, Option, None, is_some, ⊎_elim, sym, ap, ◌∙◌, subst}
use Rattle.std.proofs.lemmas.Bool.{or_cases}
use Rattle.name_meaning.specs.Names.{Path, same_name}
use Rattle.name_laws.proofs.Order.{same_sound}
use Rattle.list_laws.proofs.Members.{member_place}
use Rattle.translation_meaning.specs.Unmapped.{unmapped_map}
use Rattle.lf_meaning.specs.Signatures.{Signature}
use Rattle.lf_meaning.specs.HeadMaps.{HeadMap}
use Rattle.library_meaning.specs.Faces.{TheoryFace, Environment, theory_of, includes_of, flat_of}
use Rattle.library_meaning.specs.Closure.{sees}
use Rattle.library_meaning.specs.Coherence.{IsCoherentMap, IsCoherent}
use Rattle.library_meaning.specs.Words.{Link, Means, meets, word_meaning, first_by, row_meaning, row_from}
use Rattle.constant_laws.specs.HoldingLaws.{Grows}
use Rattle.constant_laws.proofs.Translating.{composition_is_coherent}
use Rattle.link_laws.specs.LinkTargets.{target_of, HereHolds, LinkHolds}
use Rattle.link_laws.proofs.WordsHold.{map_grows, includes_theories, included_grows, structure_member, accepted_target, structure_holds, row_holds}
use Rattle.mapping_laws.specs.FollowedLinks.{StructuresAreFollowed, WordsAreFollowed}
use Rattle.mapping_laws.proofs.Mapped.{names_have_images, map_mapped}

-- The images of the first map hold only constants of the second one's source.
between : (from middle to : Signature) (first second : HeadMap) → IsCoherentMap from middle first → IsCoherentMap middle to second → unmapped_map second first ≡ None
between from middle to first second k l = map_mapped middle second (names_have_images middle second l.names) first k.holds

pub structures_are_followed : StructuresAreFollowed
structures_are_followed environment structures target name structure path inner coherent hold found h =
    let p = member_place structures structure (structure_member environment coherent structures name structure found) in
    let k = structure_holds environment coherent structure.domain path inner h in
    between (flat_of environment inner.domain) (flat_of environment structure.domain) target inner.map structure.map k.1 (hold p.0 structure p.1).1

module _ (environment : Environment) (here : Option TheoryFace) (coherent : IsCoherent environment) (holds : HereHolds environment here) where
  -- A word means a link with a coherent map.
  pub word_holds : (word : Path) (link : Link) → word_meaning environment here word ≡ Means link → LinkHolds environment here link
  unfolding row_meaning row_from
  word_holds word link h = row_holds environment coherent here holds (word ∷ []) link (ap (λ m. first_by m (λ (l : Link). row_from environment here 1 l [])) h)

  grows : (so_far next : Link) → is_some (theory_of environment next.domain) ≡ true → meets environment so_far next ≡ true → Grows (target_of environment here so_far.codomain) (flat_of environment next.domain)
  grows so_far next s h =
      ⊎_elim
      (λ e. let q : so_far.codomain ≡ next.domain = same_sound so_far.codomain next.domain e in
      subst (λ z. Grows z (flat_of environment next.domain)) (sym (ap (target_of environment here) q ∙ accepted_target environment coherent here holds next.domain s)) (λ c class g. g))
      (λ e. subst (λ z. Grows z (flat_of environment next.domain)) (sym (accepted_target environment coherent here holds so_far.codomain (includes_theories environment coherent next.domain so_far.codomain e))) (included_grows environment coherent next.domain so_far.codomain e))
      (or_cases (same_name so_far.codomain next.domain) (sees (includes_of (theory_of environment next.domain)) so_far.codomain) h)

pub words_are_followed : WordsAreFollowed
words_are_followed environment here so_far next word coherent holds a means meet =
    let b = word_holds environment here coherent holds word next means in
    let k = map_grows (flat_of environment so_far.domain) (target_of environment here so_far.codomain) (flat_of environment next.domain) so_far.map
    (grows environment here coherent holds so_far next b.domain meet) a.map_is in
    record {
      images = between (flat_of environment so_far.domain) (flat_of environment next.domain) (target_of environment here next.codomain) so_far.map next.map k b.map_is;
      followed = record {
        domain = a.domain;
        map_is = composition_is_coherent (flat_of environment so_far.domain) (flat_of environment next.domain) (target_of environment here next.codomain) so_far.map next.map k b.map_is;
      };
    }
