-- The link of any path of structures of an accepted theory is placed.
use Rattle.std.proofs.Common.{◌≡◌, Bool, true, false, cond, List, [], ◌∷◌, ◌++◌, Option, Some, None, is_some, refl, sym, ap, ◌∙◌, subst}
use Rattle.name_meaning.specs.Names.{Name, Path, same_name}
use Rattle.lf_meaning.specs.Judgements.{IsSignature}
use Rattle.list_laws.proofs.Members.{Member, member_place}
use Rattle.library_meaning.specs.Faces.{StructureFace, TheoryFace, IsTheory, Environment, theory_face, theory_of, structure_of, includes_of, own_of, own_parts, flat_of}
use Rattle.library_meaning.specs.Coherence.{IsCoherent}
use Rattle.library_meaning.specs.Words.{Link, structure_link, behind_structure, structures_of, link_by, is_empty, structures_link}
use Rattle.link_laws.proofs.Linked.{known_theory}
use Rattle.link_laws.proofs.WordsHold.{structure_member}
use Rattle.morphism_words_typing.specs.TypedFaces.{IsTypedEnvironment}
use Rattle.morphism_words_typing.proofs.Places.{LinkPlaced, structure_placed, structure_within}
use Rattle.std.proofs.lemmas.Option.{same_Some}
use Rattle.name_laws.proofs.Order.{same_sound}

named_by : (b : Bool) (x structure : StructureFace) (name : Name) (o : Option StructureFace) → same_name x.name name ≡ b → (o ≡ Some structure → structure.name ≡ name) → cond b (Some x) o ≡ Some structure → structure.name ≡ name
named_by true x structure name o e f h = ap (λ (z : StructureFace). z.name) (same_Some _ _ (sym h)) ∙ same_sound x.name name e
named_by false x structure name o e f h = f h

structure_named : (structures : List StructureFace) (name : Name) (structure : StructureFace) → structure_of structures name ≡ Some structure → structure.name ≡ name
unfolding structure_of
structure_named [] name structure h = absurd (cc)
structure_named (x ∷ xs) name structure h = named_by (same_name x.name name) x structure name (structure_of xs name) refl (structure_named xs name structure) h

empty_path : (path : Path) → is_empty path ≡ true → path ≡ []
empty_path [] e = refl
empty_path (name ∷ path) e = absurd (cc)

module _ (environment : Environment) (coherent : IsCoherent environment) (typed : IsTypedEnvironment environment) where
  pub record Found (name : Name) : Type 0 where
    pub face : TheoryFace
    pub is : environment name ≡ IsTheory face

  found_by : (name : Name) (o : Option TheoryFace) → theory_of environment name ≡ o → is_some o ≡ true → Found name
  found_by name None e h = absurd (cc)
  found_by name (Some face) e h = record { face = face; is = known_theory (environment name) face e }

  pub found : (name : Name) → is_some (theory_of environment name) ≡ true → Found name
  found name h = found_by name (theory_of environment name) refl h

  pub flat_typed : (name : Name) (face : TheoryFace) → environment name ≡ IsTheory face → IsSignature (flat_of environment name)
  flat_typed name face e = subst IsSignature (ap (λ o. own_parts environment (includes_of o) ++ own_of o) (sym (ap theory_face e))) (typed.theories name face e).signature

  pub record PlacedAs (theory : Name) (path : Path) (link : Link) : Type 0 where
    pub known : is_some (theory_of environment link.domain) ≡ true
    pub placed : LinkPlaced environment theory path link.domain link.map

  module _ (theory : Name) (face : TheoryFace) (is : environment theory ≡ IsTheory face) where
    known_domain : (structure : StructureFace) → Member structure face.structures → is_some (theory_of environment structure.domain) ≡ true
    known_domain structure m = let i = member_place face.structures structure m in (coherent.theories theory face is).domains i.0 structure i.1

    behind : (structure : StructureFace) (m : Member structure face.structures) (path : Path) (o : Option Link) (link : Link) → ((inner : Link) → o ≡ Some inner → PlacedAs structure.domain path inner) → behind_structure o (structure_link theory structure) ≡ Some link
        → PlacedAs theory (structure.name ∷ path) link
    behind structure m path None link f h = absurd (cc)
    behind structure m path (Some inner) link f h =
        let p = f inner refl in
        let d = found structure.domain (known_domain structure m) in
        let e = found inner.domain p.known in
        subst (PlacedAs theory (structure.name ∷ path)) (same_Some _ _ h)
        (record { known = p.known; placed = structure_within environment coherent typed theory face is structure m path inner.domain inner.map p.placed (flat_typed inner.domain e.face e.is) (flat_typed structure.domain d.face d.is) })

    by_link : (o : Option StructureFace) (path : Path) (b : Bool) (inner : Name → Option Link) (link : Link) (name : Name) → is_empty path ≡ b
        → ((structure : StructureFace) → o ≡ Some structure → Member structure face.structures × (structure.name ≡ name))
        → ((structure : StructureFace) (within : Link) → o ≡ Some structure → inner structure.domain ≡ Some within → PlacedAs structure.domain path within)
        → link_by theory o b inner ≡ Some link → PlacedAs theory (name ∷ path) link
    by_link None path b inner link name e m f h = absurd (cc)
    by_link (Some structure) path true inner link name e m f h =
        let q = m structure refl in
        subst (λ n. PlacedAs theory (n ∷ path) link) q.1
        (subst (λ z. PlacedAs theory (structure.name ∷ z) link) (sym (empty_path path e))
        (subst (PlacedAs theory (structure.name ∷ [])) (same_Some _ _ h) (record { known = known_domain structure q.0; placed = structure_placed environment coherent typed theory face is structure q.0 })))
    by_link (Some structure) path false inner link name e m f h =
        let q = m structure refl in
        subst (λ n. PlacedAs theory (n ∷ path) link) q.1 (behind structure q.0 path (inner structure.domain) link (λ within g. f structure within refl g) h)

  pub link_placed : (path : Path) (theory : Name) (face : TheoryFace) → environment theory ≡ IsTheory face → (link : Link) → structures_link environment theory face.structures path ≡ Some link → PlacedAs theory path link
  unfolding structures_link
  link_placed [] theory face is link h = absurd (cc)
  link_placed (name ∷ path) theory face is link h =
      by_link theory face is (structure_of face.structures name) path (is_empty path) (λ (domain : Name). structures_link environment domain (structures_of (theory_of environment domain)) path) link name refl
      (λ structure e. (structure_member environment coherent face.structures name structure e, structure_named face.structures name structure e))
      (λ structure within e g. (let d = found structure.domain (known_domain theory face is structure (structure_member environment coherent face.structures name structure e)) in
      link_placed path structure.domain d.face d.is within (subst (λ o. structures_link environment structure.domain (structures_of o) path ≡ Some within) (ap theory_face d.is) g)))
      h
