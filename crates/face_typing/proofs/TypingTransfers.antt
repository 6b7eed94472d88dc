-- A face that is well typed over what is known stays so where more is known.
use Rattle.std.proofs.Common.{◌≡◌, ℕ, ◌++◌, filter_map, slice_get, Some, sym, ap, ◌∙◌, subst}
use Rattle.name_meaning.specs.Names.{Name}
use Rattle.lf_meaning.specs.Judgements.{IsSignature}
use Rattle.translation_meaning.specs.TypedMaps.{IsTypedMap}
use Rattle.library_meaning.specs.Faces.{StructureFace, TheoryFace, ViewFace, Environment, theory_of, includes_of, own_of, own_parts, flat_signature, flat_of}
use Rattle.library_meaning.specs.Coherence.{IsCoherentTheory, IsCoherentView, IsCoherent}
use Rattle.face_typing.proofs.Below.WordsHold.{includes_theories}
use Rattle.coherence_laws.proofs.Transfer.{Extends, theory_same, parts_same, flat_same}
use Rattle.face_typing.specs.Below.TypedFaces.{copy_of, HaveFittingImages, IsPlaced, IsTypedTheory, IsTypedView}

module _ (environment more : Environment) (coherent : IsCoherent environment) (extends : Extends environment more) where
  module _ (name : Name) (face : TheoryFace) (c : IsCoherentTheory environment name face) where
    signature : flat_signature more face ≡ flat_signature environment face
    signature = ap (λ z. z ++ face.own) (parts_same environment more coherent extends face.includes c.includes)

    placed_transfers : (i : ℕ) (x : StructureFace) → slice_get face.structures i ≡ Some x → IsPlaced environment face x → IsPlaced more face x
    placed_transfers i x h p =
        record {
          front = p.front;
          back = p.back;
          parts = p.parts ∙ ap (λ z. p.front ++ (filter_map (copy_of face.name x) z ++ p.back)) (sym (ap own_of domain));
          included = subst (λ z. HaveFittingImages (z ++ p.front) x.map (own_parts more (includes_of (theory_of more x.domain)))) (sym (parts_same environment more coherent extends face.includes c.includes))
              (subst (HaveFittingImages (own_parts environment face.includes ++ p.front) x.map) (sym included) p.included);
        }
      where
        domain : theory_of more x.domain ≡ theory_of environment x.domain
        domain = theory_same environment more coherent extends x.domain (c.domains i x h)

        included : own_parts more (includes_of (theory_of more x.domain)) ≡ own_parts environment (includes_of (theory_of environment x.domain))
        included =
            ap (λ o. own_parts more (includes_of o)) (theory_same environment more coherent extends x.domain (c.domains i x h))
            ∙ parts_same environment more coherent extends (includes_of (theory_of environment x.domain)) (includes_theories environment coherent x.domain)

    pub theory_typing_transfers : IsTypedTheory environment face → IsTypedTheory more face
    theory_typing_transfers t =
        record {
          signature = subst IsSignature (sym signature) t.signature;
          maps = λ i x h. subst (λ z. IsTypedMap z (flat_signature more face) x.map) (sym (flat_same environment more coherent extends x.domain (c.domains i x h)))
              (subst (λ z. IsTypedMap (flat_of environment x.domain) z x.map) (sym signature) (t.maps i x h));
          placed = λ i x h. placed_transfers i x h (t.placed i x h);
        }

  pub view_typing_transfers : (name : Name) (face : ViewFace) → IsCoherentView environment name face → IsTypedView environment face → IsTypedView more face
  view_typing_transfers name face c t =
      subst (λ z. IsTypedMap z (flat_of more face.codomain) face.map) (sym (flat_same environment more coherent extends face.domain c.domain))
      (subst (λ z. IsTypedMap (flat_of environment face.domain) z face.map) (sym (flat_same environment more coherent extends face.codomain c.codomain)) t)
