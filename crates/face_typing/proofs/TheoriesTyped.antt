-- Each declaration leaves the theory that is being built well typed.
use Rattle.std.proofs.Common.{◌≡◌, List, [], ◌∷◌, ◌++◌, Option, ⊎_elim, sym, ap, ◌∙◌, subst, append_assoc, append-nil}
use Rattle.name_meaning.specs.Names.{Name}
use Rattle.lf_meaning.specs.Signatures.{Class, Value, Declaration, Signature}
use Rattle.lf_meaning.specs.Judgements.{IsClass, ValueFits, IsSignature}
use Rattle.lf_typing.proofs.Growing.{signature_grows}
use Rattle.list_laws.proofs.Members.{Member, in_append, append_left, append_right, in_flat_map, flat_map_in}
use Rattle.list_laws.proofs.Places.{get_more}
use Rattle.lf_meaning.specs.HeadMaps.{HeadMap}
use Rattle.translation_meaning.specs.TypedMaps.{IsTypedMap}
use Rattle.library_meaning.specs.Faces.{StructureFace, TheoryFace, IsAbsent, Environment, theory_of, includes_of, own_part, own_parts, flat_signature, flat_of}
use Rattle.library_meaning.specs.Closure.{with_inclusion}
use Rattle.library_meaning.specs.Coherence.{IsCoherentTheory, IsCoherent}
use Rattle.library_laws.proofs.ClosureMembers.{inclusion_old}
use Rattle.text_meaning.specs.Trees.{Written, first_name}
use Rattle.link_meaning.specs.Induced.{induced, with_structure}
use Rattle.verdict_meaning.specs.Modules.{with_constant, structure_setting}
use Rattle.constant_laws.specs.HoldingLaws.{Grows}
use Rattle.constant_laws.proofs.Declared.{front_grows}
use Rattle.face_typing.proofs.Below.Onces.{Once, once_left, member_grows}
use Rattle.coherence_laws.proofs.TheoriesHold.{here_once}
use Rattle.face_typing.specs.Below.TypedFaces.{copies_of, HaveFittingImages, IsPlaced, IsTypedTheory, IsTypedEnvironment}
use Rattle.face_typing.proofs.Below.Grown.{typed_map_more}
use Rattle.face_typing.proofs.TypedAfter.{signature_after, after_signature, typed_more, images_more, closure_typed}

module _ (environment : Environment) (coherent : IsCoherent environment) (typed : IsTypedEnvironment environment) where
  module _ (here : TheoryFace) (absent : environment here.name ≡ IsAbsent) (t : IsTypedTheory environment here) where
    -- ---- an inclusion

    pub inclusion_typed : (theory : Name) → IsCoherentTheory environment here.name (record here { includes = with_inclusion environment here.includes theory }) → IsTypedTheory environment (record here { includes = with_inclusion environment here.includes theory })
    inclusion_typed theory c =
        record {
          signature = after_signature (own_parts environment names) here.own (closure_typed environment coherent typed names c.includes_closure)
              (typed_more (own_parts environment here.includes) (own_parts environment names) here.own once parts (signature_after (own_parts environment here.includes) here.own t.signature));
          maps = λ i x h. typed_map_more (flat_of environment x.domain) (flat_signature environment here) (own_parts environment names ++ here.own) x.map (grown here.own once) (t.maps i x h);
          placed = λ i x h. (let p = t.placed i x h in
              record {
                front = p.front;
                back = p.back;
                parts = p.parts;
                included = images_more (own_parts environment here.includes ++ p.front) (own_parts environment names ++ p.front) x.map (own_parts environment (includes_of (theory_of environment x.domain)))
                    (grown p.front (front_once p.front (copies_of environment here.name x ++ p.back) p.parts)) p.included;
              });
        }
      where
        names : List Name
        names = with_inclusion environment here.includes theory

        once : Once (own_parts environment (with_inclusion environment here.includes theory) ++ here.own)
        once = here_once environment coherent (record here { includes = with_inclusion environment here.includes theory }) c absent

        parts : (d : Declaration) → Member d (own_parts environment here.includes) → Member d (own_parts environment (with_inclusion environment here.includes theory))
        parts d m = let q = in_flat_map (own_part environment) here.includes d m in flat_map_in (own_part environment) (with_inclusion environment here.includes theory) q.0 d (inclusion_old environment here.includes theory q.0 q.1) q.2

        grown : (own : Signature) → Once (own_parts environment (with_inclusion environment here.includes theory) ++ own) → Grows (own_parts environment here.includes ++ own) (own_parts environment (with_inclusion environment here.includes theory) ++ own)
        grown own o =
            member_grows (own_parts environment here.includes ++ own) (own_parts environment (with_inclusion environment here.includes theory) ++ own) o
            (λ d m. ⊎_elim (λ n. append_left (own_parts environment (with_inclusion environment here.includes theory)) own d (parts d n)) (λ n. append_right (own_parts environment (with_inclusion environment here.includes theory)) own d n) (in_append (own_parts environment here.includes) own d m))

        front_once : (front rest : Signature) → here.own ≡ front ++ rest → Once (own_parts environment (with_inclusion environment here.includes theory) ++ front)
        front_once front rest e =
            once_left (own_parts environment (with_inclusion environment here.includes theory) ++ front) rest
            (subst Once (ap (λ z. own_parts environment (with_inclusion environment here.includes theory) ++ z) e ∙ sym (append_assoc (own_parts environment (with_inclusion environment here.includes theory)) front rest)) once)

    -- ---- more own constants

    -- structures keep their places before them
    placed_before : (more : Signature) (structures : List StructureFace) (structure : StructureFace) → IsPlaced environment here structure → IsPlaced environment (record here { own = here.own ++ more; structures = structures }) structure
    placed_before more structures structure p =
        record {
          front = p.front;
          back = p.back ++ more;
          parts = ap (λ z. z ++ more) p.parts ∙ append_assoc p.front (copies ++ p.back) more ∙ ap (λ z. p.front ++ z) (append_assoc copies p.back more);
          included = p.included;
        }
      where
        copies : Signature
        copies = copies_of environment here.name structure

    assoc : (more : Signature) → flat_signature environment here ++ more ≡ own_parts environment here.includes ++ (here.own ++ more)
    assoc more = append_assoc (own_parts environment here.includes) here.own more

    -- and their maps are typed into the theory with them
    map_before : (more : Signature) (structure : StructureFace) → IsTypedMap (flat_of environment structure.domain) (flat_signature environment here) structure.map → IsTypedMap (flat_of environment structure.domain) (own_parts environment here.includes ++ (here.own ++ more)) structure.map
    map_before more structure h =
        typed_map_more (flat_of environment structure.domain) (flat_signature environment here) (own_parts environment here.includes ++ (here.own ++ more)) structure.map
        (subst (Grows (flat_signature environment here)) (assoc more) (front_grows (flat_signature environment here) more)) h

    -- ---- a constant

    pub constant_typed : (name : Name) (class : Class) (value : Option Value) → IsClass (flat_signature environment here) class → ValueFits (flat_signature environment here) value class → IsTypedTheory environment (with_constant here name class value)
    constant_typed name class value k v =
        record {
          signature = subst IsSignature (assoc (new ∷ [])) (signature_grows (flat_signature environment here) new t.signature (record { class_is = k; value_fits = v }));
          maps = λ i x h. map_before (new ∷ []) x (t.maps i x h);
          placed = λ i x h. placed_before (new ∷ []) here.structures x (t.placed i x h);
        }
      where
        new : Declaration
        new = record { name = record { theory = here.name; path = name ∷ [] }; class = class; value = value }

    -- ---- a structure

    pub structure_typed : (name : Written) (domain : Name) (along : HeadMap)
        → IsSignature (flat_signature environment here ++ induced (structure_setting environment here name domain) (first_name name.path) along)
        → IsTypedMap (flat_of environment domain) (flat_signature environment here ++ induced (structure_setting environment here name domain) (first_name name.path) along) along
        → HaveFittingImages (flat_signature environment here) along (own_parts environment (includes_of (theory_of environment domain)))
        → IsTypedTheory environment (with_structure here (structure_setting environment here name domain) (first_name name.path) along)
    structure_typed name domain along s m f =
        record {
          signature = subst IsSignature (assoc more) s;
          maps = λ i x h. ⊎_elim (λ q. map_before more x (t.maps i x q))
              (λ q. subst (λ (z : StructureFace). IsTypedMap (flat_of environment z.domain) (own_parts environment here.includes ++ (here.own ++ more)) z.map) q.1 (subst (λ z. IsTypedMap (flat_of environment domain) z along) (assoc more) m)) (get_more here.structures new x i h);
          placed = λ i x h. ⊎_elim (λ q. placed_before more structures x (t.placed i x q))
              (λ q. subst (IsPlaced environment (with_structure here (structure_setting environment here name domain) (first_name name.path) along)) q.1 at_end) (get_more here.structures new x i h);
        }
      where
        more : Signature
        more = induced (structure_setting environment here name domain) (first_name name.path) along

        new : StructureFace
        new = record { name = first_name name.path; domain = domain; map = along }

        structures : List StructureFace
        structures = here.structures ++ record { name = first_name name.path; domain = domain; map = along } ∷ []

        at_end : IsPlaced environment (with_structure here (structure_setting environment here name domain) (first_name name.path) along) (record { name = first_name name.path; domain = domain; map = along })
        at_end =
            record {
              front = here.own;
              back = [];
              parts = ap (λ z. here.own ++ z) (sym (append-nil (induced (structure_setting environment here name domain) (first_name name.path) along)));
              included = f;
            }
