-- Declarations that are well typed one after another, over what stands before them.
use Rattle.std.proofs.Common.{◌≡◌, ℕ, [], ◌∷◌, List, ◌++◌, length, take, slice_get, Option, Some, None, true, ⊎_elim, refl, sym, ap, ◌∙◌, subst, append_assoc, append-nil, arith}
use Rattle.std.specs.Prelude.{⊤}
use Rattle.name_meaning.specs.Names.{Name}
use Rattle.lf_meaning.specs.Signatures.{Declaration, Signature}
use Rattle.lf_meaning.specs.Judgements.{IsDeclaration, IsSignature}
use Rattle.lf_typing.proofs.Growing.{empty_signature, signature_grows}
use Rattle.list_laws.proofs.Members.{Member, in_append, append_left, append_right, in_flat_map, flat_map_in}
use Rattle.name_laws.proofs.Order.{among_member, member_among}
use Rattle.list_laws.proofs.Places.{take_front, take_length}
use Rattle.lf_meaning.specs.HeadMaps.{HeadMap}
use Rattle.library_meaning.specs.Faces.{TheoryFace, Environment, theory_of, includes_of, own_of, own_part, own_parts}
use Rattle.library_meaning.specs.Closure.{sees}
use Rattle.library_meaning.specs.Coherence.{IsClosure, IsCoherent}
use Rattle.link_laws.proofs.Linked.{known_theory}
use Rattle.constant_laws.specs.HoldingLaws.{Grows}
use Rattle.face_typing.proofs.Below.Onces.{Once, once_left, member_grows, closure_once, parts_joined}
use Rattle.face_typing.specs.Below.TypedFaces.{HaveFittingImages, IsTypedEnvironment}
use Rattle.face_typing.proofs.Below.Grown.{fits_more, declaration_more}

abbrev pub TypedAfter : Signature → Signature → Type 0
TypedAfter before [] = ⊤
TypedAfter before (d ∷ ds) = IsDeclaration before d × TypedAfter (before ++ d ∷ []) ds

pub typed_append : (before xs ys : Signature) → TypedAfter before xs → TypedAfter (before ++ xs) ys → TypedAfter before (xs ++ ys)
typed_append before [] ys h g = subst (λ z. TypedAfter z ys) (append-nil before) g
typed_append before (d ∷ xs) ys h g = (h.0, typed_append (before ++ d ∷ []) xs ys h.1 (subst (λ z. TypedAfter z ys) (sym (append_assoc before (d ∷ []) xs)) g))

-- the declarations of a well-typed signature are, behind any that stand before them
pub signature_after : (before xs : Signature) → IsSignature (before ++ xs) → TypedAfter before xs
signature_after before [] h = tt
signature_after before (d ∷ xs) h = (h before d xs refl, signature_after (before ++ d ∷ []) xs (subst IsSignature (sym (append_assoc before (d ∷ []) xs)) h))

-- and the other way round
pub after_signature : (before xs : Signature) → IsSignature before → TypedAfter before xs → IsSignature (before ++ xs)
after_signature before [] h g = subst IsSignature (sym (append-nil before)) h
after_signature before (d ∷ xs) h g = subst IsSignature (append_assoc before (d ∷ []) xs) (after_signature (before ++ d ∷ []) xs (signature_grows before d h g.0) g.1)

-- over more declarations
pub typed_more : (b c xs : Signature) → Once (c ++ xs) → ((d : Declaration) → Member d b → Member d c) → TypedAfter b xs → TypedAfter c xs
typed_more b c [] o f h = tt
typed_more b c (x ∷ xs) o f h = (
  declaration_more b c (member_grows b c (once_left c (x ∷ xs) o) f) x h.0,
  typed_more (b ++ x ∷ []) (c ++ x ∷ []) xs (subst Once (sym (append_assoc c (x ∷ []) xs)) o) more h.1,
)
  where
    more : (d : Declaration) → Member d (b ++ x ∷ []) → Member d (c ++ x ∷ [])
    more d m = ⊎_elim (λ n. append_left c (x ∷ []) d (f d n)) (λ n. append_right c (x ∷ []) d n) (in_append b (x ∷ []) d m)

-- images that fit, fit over more
pub images_more : (to more : Signature) (along : HeadMap) (declarations : Signature) → Grows to more → HaveFittingImages to along declarations → HaveFittingImages more along declarations
images_more to more along declarations g h i d e =
    let t = h i d e in
    record { image = t.image; mapped = t.mapped; fits = fits_more to more g t.image.class t.image.value t.fits }

-- ---- closures in a well-typed environment

module _ (environment : Environment) (coherent : IsCoherent environment) (typed : IsTypedEnvironment environment) where
  part_typed_by : (done : List Name) (theory : Name) (o : Option TheoryFace) → theory_of environment theory ≡ o → Once (own_parts environment done ++ own_of o) → ((other : Name) → sees (includes_of o) other ≡ true → Member other done) → TypedAfter (own_parts environment done) (own_of o)
  part_typed_by done theory None e o f = tt
  part_typed_by done theory (Some face) e o f =
      let t = typed.theories theory face (known_theory (environment theory) face e) in
      typed_more (own_parts environment face.includes) (own_parts environment done) face.own o
      (λ d m. let q = in_flat_map (own_part environment) face.includes d m in flat_map_in (own_part environment) done q.0 d (f q.0 (member_among face.includes q.0 q.1)) q.2)
      (signature_after (own_parts environment face.includes) face.own t.signature)

  parts_typed : (done todo : List Name) → Once (own_parts environment (done ++ todo)) → ((i : ℕ) (name other : Name) → slice_get (done ++ todo) i ≡ Some name → sees (includes_of (theory_of environment name)) other ≡ true → sees (take i (done ++ todo)) other ≡ true)
      → TypedAfter (own_parts environment done) (own_parts environment todo)
  parts_typed done [] o b = tt
  parts_typed done (theory ∷ todo) o b =
      let joined : own_parts environment (done ++ theory ∷ todo) ≡ own_parts environment done ++ (own_part environment theory ++ own_parts environment todo) = parts_joined environment coherent done (theory ∷ todo) in
      let whole : Once ((own_parts environment done ++ own_part environment theory) ++ own_parts environment todo) = subst Once (joined ∙ sym (append_assoc (own_parts environment done) (own_part environment theory) (own_parts environment todo))) o in
      let front : take (length done) (done ++ theory ∷ todo) ≡ done = take_front done (theory ∷ todo) (length done) (omega arith) ∙ take_length done in
      typed_append (own_parts environment done) (own_part environment theory) (own_parts environment todo)
      (part_typed_by done theory (theory_of environment theory) refl (once_left (own_parts environment done ++ own_part environment theory) (own_parts environment todo) whole)
      (λ other s. among_member done other (subst (λ z. sees z other ≡ true) front (b (length done) theory other (at done) s))))
      (subst (λ z. TypedAfter z (own_parts environment todo)) (parts_joined environment coherent done (theory ∷ []) ∙ ap (λ z. own_parts environment done ++ z) (append-nil (own_part environment theory)))
      (parts_typed (done ++ theory ∷ []) todo (subst (λ z. Once (own_parts environment z)) (sym (append_assoc done (theory ∷ []) todo)) o)
      (subst (λ z. (i : ℕ) (name other : Name) → slice_get z i ≡ Some name → sees (includes_of (theory_of environment name)) other ≡ true → sees (take i z) other ≡ true) (sym (append_assoc done (theory ∷ []) todo)) b)))
    where
      at : (ys : List Name) → slice_get (ys ++ theory ∷ todo) (length ys) ≡ Some theory
      at [] = refl
      at (y ∷ ys) = at ys

  pub closure_typed : (names : List Name) → IsClosure environment names → IsSignature (own_parts environment names)
  closure_typed names c = after_signature [] (own_parts environment names) empty_signature (parts_typed [] names (closure_once environment coherent names c) c.behind)
