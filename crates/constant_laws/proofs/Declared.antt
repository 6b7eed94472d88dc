-- The declarations of a signature whose names stand once, and that hold only what stands before them.
use Rattle.std.proofs.Common.{◌≡◌, ℕ, zero, suc, Bool, true, false, cond, [], ◌∷◌, ◌++◌, take, drop, slice_get, Some, refl, sym, ap, ◌∙◌, subst}
use Rattle.lf_meaning.specs.Terms.{Constant}
use Rattle.lf_meaning.specs.Signatures.{Declaration, Signature, same_constant, declaration_of, undefined_class, declared_class, class_of}
use Rattle.lf_term_laws.proofs.Equality.{same_constant_sound, same_constant_itself}
use Rattle.list_laws.proofs.Places.{take_drop}
use Rattle.library_meaning.specs.Holding.{ClassHolds, OptionalValueHolds}
use Rattle.library_meaning.specs.Coherence.{DeclarationsHold}
use Rattle.constant_laws.specs.HoldingLaws.{Grows}
use Rattle.constant_laws.specs.ExpansionHolds.{NamesOnce}
use Rattle.constant_laws.proofs.Growing.{class_grows, optional_grows}
use Rattle.std.proofs.lemmas.Option.{same_Some}
use Rattle.lf_term_laws.proofs.Declarations.{declared_some, declaration_front}

-- a signature grows at its end
pub front_grows : (xs ys : Signature) → Grows xs (xs ++ ys)
front_grows xs ys c class h =
    let d = declared_some (declaration_of xs c) class h in
    ap declared_class (declaration_front xs ys c d.0 d.1 ∙ sym d.1) ∙ h

pub take_grows : (signature : Signature) (i : ℕ) → Grows (take i signature) signature
take_grows signature i = subst (Grows (take i signature)) (take_drop signature i) (front_grows (take i signature) (drop i signature))

-- the declaration that is found under a name
record Found (signature : Signature) (c : Constant) : Type 0 where
  place : ℕ
  declaration : Declaration
  at : slice_get signature place ≡ Some declaration
  named : declaration.name ≡ c
  is : declaration_of signature c ≡ Some declaration

found_by : (b : Bool) (x : Declaration) (xs : Signature) (c : Constant) → same_constant x.name c ≡ b → ((cond b false true ≡ true) → Found xs c) → Found (x ∷ xs) c
found_by true x xs c e f = record { place = zero; declaration = x; at = refl; named = same_constant_sound x.name c e; is = ap (λ b. cond b (Some x) (declaration_of xs c)) e }
found_by false x xs c e f =
    let g = f refl in
    record { place = suc g.place; declaration = g.declaration; at = g.at; named = g.named; is = ap (λ b. cond b (Some x) (declaration_of xs c)) e ∙ g.is }

found_at : (signature : Signature) (i : ℕ) (d : Declaration) → slice_get signature i ≡ Some d → Found signature d.name
found_at [] i d h = absurd (cc)
found_at (x ∷ xs) zero d h = found_by (same_constant x.name d.name) x xs d.name refl (λ n. absurd (clash n))
  where
    equal : same_constant x.name d.name ≡ true
    equal = ap (λ z. same_constant z.name d.name) (same_Some _ _ h) ∙ same_constant_itself d.name

    clash : cond (same_constant x.name d.name) false true ≡ true → ⊥
    clash n = let e : false ≡ true = sym (ap (λ b. cond b false true) equal) ∙ n in cc
found_at (x ∷ xs) (suc i) d h = found_by (same_constant x.name d.name) x xs d.name refl (λ n. found_at xs i d h)

module _ (signature : Signature) (once : NamesOnce signature) where
  -- a declaration is the one that is found under its name
  pub declared_as : (i : ℕ) (d : Declaration) → slice_get signature i ≡ Some d → declaration_of signature d.name ≡ Some d
  declared_as i d h =
      let f = found_at signature i d h in
      let e : f.place ≡ i = once f.place i f.declaration d f.at h f.named in
      f.is ∙ sym f.at ∙ ap (slice_get signature) e ∙ h

  pub class_in : (i : ℕ) (d : Declaration) → slice_get signature i ≡ Some d → class_of signature d.name ≡ undefined_class d.value d.class
  class_in i d h = ap declared_class (declared_as i d h)

module _ (signature : Signature) (hold : DeclarationsHold signature) where
  pub class_at : (i : ℕ) (d : Declaration) → slice_get signature i ≡ Some d → ClassHolds signature d.class
  class_at i d h = class_grows (take i signature) signature (take_grows signature i) d.class (hold i d h).0

  pub value_at : (i : ℕ) (d : Declaration) → slice_get signature i ≡ Some d → OptionalValueHolds signature d.class d.value
  value_at i d h = optional_grows (take i signature) signature (take_grows signature i) d.class d.value (hold i d h).1
