-- Well-typed signatures grow by well-typed declarations.
use Rattle.std.proofs.Common.{◌≡◌, List, [], ◌∷◌, ◌++◌, ◌⊎◌, inl, inr, ⊎_elim, refl, sym, ap, ap₂, subst, ◌∙◌, append_assoc}
use Rattle.lf_meaning.specs.Signatures.{Declaration, Signature}
use Rattle.lf_meaning.specs.Judgements.{IsDeclaration, IsSignature}

not_nil : {A : Type 0} (before after : List A) (e : A) → [] ≡ before ++ (e ∷ after) → ⊥
not_nil [] after e h = cc
not_nil (b ∷ before) after e h = cc

cons_same : {A : Type 0} (x y : A) (xs ys : List A) → x ≡ y → xs ≡ ys → x ∷ xs ≡ y ∷ ys
cons_same x y xs ys e f = ap₂ (λ z zs. z ∷ zs) e f

-- where a declaration stands in a signature with one more at the end
split_last : (sig before after : Signature) (d e : Declaration) → sig ++ (d ∷ []) ≡ before ++ (e ∷ after) → ((before ≡ sig) × (e ≡ d)) ⊎ ((rest : Signature) × (sig ≡ before ++ (e ∷ rest)))
split_last [] [] after d e h = let same : d ≡ e = cc in inl (refl, sym same)
split_last [] (b ∷ before) after d e h = let tail : [] ≡ before ++ (e ∷ after) = cc in absurd (not_nil before after e tail)
split_last (x ∷ sig) [] after d e h = let same : x ≡ e = cc in inr (sig, ap (λ y. y ∷ sig) same)
split_last (x ∷ sig) (b ∷ before) after d e h =
    let same : x ≡ b = cc in
    let tail : sig ++ (d ∷ []) ≡ before ++ (e ∷ after) = cc in
    ⊎_elim (λ p. inl (cons_same b x before sig (sym same) p.0, p.1)) (λ p. inr (p.0, cons_same x b sig (before ++ (e ∷ p.0)) same p.1)) (split_last sig before after d e tail)

pub empty_signature : IsSignature []
empty_signature before d after e = absurd (not_nil before after d e)

pub signature_grows : (sig : Signature) (d : Declaration) → IsSignature sig → IsDeclaration sig d → IsSignature (sig ++ (d ∷ []))
signature_grows sig d h g before e after s =
    ⊎_elim (λ p. subst (λ x. IsDeclaration x e) (sym p.0) (subst (IsDeclaration sig) (sym p.1) g)) (λ p. h before e p.0 p.1) (split_last sig before after d e s)

pub signature_shrinks : (sig more : Signature) → IsSignature (sig ++ more) → IsSignature sig
signature_shrinks sig more h before d after e = h before d (after ++ more) (ap (λ s. s ++ more) e ∙ append_assoc before (d ∷ after) more)
