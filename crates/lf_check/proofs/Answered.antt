-- What an answer says of the judgement.
use Rattle.std.proofs.Common.{◌≡◌, ℕ, List, [], ◌∷◌, ◌++◌, length, take, Option, Some, None, Result, Ok, Err, refl, sym, ap, ap₂, subst, ◌∙◌}
use Rattle.std.specs.Prelude.{IfErr, IfSome, OnOk, MatchOption, slice_get}
use Rattle.lf_meaning.specs.Signatures.{Declaration, Signature}
use Rattle.lf_meaning.specs.Judgements.{IsDeclaration, IsSignature}
use Rattle.lf_meaning.specs.Faults.{Fault, BadDeclaration, declaration_fault, signature_fault}
use Rattle.lf_typing.proofs.Faultless.{declaration_complete}
use Rattle.lf_typing.proofs.FirstBadDeclaration.{first_bad}
use Rattle.lf_check.specs.Answers.{fault_of, Answers, Refutes, IsBadOf, IsFirstBad, RefutesSignature}
use Rattle.lf_check.specs.declared.faults.LfFault.{LfFault}
use Rattle.lf_check.specs.declared.faults.SigFault.{SigFault}
use Rattle.lf_check.specs.declared.faults.SigFault.TheVariants as bad

module _ (P : Type 0) (first : Option Fault) where
  pub accepts : (r : Result (Unit {0}) LfFault) → Answers r first → (first ≡ None → P) → OnOk r P
  accepts (Ok u) h f = f h
  accepts (Err e) h f = tt

  pub refuses : (r : Result (Unit {0}) LfFault) → Answers r first → (P → first ≡ None) → IfErr r (λ e. Refutes e P)
  refuses (Ok u) h f = tt
  refuses (Err e) h f = by (fault_of e) h
    where
      by : (o : Option Fault) → IfSome o (λ g. first ≡ Some g) → IfSome o (λ _. P → ⊥)
      by None g = tt
      by (Some g) is = λ p. absurd (let none = f p in cc)

module _ {A : Type 0} (P : A → Type 0) (found : Result A Fault) where
  pub refuses_all : (e : LfFault) → IfSome (fault_of e) (λ f. found ≡ Err f) → ((a : A) → P a → found ≡ Ok a) → Refutes e ((a : A) × P a)
  refuses_all e h f = by (fault_of e) h
    where
      by : (o : Option Fault) → IfSome o (λ g. found ≡ Err g) → IfSome o (λ _. (a : A) × P a → ⊥)
      by None g = tt
      by (Some g) is = λ p. absurd (let ok = f p.0 p.1 in cc)

module _ (P : Type 0) (first : Option BadDeclaration) where
  pub refuses_signature : (e : SigFault) → IsFirstBad e first → (P → first ≡ None) → RefutesSignature e P
  refuses_signature bad.Memory h f = tt
  refuses_signature (bad.Bad index e) h f = λ p. by (fault_of e) h (f p)
    where
      by : (o : Option Fault) → MatchOption o ⊥ (λ g. first ≡ Some (record { index = index; fault = g })) → first ≡ None → ⊥
      by None g none = g
      by (Some g) is none = absurd (cc)

taken : {A : Type 0} (xs ys : List A) → take (length xs) (xs ++ ys) ≡ xs
taken [] [] = refl
taken [] (y ∷ ys) = refl
taken (x ∷ xs) ys = ap (λ zs. x ∷ zs) (taken xs ys)

got : {A : Type 0} (xs : List A) (y : A) (ys : List A) → slice_get (xs ++ (y ∷ ys)) (length xs) ≡ Some y
got [] y ys = refl
got (x ∷ xs) y ys = got xs y ys

bad_over : (before after sig : Signature) (d : Declaration) (index : ℕ) (fault : Fault) → sig ≡ before ++ (d ∷ after) → index ≡ length before → IsSignature before → declaration_fault before d ≡ Some fault
    → IsSignature (take index sig) × (c : Declaration) × (slice_get sig index ≡ Some c) × (IsDeclaration (take index sig) c → ⊥)
bad_over before after sig d index fault split place typed is =
    let front : take index sig ≡ before = ap₂ take place split ∙ taken before (d ∷ after) in (
      subst IsSignature (sym front) typed,
      d,
      ap₂ slice_get split place ∙ got before d after,
      λ h. absurd (let none : declaration_fault before d ≡ None = declaration_complete before d (subst (λ s. IsDeclaration s d) front h) in cc),
    )

pub is_bad_of : (sig : Signature) (e : SigFault) → IsFirstBad e (signature_fault sig) → IsBadOf e sig
is_bad_of sig bad.Memory h = tt
is_bad_of sig (bad.Bad index e) h = by (fault_of e) h
  where
    by : (o : Option Fault) → MatchOption o ⊥ (λ g. signature_fault sig ≡ Some (record { index = index; fault = g })) → IsBadOf (bad.Bad index e) sig
    by None g = absurd g
    by (Some g) is =
        let f = first_bad sig (record { index = index; fault = g }) is in
        bad_over f.before f.after sig f.declaration index g f.split f.index_is f.before_is f.fault_is
