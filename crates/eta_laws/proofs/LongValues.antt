-- Long forms of values, and values that agree.
use Rattle.std.proofs.Common.{◌≡◌, ℕ, [], Option, Some, None, refl, sym, ap, ◌∙◌, ◌⊎◌, inl, inr}
use Rattle.std.specs.Prelude.{◌↔◌}
use Rattle.std.proofs.lemmas.Option.{same_Some}
use Rattle.lf_meaning.specs.Terms.{Constant, Object, Lam, At, Atomic, Var, Con, App, Family, Pi, AtFamily, AtomicFamily, FamilyCon, Ty, PiKind, Simple, Base, Arrow}
use Rattle.lf_meaning.specs.Raising.{raise_atomic}
use Rattle.lf_meaning.specs.Erasure.{erase, head_constant}
use Rattle.lf_meaning.specs.Signatures.{Class, FamilyClass, KindClass, Value, SameAs, TermValue, FamilyValue, Signature}
use Rattle.lf_meaning.specs.Judgements.{IsSignature, Fits}
use Rattle.eta_meaning.specs.LongTerms.{eta}
use Rattle.eta_meaning.specs.LongValues.{long_constant, long_value, Agree}
use Rattle.eta_laws.proofs.LongFamilies.{eta_family_head}
use Rattle.eta_laws.proofs.IdentityTyping.{eta_checks, eta_family_is_family}

long_constant_fits : (sig : Signature) → IsSignature sig → (class : Class) (d : Constant) → Fits sig (SameAs d) class → Fits sig (long_constant class d) class
long_constant_fits sig typed (FamilyClass (Pi a b)) d h = eta_checks sig typed [] tt (Con d) (Pi a b) h
long_constant_fits sig typed (FamilyClass (AtFamily p)) d h = h
long_constant_fits sig typed (KindClass (PiKind a k)) d h = (refl, eta_family_is_family sig typed [] tt (FamilyCon d) (PiKind a k) h)
long_constant_fits sig typed (KindClass Ty) d h = h

pub long_value_fits : (sig : Signature) → IsSignature sig → (class : Class) (value : Value) → Fits sig value class → Fits sig (long_value class value) class
long_value_fits sig typed class (SameAs d) h = long_constant_fits sig typed class d h
long_value_fits sig typed class (TermValue object) h = h
long_value_fits sig typed class (FamilyValue binders body) h = h

long_constant_is_long : (class : Class) (d : Constant) → long_value class (long_constant class d) ≡ long_constant class d
long_constant_is_long (FamilyClass (Pi a b)) d = refl
long_constant_is_long (FamilyClass (AtFamily p)) d = refl
long_constant_is_long (KindClass (PiKind a k)) d = refl
long_constant_is_long (KindClass Ty) d = refl

pub long_value_is_long : (class : Class) (value : Value) → long_value class (long_value class value) ≡ long_value class value
long_value_is_long class (SameAs d) = long_constant_is_long class d
long_value_is_long class (TermValue object) = refl
long_value_is_long class (FamilyValue binders body) = refl

-- nothing has a longer form at an atomic family or at `type`
long_at_atom : (p : AtomicFamily) (value : Value) → long_value (FamilyClass (AtFamily p)) value ≡ value
long_at_atom p (SameAs d) = refl
long_at_atom p (TermValue object) = refl
long_at_atom p (FamilyValue binders body) = refl

long_at_type : (value : Value) → long_value (KindClass Ty) value ≡ value
long_at_type (SameAs d) = refl
long_at_type (TermValue object) = refl
long_at_type (FamilyValue binders body) = refl

pub agree_at_atoms : (p : AtomicFamily) (first second : Value) → Agree (FamilyClass (AtFamily p)) first second ↔ (first ≡ second)
agree_at_atoms p first second = (λ e. sym (long_at_atom p first) ∙ e ∙ long_at_atom p second, λ e. ap (long_value (FamilyClass (AtFamily p))) e)

pub agree_at_type : (first second : Value) → Agree (KindClass Ty) first second ↔ (first ≡ second)
agree_at_type first second = (λ e. sym (long_at_type first) ∙ e ∙ long_at_type second, λ e. ap (long_value (KindClass Ty)) e)

same_object_value : {m n : Object} → TermValue m ≡ TermValue n → n ≡ m
same_object_value e = cc

pub constant_agrees : (a b : Family) (d : Constant) (object : Object) → Agree (FamilyClass (Pi a b)) (SameAs d) (TermValue object) ↔ (object ≡ eta (erase (Pi a b)) (Con d))
constant_agrees a b d object = (λ e. same_object_value e, λ e. ap TermValue (sym e))

-- the constant at the head of what is under all λs of an object, where there is one
mutual
  innermost : Object → Option Constant
  innermost (Lam body) = innermost body
  innermost (At r) = innermost_atomic r

  innermost_atomic : Atomic → Option Constant
  innermost_atomic (Var index) = None
  innermost_atomic (Con constant) = Some constant
  innermost_atomic (App r argument) = innermost_atomic r

raise_innermost : (r : Atomic) → innermost_atomic (raise_atomic 1 0 r) ≡ innermost_atomic r
unfolding innermost innermost_atomic
raise_innermost (Var index) = refl
raise_innermost (Con constant) = refl
raise_innermost (App r argument) = raise_innermost r

-- a long form has the same
eta_innermost : (t : Simple) (r : Atomic) → innermost (eta t r) ≡ innermost_atomic r
unfolding innermost innermost_atomic
eta_innermost (Base c) r = refl
eta_innermost (Arrow s t) r = eta_innermost t (App (raise_atomic 1 0 r) (eta s (Var 0))) ∙ raise_innermost r

same_long_form : (t : Simple) (c d : Constant) → eta t (Con c) ≡ eta t (Con d) → c ≡ d
unfolding innermost innermost_atomic
same_long_form t c d e = same_Some _ _ (sym (eta_innermost t (Con c)) ∙ ap innermost e ∙ eta_innermost t (Con d))

same_constant_value : {c d : Constant} → SameAs c ≡ SameAs d → c ≡ d
same_constant_value e = cc

same_family_value : {n : ℕ} {p q : AtomicFamily} → FamilyValue n (AtFamily p) ≡ FamilyValue n (AtFamily q) → p ≡ q
same_family_value e = cc

pub constants_agree : (class : Class) (c d : Constant) → Agree class (SameAs c) (SameAs d) → c ≡ d
constants_agree (FamilyClass (Pi a b)) c d e = same_long_form (erase (Pi a b)) c d (sym (same_object_value e))
constants_agree (FamilyClass (AtFamily p)) c d e = same_constant_value e
constants_agree (KindClass (PiKind a k)) c d e = sym (eta_family_head (PiKind a k) (FamilyCon c)) ∙ ap head_constant (same_family_value e) ∙ eta_family_head (PiKind a k) (FamilyCon d)
constants_agree (KindClass Ty) c d e = same_constant_value e

agree_means_at : (class : Class) (first second : Value) → Agree class first second → (first ≡ second) ⊎ (second ≡ long_value class first) ⊎ (first ≡ long_value class second)
agree_means_at class (SameAs c) (SameAs d) e = inl (ap SameAs (constants_agree class c d e))
agree_means_at class (SameAs c) (TermValue object) e = inr (inl (sym e))
agree_means_at class (SameAs c) (FamilyValue binders body) e = inr (inl (sym e))
agree_means_at class (TermValue object) (SameAs d) e = inr (inr e)
agree_means_at class (FamilyValue binders body) (SameAs d) e = inr (inr e)
agree_means_at class (TermValue object) (TermValue other) e = inl e
agree_means_at class (TermValue object) (FamilyValue binders body) e = inl e
agree_means_at class (FamilyValue binders body) (TermValue object) e = inl e
agree_means_at class (FamilyValue binders body) (FamilyValue more other) e = inl e

meant_agree : (class : Class) (first second : Value) → (first ≡ second) ⊎ (second ≡ long_value class first) ⊎ (first ≡ long_value class second) → Agree class first second
meant_agree class first second (inl e) = ap (long_value class) e
meant_agree class first second (inr (inl e)) = sym (ap (long_value class) e ∙ long_value_is_long class first)
meant_agree class first second (inr (inr e)) = ap (long_value class) e ∙ long_value_is_long class second

pub agree_means : (class : Class) (first second : Value) → Agree class first second ↔ ((first ≡ second) ⊎ (second ≡ long_value class first) ⊎ (first ≡ long_value class second))
agree_means class first second = (agree_means_at class first second, meant_agree class first second)
