-- A judgement holds exactly where its first fault is none.
use Rattle.std.proofs.Common.{◌≡◌, ℕ, suc, ◌+◌, [], ◌∷◌, ◌++◌, length, Option, Some, None, Result, Ok, Err, Bool, true, false, cond, nat_eq, refl, sym, ap, subst, subst₂, ◌∙◌, append_assoc, append-nil, eqb-true, eq-eqb}
use Rattle.std.specs.Prelude.{slice_get}
use Rattle.lf_meaning.specs.Terms.{Object, Lam, At, Atomic, Var, Con, App, Family, Pi, AtFamily, AtomicFamily, FamilyCon, FamilyApp, Kind, Ty, PiKind, Context, argument_count, family_argument_count, domain_count, with_domains}
use Rattle.lf_meaning.specs.Raising.{raise_family}
use Rattle.lf_meaning.specs.Erasure.{erase}
use Rattle.lf_meaning.specs.Substitution.{substitute_family, substitute_kind}
use Rattle.lf_meaning.specs.Signatures.{Class, FamilyClass, KindClass, Value, SameAs, TermValue, FamilyValue, Declaration, Signature, class_of}
use Rattle.lf_meaning.specs.Judgements.{Checks, Synthesises, SynthesisesKind, IsFamily, IsKind, IsClass, Fits, ValueFits, IsDeclaration, IsSignature}
use Rattle.lf_meaning.specs.Equality.{same_family, same_kind}
use Rattle.lf_meaning.specs.Faults.{Mismatch, Fault, here, inside, first_fault, unless_fault, variable_answer, constant_answer, application_answer, stands_at, object_fault, synthesised, family_constant_answer, family_application_answer, synthesised_kind, stands_at_type, family_fault, kind_fault, class_fault, same_fault, value_fault, optional_value_fault, declaration_fault, BadDeclaration, bad_at, signature_fault_after, signature_fault}
use Rattle.lf_substitution_laws.proofs.Below.Equality.{same_family_sound, same_family_itself, same_kind_sound, same_kind_itself}

-- what the answers tell, from none
inside_none : (step : ℕ) (o : Option Fault) → inside step o ≡ None → o ≡ None
inside_none step None h = refl
inside_none step (Some f) h = absurd (cc)

first_none : (o p : Option Fault) → first_fault o p ≡ None → (o ≡ None) × (p ≡ None)
first_none None p h = (refl, h)
first_none (Some f) p h = absurd (cc)

none_first : (o p : Option Fault) → o ≡ None → p ≡ None → first_fault o p ≡ None
none_first o p h g = ap (λ x. first_fault x p) h ∙ g

test_none : (b : Bool) (f : Fault) → cond b None (Some f) ≡ None → b ≡ true
test_none true f h = refl
test_none false f h = absurd (cc)

test_then_none : (b : Bool) (o : Option Fault) (f : Fault) → cond b o (Some f) ≡ None → (b ≡ true) × (o ≡ None)
test_then_none true o f h = (refl, h)
test_then_none false o f h = absurd (cc)

unless_ok : {A : Type 0} (o : Option Fault) (x y : A) → unless_fault o x ≡ Ok y → (o ≡ None) × (x ≡ y)
unless_ok None x y h = (refl, cc)
unless_ok (Some f) x y h = absurd (cc)

variable_ok : (o : Option Family) (i : ℕ) (a : Family) → variable_answer o i ≡ Ok a → (b : Family) × (o ≡ Some b) × (a ≡ raise_family (suc i) 0 b)
variable_ok None i a h = absurd (cc)
variable_ok (Some b) i a h = (b, refl, sym (cc))

constant_ok : (o : Option Class) (a : Family) → constant_answer o ≡ Ok a → o ≡ Some (FamilyClass a)
constant_ok None a h = absurd (cc)
constant_ok (Some (KindClass k)) a h = absurd (cc)
constant_ok (Some (FamilyClass b)) a h = let e : b ≡ a = cc in ap (λ x. Some (FamilyClass x)) e

family_constant_ok : (o : Option Class) (k : Kind) → family_constant_answer o ≡ Ok k → o ≡ Some (KindClass k)
family_constant_ok None k h = absurd (cc)
family_constant_ok (Some (FamilyClass a)) k h = absurd (cc)
family_constant_ok (Some (KindClass l)) k h = let e : l ≡ k = cc in ap (λ x. Some (KindClass x)) e

-- the parts of an application that has an answer
record ApplicationOk (o : Result Family Fault) (m : Object) (check : Family → Option Fault) (a : Family) : Type 0 where
  domain : Family
  body : Family
  head_is : o ≡ Ok (Pi domain body)
  argument_is : check domain ≡ None
  is : a ≡ substitute_family m (erase domain) 0 body

application_ok : (o : Result Family Fault) (step : ℕ) (m : Object) (check : Family → Option Fault) (a : Family) → application_answer o step m check ≡ Ok a → ApplicationOk o m check a
application_ok (Err f) step m check a h = absurd (cc)
application_ok (Ok (AtFamily p)) step m check a h = absurd (cc)
application_ok (Ok (Pi b c)) step m check a h =
    let e = unless_ok (inside step (check b)) (substitute_family m (erase b) 0 c) a h in
    record { domain = b; body = c; head_is = refl; argument_is = inside_none step (check b) e.0; is = sym e.1 }

record FamilyApplicationOk (o : Result Kind Fault) (m : Object) (check : Family → Option Fault) (k : Kind) : Type 0 where
  domain : Family
  body : Kind
  head_is : o ≡ Ok (PiKind domain body)
  argument_is : check domain ≡ None
  is : k ≡ substitute_kind m (erase domain) 0 body

family_application_ok : (o : Result Kind Fault) (step : ℕ) (m : Object) (check : Family → Option Fault) (k : Kind) → family_application_answer o step m check ≡ Ok k → FamilyApplicationOk o m check k
family_application_ok (Err f) step m check k h = absurd (cc)
family_application_ok (Ok Ty) step m check k h = absurd (cc)
family_application_ok (Ok (PiKind b c)) step m check k h =
    let e = unless_ok (inside step (check b)) (substitute_kind m (erase b) 0 c) k h in
    record { domain = b; body = c; head_is = refl; argument_is = inside_none step (check b) e.0; is = sym e.1 }

stands_none : (o : Result Family Fault) (p : AtomicFamily) → stands_at o (AtFamily p) ≡ None → o ≡ Ok (AtFamily p)
stands_none (Err f) p h = absurd (cc)
stands_none (Ok b) p h = ap Ok (same_family_sound b (AtFamily p) (test_none (same_family b (AtFamily p)) (here Mismatch) h))

stands_at_pi : (o : Result Family Fault) (a b : Family) → stands_at o (Pi a b) ≡ None → ⊥
stands_at_pi (Err f) a b h = cc
stands_at_pi (Ok c) a b h = cc

stands_type_none : (o : Result Kind Fault) → stands_at_type o ≡ None → o ≡ Ok Ty
stands_type_none (Err f) h = absurd (cc)
stands_type_none (Ok Ty) h = refl
stands_type_none (Ok (PiKind a k)) h = absurd (cc)

module _ (sig : Signature) where
  -- no fault, so the judgement holds
  mutual
    pub object_sound : (context : Context) (m : Object) (a : Family) → object_fault sig context m a ≡ None → Checks sig context m a
    object_sound context (Lam m) (Pi a b) h = object_sound (a ∷ context) m b (inside_none 0 (object_fault sig (a ∷ context) m b) h)
    object_sound context (Lam m) (AtFamily p) h = cc
    object_sound context (At r) (Pi a b) h = stands_at_pi (synthesised sig context r) a b h
    object_sound context (At r) (AtFamily p) h = synthesised_sound context r (AtFamily p) (stands_none (synthesised sig context r) p h)

    pub synthesised_sound : (context : Context) (r : Atomic) (a : Family) → synthesised sig context r ≡ Ok a → Synthesises sig context r a
    synthesised_sound context (Var i) a h = let e = variable_ok (slice_get context i) i a h in record { family = e.0; found = e.1; is = e.2 }
    synthesised_sound context (Con c) a h = constant_ok (class_of sig c) a h
    synthesised_sound context (App r m) a h =
        let e : ApplicationOk (synthesised sig context r) m (object_fault sig context m) a = application_ok (synthesised sig context r) (2 + argument_count r) m (object_fault sig context m) a h in
        record { domain = e.domain; body = e.body; head_has = synthesised_sound context r (Pi e.domain e.body) e.head_is; argument_has = object_sound context m e.domain e.argument_is; is = e.is }

  -- the judgement holds, so there is no fault
  mutual
    pub object_complete : (context : Context) (m : Object) (a : Family) → Checks sig context m a → object_fault sig context m a ≡ None
    object_complete context (Lam m) (Pi a b) h = ap (inside 0) (object_complete (a ∷ context) m b h)
    object_complete context (Lam m) (AtFamily p) h = absurd h
    object_complete context (At r) (Pi a b) h = absurd h
    object_complete context (At r) (AtFamily p) h = ap (λ o. stands_at o (AtFamily p)) (synthesised_complete context r (AtFamily p) h) ∙ ap (λ b. cond b None (Some (here Mismatch))) (same_family_itself (AtFamily p))

    pub synthesised_complete : (context : Context) (r : Atomic) (a : Family) → Synthesises sig context r a → synthesised sig context r ≡ Ok a
    synthesised_complete context (Var i) a h = ap (λ o. variable_answer o i) h.found ∙ ap Ok (sym h.is)
    synthesised_complete context (Con c) a h = ap constant_answer h
    synthesised_complete context (App r m) a h =
        ap (λ o. application_answer o (2 + argument_count r) m (object_fault sig context m)) (synthesised_complete context r (Pi h.domain h.body) h.head_has) ∙ ap (λ o. unless_fault (inside (2 + argument_count r) o) (substitute_family m (erase h.domain) 0 h.body)) (object_complete context m h.domain h.argument_has) ∙ ap Ok (sym h.is)

  pub synthesised_kind_sound : (context : Context) (p : AtomicFamily) (k : Kind) → synthesised_kind sig context p ≡ Ok k → SynthesisesKind sig context p k
  synthesised_kind_sound context (FamilyCon c) k h = family_constant_ok (class_of sig c) k h
  synthesised_kind_sound context (FamilyApp p m) k h =
      let e : FamilyApplicationOk (synthesised_kind sig context p) m (object_fault sig context m) k = family_application_ok (synthesised_kind sig context p) (2 + family_argument_count p) m (object_fault sig context m) k h in
      record { domain = e.domain; body = e.body; head_has = synthesised_kind_sound context p (PiKind e.domain e.body) e.head_is; argument_has = object_sound context m e.domain e.argument_is; is = e.is }

  pub synthesised_kind_complete : (context : Context) (p : AtomicFamily) (k : Kind) → SynthesisesKind sig context p k → synthesised_kind sig context p ≡ Ok k
  synthesised_kind_complete context (FamilyCon c) k h = ap family_constant_answer h
  synthesised_kind_complete context (FamilyApp p m) k h =
      ap (λ o. family_application_answer o (2 + family_argument_count p) m (object_fault sig context m)) (synthesised_kind_complete context p (PiKind h.domain h.body) h.head_has) ∙ ap (λ o. unless_fault (inside (2 + family_argument_count p) o) (substitute_kind m (erase h.domain) 0 h.body)) (object_complete context m h.domain h.argument_has) ∙ ap Ok (sym h.is)

  pub family_sound : (context : Context) (a : Family) → family_fault sig context a ≡ None → IsFamily sig context a
  family_sound context (Pi a b) h =
      let e = first_none (inside 0 (family_fault sig context a)) (inside 1 (family_fault sig (a ∷ context) b)) h in
      (family_sound context a (inside_none 0 (family_fault sig context a) e.0), family_sound (a ∷ context) b (inside_none 1 (family_fault sig (a ∷ context) b) e.1))
  family_sound context (AtFamily p) h = synthesised_kind_sound context p Ty (stands_type_none (synthesised_kind sig context p) h)

  pub family_complete : (context : Context) (a : Family) → IsFamily sig context a → family_fault sig context a ≡ None
  family_complete context (Pi a b) h = none_first (inside 0 (family_fault sig context a)) (inside 1 (family_fault sig (a ∷ context) b)) (ap (inside 0) (family_complete context a h.0)) (ap (inside 1) (family_complete (a ∷ context) b h.1))
  family_complete context (AtFamily p) h = ap stands_at_type (synthesised_kind_complete context p Ty h)

  pub kind_sound : (context : Context) (k : Kind) → kind_fault sig context k ≡ None → IsKind sig context k
  kind_sound context Ty h = tt
  kind_sound context (PiKind a k) h =
      let e = first_none (inside 0 (family_fault sig context a)) (inside 1 (kind_fault sig (a ∷ context) k)) h in
      (family_sound context a (inside_none 0 (family_fault sig context a) e.0), kind_sound (a ∷ context) k (inside_none 1 (kind_fault sig (a ∷ context) k) e.1))

  pub kind_complete : (context : Context) (k : Kind) → IsKind sig context k → kind_fault sig context k ≡ None
  kind_complete context Ty h = refl
  kind_complete context (PiKind a k) h = none_first (inside 0 (family_fault sig context a)) (inside 1 (kind_fault sig (a ∷ context) k)) (ap (inside 0) (family_complete context a h.0)) (ap (inside 1) (kind_complete (a ∷ context) k h.1))

  pub class_sound : (k : Class) → class_fault sig k ≡ None → IsClass sig k
  class_sound (FamilyClass a) h = family_sound [] a h
  class_sound (KindClass k) h = kind_sound [] k h

  pub class_complete : (k : Class) → IsClass sig k → class_fault sig k ≡ None
  class_complete (FamilyClass a) h = family_complete [] a h
  class_complete (KindClass k) h = kind_complete [] k h

  same_none : (o : Option Class) (k : Class) → same_fault o k ≡ None → o ≡ Some k
  same_none None k h = absurd (cc)
  same_none (Some (FamilyClass a)) (KindClass l) h = absurd (cc)
  same_none (Some (KindClass k)) (FamilyClass b) h = absurd (cc)
  same_none (Some (FamilyClass a)) (FamilyClass b) h = ap (λ x. Some (FamilyClass x)) (same_family_sound a b (test_none (same_family a b) (here Mismatch) h))
  same_none (Some (KindClass k)) (KindClass l) h = ap (λ x. Some (KindClass x)) (same_kind_sound k l (test_none (same_kind k l) (here Mismatch) h))

  same_itself : (k : Class) → same_fault (Some k) k ≡ None
  same_itself (FamilyClass a) = ap (λ b. cond b None (Some (here Mismatch))) (same_family_itself a)
  same_itself (KindClass k) = ap (λ b. cond b None (Some (here Mismatch))) (same_kind_itself k)

  pub value_sound : (v : Value) (k : Class) → value_fault sig v k ≡ None → Fits sig v k
  value_sound (SameAs d) k h = same_none (class_of sig d) k h
  value_sound (TermValue m) (FamilyClass a) h = object_sound [] m a h
  value_sound (TermValue m) (KindClass k) h = cc
  value_sound (FamilyValue n body) (FamilyClass a) h = cc
  value_sound (FamilyValue n body) (KindClass k) h =
      let e = test_then_none (nat_eq n (domain_count k)) (family_fault sig (with_domains k []) body) (here Mismatch) h in
      (eqb-true n (domain_count k) e.0, family_sound (with_domains k []) body e.1)

  pub value_complete : (v : Value) (k : Class) → Fits sig v k → value_fault sig v k ≡ None
  value_complete (SameAs d) k h = ap (λ o. same_fault o k) h ∙ same_itself k
  value_complete (TermValue m) (FamilyClass a) h = object_complete [] m a h
  value_complete (TermValue m) (KindClass k) h = absurd h
  value_complete (FamilyValue n body) (FamilyClass a) h = absurd h
  value_complete (FamilyValue n body) (KindClass k) h = ap (λ b. cond b (family_fault sig (with_domains k []) body) (Some (here Mismatch))) (eq-eqb n (domain_count k) h.0) ∙ family_complete (with_domains k []) body h.1

  pub optional_value_sound : (o : Option Value) (k : Class) → optional_value_fault sig o k ≡ None → ValueFits sig o k
  optional_value_sound None k h = tt
  optional_value_sound (Some v) k h = value_sound v k h

  pub optional_value_complete : (o : Option Value) (k : Class) → ValueFits sig o k → optional_value_fault sig o k ≡ None
  optional_value_complete None k h = refl
  optional_value_complete (Some v) k h = value_complete v k h

  pub declaration_sound : (d : Declaration) → declaration_fault sig d ≡ None → IsDeclaration sig d
  declaration_sound d h =
      let e = first_none (inside 0 (class_fault sig d.class)) (inside 1 (optional_value_fault sig d.value d.class)) h in
      record { class_is = class_sound d.class (inside_none 0 (class_fault sig d.class) e.0); value_fits = optional_value_sound d.value d.class (inside_none 1 (optional_value_fault sig d.value d.class) e.1) }

  pub declaration_complete : (d : Declaration) → IsDeclaration sig d → declaration_fault sig d ≡ None
  declaration_complete d h = none_first (inside 0 (class_fault sig d.class)) (inside 1 (optional_value_fault sig d.value d.class)) (ap (inside 0) (class_complete d.class h.class_is)) (ap (inside 1) (optional_value_complete d.value d.class h.value_fits))

-- a synthesised classifier is unique
pub synthesises_unique : (sig : Signature) (context : Context) (r : Atomic) (a b : Family) → Synthesises sig context r a → Synthesises sig context r b → a ≡ b
synthesises_unique sig context r a b h g =
    let e : Ok a ≡ Ok b = sym (synthesised_complete sig context r a h) ∙ synthesised_complete sig context r b g in cc

pub synthesises_kind_unique : (sig : Signature) (context : Context) (p : AtomicFamily) (k l : Kind) → SynthesisesKind sig context p k → SynthesisesKind sig context p l → k ≡ l
synthesises_kind_unique sig context p k l h g =
    let e : Ok k ≡ Ok l = sym (synthesised_kind_complete sig context p k h) ∙ synthesised_kind_complete sig context p l g in cc

-- the declarations `rest` behind those of `before`
AreDeclarations : Signature → Signature → Type 0
AreDeclarations before rest = (middle : Signature) (d : Declaration) (after : Signature) → rest ≡ middle ++ (d ∷ after) → IsDeclaration (before ++ middle) d

bad_none : (i : ℕ) (o : Option Fault) (later : Option BadDeclaration) → bad_at i o later ≡ None → (o ≡ None) × (later ≡ None)
bad_none i None later h = (refl, h)
bad_none i (Some f) later h = absurd (cc)

declarations_cons : (before rest : Signature) (d : Declaration) → IsDeclaration before d → AreDeclarations (before ++ (d ∷ [])) rest → AreDeclarations before (d ∷ rest)
unfolding AreDeclarations
declarations_cons before rest d h g [] e after s = let same : d ≡ e = cc in subst₂ IsDeclaration (sym (append-nil before)) same h
declarations_cons before rest d h g (f ∷ middle) e after s =
    let same : d ≡ f = cc in
    let tail : rest ≡ middle ++ (e ∷ after) = cc in
    subst (λ s. IsDeclaration s e) (append_assoc before (d ∷ []) middle ∙ ap (λ x. before ++ (x ∷ middle)) same) (g middle e after tail)

signature_after_sound : (before rest : Signature) → signature_fault_after before rest ≡ None → AreDeclarations before rest
unfolding AreDeclarations
signature_after_sound before [] h [] d after e = absurd (cc)
signature_after_sound before [] h (f ∷ middle) d after e = absurd (cc)
signature_after_sound before (d ∷ rest) h middle f after s =
    let e = bad_none (length before) (declaration_fault before d) (signature_fault_after (before ++ (d ∷ [])) rest) h in
    declarations_cons before rest d (declaration_sound before d e.0) (signature_after_sound (before ++ (d ∷ [])) rest e.1) middle f after s

signature_after_complete : (before rest : Signature) → AreDeclarations before rest → signature_fault_after before rest ≡ None
unfolding AreDeclarations
signature_after_complete before [] h = refl
signature_after_complete before (d ∷ rest) h =
    ap (λ o. bad_at (length before) o (signature_fault_after (before ++ (d ∷ [])) rest)) (declaration_complete before d (subst (λ s. IsDeclaration s d) (append-nil before) (h [] d rest refl))) ∙ signature_after_complete (before ++ (d ∷ [])) rest (λ middle e after s. subst (λ t. IsDeclaration t e) (sym (append_assoc before (d ∷ []) middle)) (h (d ∷ middle) e after (ap (λ x. d ∷ x) s)))

pub signature_sound : (sig : Signature) → signature_fault sig ≡ None → IsSignature sig
unfolding AreDeclarations
signature_sound sig h before d after e = signature_after_sound [] sig h before d after e

pub signature_complete : (sig : Signature) → IsSignature sig → signature_fault sig ≡ None
unfolding AreDeclarations
signature_complete sig h = signature_after_complete [] sig h
