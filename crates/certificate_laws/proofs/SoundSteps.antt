-- Each row keeps truth.
use Rattle.std.specs.Prelude.{pred}
use Rattle.std.proofs.Common.{Bool, true, false, nat_lt, nat_eq, if◌then◌else◌, ◌≡◌, ℕ, suc, ◌+◌, ◌<◌, ◌≤◌, List, Option, Some, None, refl, sym, ap, ap₂, ◌∙◌, arith}
use Rattle.std.proofs.lemmas.Bool.Decides.{nat_tests}
use Rattle.lf_meaning.specs.Terms.{Object, Lam, At, Atomic, Var, Con, App, Pi, AtFamily, AtomicFamily, FamilyApp, PiKind, Simple, Base, Arrow}
use Rattle.lf_meaning.specs.Raising.{raised, raise, map_atomic_family}
use Rattle.lf_meaning.specs.Replacement.{Replaced, takes, replace_head, object_of}
use Rattle.lf_meaning.specs.Substitution.{substitution, action, substitute, substitute_family, substitute_kind, app}
use Rattle.lf_meaning.specs.Signatures.{Signature}
use Rattle.certificate_meaning.specs.Statements.{Statement, IsTrueOver, AllTrueOver, IsHead, TypedHead, HeadStays, HeadGoes, typed_takes, typed_head}
use Rattle.certificate_laws.specs.StepLaws.{headed_of}
use Rattle.certificate_meaning.specs.Steps.{Follows, raise_type, raise_kind_pi, raise_pi, raise_family_constant, raise_family_application, raise_lambda, raise_at, raise_variable_below, raise_variable, raise_constant, raise_application, erase_pi, erase_atomic, substitute_type, substitute_kind_pi, substitute_pi, substitute_family_constant, substitute_family_application, substitute_lambda, substitute_at, head_is_variable, head_is_below, head_is_above, head_is_constant, head_stays, head_goes, apply_lambda, apply_atomic, kind_type, kind_pi, family_pi, family_atomic, constant_kind, application_kind, check_lambda, check_atomic, variable_family, constant_family, application_family}

raised_below : (k n i : ℕ) → i < n → i ≡ raised k n i
raised_below k n i h = grind (arith, nat_tests)

raised_not_below : (k n i : ℕ) → n ≤ i → (i + k) ≡ raised k n i
raised_not_below k n i h = grind (arith, nat_tests)

-- a function on the objects of an applied family, from its head and its argument
application_mapped : (f : ℕ → Object → Object) (n : ℕ) (p q : AtomicFamily) (m o : Object) → AtFamily q ≡ AtFamily (map_atomic_family f n p) → o ≡ f n m → AtFamily (FamilyApp q o) ≡ AtFamily (FamilyApp (map_atomic_family f n p) (f n m))
application_mapped f n p q m o e d =
    let same : q ≡ map_atomic_family f n p = cc in
    ap₂ (λ x y. AtFamily (FamilyApp x y)) same d

headed_if : (b c : Bool) (x y z : TypedHead) → headed_of (if b then x else (if c then y else z)) ≡ if b then headed_of x else (if c then headed_of y else headed_of z)
headed_if true c x y z = refl
headed_if false true x y z = refl
headed_if false false x y z = refl

app_headed : (t : Simple) (v m : Object) → headed_of (HeadGoes (app t v m)) ≡ takes (Replaced v (action t)) m
app_headed (Arrow s t) (Lam n) m = refl
app_headed (Arrow s t) (At r) m = refl
app_headed (Base c) (Lam n) m = refl
app_headed (Base c) (At r) m = refl

takes_headed : (h : TypedHead) (m : Object) → headed_of (typed_takes h m) ≡ takes (headed_of h) m
takes_headed (HeadStays r) m = refl
takes_headed (HeadGoes v) m = app_headed v.type v.value m

-- what comes of an atomic object is the same with simple types and with actions
pub head_headed : (v : Object) (t : Simple) (n : ℕ) (r : Atomic) → headed_of (typed_head v t n r) ≡ replace_head (substitution v (action t)) n r
head_headed v t n (Var i) = headed_if (nat_lt i n) (nat_eq i n) (HeadStays (Var i)) (HeadGoes (record { value = raise n 0 v; type = t })) (HeadStays (Var (pred i)))
head_headed v t n (Con c) = refl
head_headed v t n (App r m) = takes_headed (typed_head v t n r) (substitute v t n m) ∙ ap (λ h. takes h (substitute v t n m)) (head_headed v t n r)

-- the object that a statement has is the one that substitution gives
stands_object : (w : Object) (left : Option Simple) (h : TypedHead) → IsHead w left h → w ≡ object_of (headed_of h)
stands_object w (Some t) h e = ap (λ x. object_of (headed_of x)) (sym e)
stands_object (At r) None h e = ap (λ x. object_of (headed_of x)) (sym e)
stands_object (Lam m) None h e = absurd e

module _ (v : Object) (t : Simple) where
  head_at : (n : ℕ) → typed_head v t n (Var n) ≡ HeadGoes (record { value = raise n 0 v; type = t })
  head_at n = grind (arith, nat_tests)

  head_under : (n i : ℕ) → i < n → typed_head v t n (Var i) ≡ HeadStays (Var i)
  head_under n i h = grind (arith, nat_tests)

  head_over : (n i : ℕ) → n ≤ i → typed_head v t n (Var (suc i)) ≡ HeadStays (Var i)
  head_over n i h = grind (arith, nat_tests)

module _ (sig : Signature) where
  pub sound : {s : Statement} {premises : List Statement} → Follows sig s premises → AllTrueOver sig premises → IsTrueOver sig s
  sound raise_type h = refl
  sound raise_kind_pi h = ap₂ PiKind h.0 h.1.0
  sound raise_pi h = ap₂ Pi h.0 h.1.0
  sound raise_family_constant h = refl
  sound (raise_family_application {by = k} {from = n} {p} {q} {m} {o}) h = application_mapped (raise k) n p q m o h.0 h.1.0
  sound raise_lambda h = ap Lam h.0
  sound raise_at h = ap At h.0
  sound (raise_variable_below {by = k} {from = n} {i} less) h = ap Var (raised_below k n i less)
  sound (raise_variable {by = k} {from = n} {i} least) h = ap Var (raised_not_below k n i least)
  sound raise_constant h = refl
  sound raise_application h = ap₂ App h.0 h.1.0
  sound erase_pi h = ap₂ Arrow h.0 h.1.0
  sound erase_atomic h = refl
  sound substitute_type h = refl
  sound substitute_kind_pi h = ap₂ PiKind h.0 h.1.0
  sound substitute_pi h = ap₂ Pi h.0 h.1.0
  sound substitute_family_constant h = refl
  sound (substitute_family_application {v} {t} {n} {p} {q} {m} {o}) h = application_mapped (substitute v t) n p q m o h.0 h.1.0
  sound substitute_lambda h = ap Lam h.0
  sound (substitute_at {v} {t} {n} {r} {w} left) h = stands_object w left (typed_head v t n r) h.0 ∙ ap object_of (head_headed v t n r)
  sound (head_is_variable {v} {t} {n} {w}) h = head_at v t n ∙ ap (λ x. HeadGoes (record { value = x; type = t })) (sym h.0)
  sound (head_is_below {v} {t} {n} {i} less) h = head_under v t n i less
  sound (head_is_above {v} {t} {n} {i} least) h = head_over v t n i least
  sound head_is_constant h = refl
  sound head_stays h = ap₂ typed_takes h.0 (sym h.1.0)
  sound (head_goes u s) h = ap₂ typed_takes h.0 (sym h.1.0) ∙ ap HeadGoes h.1.1.0
  sound (apply_lambda {t}) h = ap (λ x. record { value = x; type = t }) (sym h.0)
  sound apply_atomic h = refl
  sound kind_type h = tt
  sound kind_pi h = (h.0, h.1.0)
  sound family_pi h = (h.0, h.1.0)
  sound family_atomic h = h.0
  sound (constant_kind declared) h = declared
  sound (application_kind {g} {p} {m} {k} a l s) h = record { domain = a; body = l; head_has = h.0; argument_has = h.1.0; is = h.1.1.1.0 ∙ ap (λ x. substitute_kind m x 0 l) h.1.1.0 }
  sound check_lambda h = h.0
  sound check_atomic h = h.0
  sound (variable_family b found) h = record { family = b; found = found; is = h.0 }
  sound (constant_family declared) h = declared
  sound (application_family {g} {r} {m} {b} a c s) h = record { domain = a; body = c; head_has = h.0; argument_has = h.1.0; is = h.1.1.1.0 ∙ ap (λ x. substitute_family m x 0 c) h.1.1.0 }
