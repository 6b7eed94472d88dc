-- What is well typed is well sorted; a judgement stays where more variables and constants are known.
use Rattle.std.proofs.Common.{◌≡◌, suc, ◌∷◌, ◌++◌, Some, sym, ap, subst, ◌∙◌}
use Rattle.lf_meaning.specs.Terms.{Constant, Object, Lam, At, Atomic, Var, Con, App, Family, Pi, AtFamily, AtomicFamily, FamilyCon, FamilyApp, Kind, Ty, PiKind, Simple, Arrow, Context}
use Rattle.lf_meaning.specs.Raising.{raise}
use Rattle.lf_meaning.specs.Erasure.{erase, erase_context}
use Rattle.lf_meaning.specs.Substitution.{substitute, substitute_family}
use Rattle.lf_meaning.specs.Signatures.{Class, FamilyClass, KindClass, Signature, class_of}
use Rattle.lf_meaning.specs.Judgements.{Checks, Synthesises, SynthesisesKind, IsFamily, IsKind}
use Rattle.lf_meaning.specs.Sorts.{HasSort, SynthesisesSort, IsSortedAtomicFamily, IsSortedFamily, IsSortedKind, sort_of_class, sorts_of}
use Rattle.lf_substitution_laws.proofs.Below.Lookups.{get_more, get_map}
use Rattle.lf_substitution_laws.proofs.Families.{erase_map}

-- the erasure of what an application synthesises is the erased body
erase_substituted : (m : Object) (t : Simple) (b : Family) → erase (substitute_family m t 0 b) ≡ erase b
erase_substituted m t b = erase_map (substitute m t) 0 b

mutual
  pub checks_sort : (sig : Signature) (context : Context) (m : Object) (a : Family) → Checks sig context m a → HasSort (sorts_of sig) (erase_context context) m (erase a)
  checks_sort sig context (Lam m) (Pi a b) h = checks_sort sig (a ∷ context) m b h
  checks_sort sig context (Lam m) (AtFamily p) h = absurd h
  checks_sort sig context (At r) (Pi a b) h = absurd h
  checks_sort sig context (At r) (AtFamily p) h = synthesises_sort sig context r (AtFamily p) h

  pub synthesises_sort : (sig : Signature) (context : Context) (r : Atomic) (a : Family) → Synthesises sig context r a → SynthesisesSort (sorts_of sig) (erase_context context) r (erase a)
  synthesises_sort sig context (Var i) a h = get_map erase context i h.family h.found ∙ ap Some (sym (erase_map (raise (suc i)) 0 h.family) ∙ ap erase (sym h.is))
  synthesises_sort sig context (Con c) a h = ap sort_of_class h
  synthesises_sort sig context (App r m) a h =
      record { domain = erase h.domain; head_has = subst (λ t. SynthesisesSort (sorts_of sig) (erase_context context) r (Arrow (erase h.domain) t)) (sym (erase_substituted m (erase h.domain) h.body) ∙ ap erase (sym h.is)) (synthesises_sort sig context r (Pi h.domain h.body) h.head_has); argument_has = checks_sort sig context m h.domain h.argument_has }

pub synthesises_kind_sorted : (sig : Signature) (context : Context) (p : AtomicFamily) (k : Kind) → SynthesisesKind sig context p k → IsSortedAtomicFamily (sorts_of sig) (erase_context context) p
synthesises_kind_sorted sig context (FamilyCon c) k h = tt
synthesises_kind_sorted sig context (FamilyApp p m) k h = (synthesises_kind_sorted sig context p (PiKind h.domain h.body) h.head_has, record { sort = erase h.domain; has = checks_sort sig context m h.domain h.argument_has })

pub family_sorted : (sig : Signature) (context : Context) (a : Family) → IsFamily sig context a → IsSortedFamily (sorts_of sig) (erase_context context) a
family_sorted sig context (Pi a b) h = (family_sorted sig context a h.0, family_sorted sig (a ∷ context) b h.1)
family_sorted sig context (AtFamily p) h = synthesises_kind_sorted sig context p Ty h

pub kind_sorted : (sig : Signature) (context : Context) (k : Kind) → IsKind sig context k → IsSortedKind (sorts_of sig) (erase_context context) k
kind_sorted sig context Ty h = tt
kind_sorted sig context (PiKind a k) h = (family_sorted sig context a h.0, kind_sorted sig (a ∷ context) k h.1)

-- A judgement stays where further variables stand before those of its context and further constants
-- are known.
module _ (sig sig' : Signature) (more : (c : Constant) (k : Class) → class_of sig c ≡ Some k → class_of sig' c ≡ Some k) where
  mutual
    pub more_checks : (G E : Context) (m : Object) (a : Family) → Checks sig G m a → Checks sig' (G ++ E) m a
    more_checks G E (Lam m) (Pi a b) h = more_checks (a ∷ G) E m b h
    more_checks G E (Lam m) (AtFamily p) h = h
    more_checks G E (At r) (Pi a b) h = h
    more_checks G E (At r) (AtFamily p) h = more_synthesises G E r (AtFamily p) h

    pub more_synthesises : (G E : Context) (r : Atomic) (a : Family) → Synthesises sig G r a → Synthesises sig' (G ++ E) r a
    more_synthesises G E (Var i) a h = record { family = h.family; found = get_more G E i h.family h.found; is = h.is }
    more_synthesises G E (Con c) a h = more c (FamilyClass a) h
    more_synthesises G E (App r m) a h = record { domain = h.domain; body = h.body; head_has = more_synthesises G E r (Pi h.domain h.body) h.head_has; argument_has = more_checks G E m h.domain h.argument_has; is = h.is }

  pub more_synthesises_kind : (G E : Context) (p : AtomicFamily) (k : Kind) → SynthesisesKind sig G p k → SynthesisesKind sig' (G ++ E) p k
  more_synthesises_kind G E (FamilyCon c) k h = more c (KindClass k) h
  more_synthesises_kind G E (FamilyApp p m) k h = record { domain = h.domain; body = h.body; head_has = more_synthesises_kind G E p (PiKind h.domain h.body) h.head_has; argument_has = more_checks G E m h.domain h.argument_has; is = h.is }

  pub more_family : (G E : Context) (a : Family) → IsFamily sig G a → IsFamily sig' (G ++ E) a
  more_family G E (Pi a b) h = (more_family G E a h.0, more_family (a ∷ G) E b h.1)
  more_family G E (AtFamily p) h = more_synthesises_kind G E p Ty h

  pub more_kind : (G E : Context) (k : Kind) → IsKind sig G k → IsKind sig' (G ++ E) k
  more_kind G E Ty h = tt
  more_kind G E (PiKind a k) h = (more_family G E a h.0, more_kind (a ∷ G) E k h.1)
