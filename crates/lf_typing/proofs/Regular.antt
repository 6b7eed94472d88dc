-- What is synthesised is well sorted, in a context of well-sorted families.
use Rattle.std.proofs.Common.{◌≡◌, ℕ, zero, suc, [], ◌∷◌, ◌++◌, length, Some, refl, sym, ap, ap₂, subst, subst₂, ◌∙◌, arith}
use Rattle.std.specs.Prelude.{slice_get}
use Rattle.lf_meaning.specs.Terms.{Object, Atomic, Var, Con, App, Family, Pi, AtomicFamily, FamilyCon, FamilyApp, Kind, PiKind, Simple, Context}
use Rattle.lf_meaning.specs.Raising.{raise_family, map_context}
use Rattle.lf_meaning.specs.Erasure.{erase, erase_context}
use Rattle.lf_meaning.specs.Substitution.{substitute, substitute_family, substitute_context}
use Rattle.lf_meaning.specs.Signatures.{Signature}
use Rattle.lf_meaning.specs.Judgements.{Synthesises, SynthesisesKind, IsContext, IsSignature}
use Rattle.lf_meaning.specs.Sorts.{Sorts, HasSort, IsSortedFamily, IsSortedKind, sorts_of}
use Rattle.lf_substitution_laws.proofs.Families.{erase_map, raise_family_twice}
use Rattle.lf_substitution_laws.proofs.SortedFamilies.{raise_keeps_sorted, substitute_keeps_sorted, substitute_keeps_sorted_kind, more_sorted_family, more_sorted_kind}
use Rattle.lf_typing.proofs.Typed.{checks_sort, family_sorted}
use Rattle.lf_typing.proofs.Closed.{class_sorted_family, class_sorted_kind}

-- each family of the context is well sorted over those before it
abbrev pub IsSortedContext : Sorts → Context → Type 0
IsSortedContext sorts [] = Unit {0}
IsSortedContext sorts (a ∷ context) = IsSortedContext sorts context × IsSortedFamily sorts (erase_context context) a

pub context_sorted : (sig : Signature) (context : Context) → IsContext sig context → IsSortedContext (sorts_of sig) context
context_sorted sig [] h = tt
context_sorted sig (a ∷ context) h = (context_sorted sig context h.0, family_sorted sig context a h.1)

pub lookup_sorted : (sorts : Sorts) (context : Context) (i : ℕ) (a : Family) → IsSortedContext sorts context → slice_get context i ≡ Some a → IsSortedFamily sorts (erase_context context) (raise_family (suc i) 0 a)
lookup_sorted sorts [] i a h e = absurd (cc)
lookup_sorted sorts (b ∷ context) zero a h e =
    let same : b ≡ a = cc in
    raise_keeps_sorted sorts (erase b ∷ []) (erase_context context) [] a (subst (IsSortedFamily sorts (erase_context context)) same h.1)
lookup_sorted sorts (b ∷ context) (suc i) a h e =
    let twice : raise_family 1 0 (raise_family (suc i) 0 a) ≡ raise_family (suc (suc i)) 0 a = raise_family_twice (suc i) 1 0 0 a (omega arith) (omega arith) ∙ ap (λ k. raise_family k 0 a) (omega arith) in
    subst (IsSortedFamily sorts (erase b ∷ erase_context context)) twice (raise_keeps_sorted sorts (erase b ∷ []) (erase_context context) [] (raise_family (suc i) 0 a) (lookup_sorted sorts context i a h.0 e))

module _ (sig : Signature) (typed : IsSignature sig) where
  pub synthesised_sorted : (context : Context) (r : Atomic) (a : Family) → IsSortedContext (sorts_of sig) context → Synthesises sig context r a → IsSortedFamily (sorts_of sig) (erase_context context) a
  synthesised_sorted context (Var i) a s h = subst (IsSortedFamily (sorts_of sig) (erase_context context)) (sym h.is) (lookup_sorted (sorts_of sig) context i h.family s h.found)
  synthesised_sorted context (Con c) a s h = more_sorted_family (sorts_of sig) (sorts_of sig) (λ d t e. e) [] (erase_context context) a (class_sorted_family sig typed c a h)
  synthesised_sorted context (App r m) a s h = subst (IsSortedFamily (sorts_of sig) (erase_context context)) (sym h.is) (substitute_keeps_sorted (sorts_of sig) m (erase h.domain) (erase_context context) (checks_sort sig context m h.domain h.argument_has) [] h.body (synthesised_sorted context r (Pi h.domain h.body) s h.head_has).1)

  pub synthesised_kind_sorted : (context : Context) (p : AtomicFamily) (k : Kind) → IsSortedContext (sorts_of sig) context → SynthesisesKind sig context p k → IsSortedKind (sorts_of sig) (erase_context context) k
  synthesised_kind_sorted context (FamilyCon c) k s h = more_sorted_kind (sorts_of sig) (sorts_of sig) (λ d t e. e) [] (erase_context context) k (class_sorted_kind sig typed c k h)
  synthesised_kind_sorted context (FamilyApp p m) k s h = subst (IsSortedKind (sorts_of sig) (erase_context context)) (sym h.is) (substitute_keeps_sorted_kind (sorts_of sig) m (erase h.domain) (erase_context context) (checks_sort sig context m h.domain h.argument_has) [] h.body (synthesised_kind_sorted context p (PiKind h.domain h.body) s h.head_has).1)

-- erasure of a context in two parts, of which the first has a function done to it
pub erase_appended : (after before : Context) → erase_context (after ++ before) ≡ erase_context after ++ erase_context before
erase_appended [] before = refl
erase_appended (a ∷ after) before = ap (λ x. erase a ∷ x) (erase_appended after before)

pub erase_mapped : (f : ℕ → Object → Object) (after before : Context) → erase_context (map_context f after ++ before) ≡ erase_context after ++ erase_context before
erase_mapped f [] before = refl
erase_mapped f (a ∷ after) before = ap₂ (λ s x. s ∷ x) (erase_map f (length after) a) (erase_mapped f after before)

pub length_erased : (context : Context) → length (erase_context context) ≡ length context
length_erased [] = refl
length_erased (a ∷ context) = ap suc (length_erased context)

-- the erased context of a substitution
pub erase_split : (after before : Context) (a : Family) (s : Simple) → erase a ≡ s → erase_context (after ++ (a ∷ before)) ≡ erase_context after ++ (s ∷ erase_context before)
erase_split after before a s e = erase_appended after (a ∷ before) ∙ ap (λ t. erase_context after ++ (t ∷ erase_context before)) e

-- substitution keeps well-sorted contexts
pub substitute_sorted_context : (sorts : Sorts) (after before : Context) (v : Object) (a : Family) (s : Simple) → erase a ≡ s → HasSort sorts (erase_context before) v s → IsSortedContext sorts (after ++ (a ∷ before)) → IsSortedContext sorts (substitute_context v s after ++ before)
substitute_sorted_context sorts [] before v a s e h g = g.0
substitute_sorted_context sorts (b ∷ after) before v a s e h g =
    let there : IsSortedFamily sorts (erase_context after ++ (s ∷ erase_context before)) b = subst (λ D. IsSortedFamily sorts D b) (erase_split after before a s e) g.1 in
    let done : IsSortedFamily sorts (erase_context after ++ erase_context before) (substitute_family v s (length (erase_context after)) b) = substitute_keeps_sorted sorts v s (erase_context before) h (erase_context after) b there in
    (substitute_sorted_context sorts after before v a s e h g.0, subst₂ (λ n D. IsSortedFamily sorts D (substitute_family v s n b)) (length_erased after) (sym (erase_mapped (substitute v s) after before)) done)
