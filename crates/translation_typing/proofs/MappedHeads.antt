-- A function on objects done to what is left of a head, and heads that take arguments.
use Rattle.std.proofs.Common.{◌≡◌, ℕ, zero, suc, ◌+◌, List, [], ◌∷◌, ◌++◌, length, refl, sym, ap, ap₂, ◌∙◌, subst, arith}
use Rattle.lf_meaning.specs.Terms.{Object, Family, Pi, AtFamily, AtomicFamily, Kind, Ty, PiKind, Simple, SimpleContext}
use Rattle.lf_meaning.specs.Erasure.{erase}
use Rattle.lf_meaning.specs.Raising.{raise, raise_family, raise_kind, map_family, map_kind}
use Rattle.lf_meaning.specs.Substitution.{substitute, substitute_family, substitute_kind}
use Rattle.lf_meaning.specs.Signatures.{Signature}
use Rattle.lf_meaning.specs.Sorts.{HasSort, IsSortedAtomicFamily, sorts_of}
use Rattle.lf_substitution_laws.proofs.Families.{erase_map, raise_above_substitution_family, raise_above_substitution_kind}
use Rattle.lf_substitution_laws.proofs.Commutation.{substitutions_commute_family, substitutions_commute_kind}
use Rattle.lf_substitution_laws.proofs.Past.{raise_family_past, raise_kind_past, substitute_family_past, substitute_kind_past}
use Rattle.translation_meaning.specs.Heads.{Head, ObjectHead, FamilyHead, head_takes}
use Rattle.translation_meaning.specs.Translation.{family_of}
use Rattle.translation_typing.proofs.KindDomains.{with_simples, simples_append, simples_length}
use Rattle.translation_typing.proofs.HeadSorts.{BodyFits, OnSpine, ForBinders, HeadFits}
use Rattle.list_laws.proofs.Lists.{first_same}

-- so many binders further in
abbrev pub inside : ℕ → ℕ → ℕ
inside zero n = n
inside (suc binders) n = suc (inside binders n)

inside_is : (binders n : ℕ) → inside binders n ≡ binders + n
inside_is zero n = omega arith
inside_is (suc binders) n = let e = inside_is binders n in omega (arith, e)

-- the family stands below its binders
abbrev pub map_head : (ℕ → Object → Object) → ℕ → Head → Head
map_head f n (ObjectHead object classifier) = ObjectHead object classifier
map_head f n (FamilyHead binders family kind) = FamilyHead binders (map_family f (inside binders n) family) (map_kind f n kind)

same_head : {b : ℕ} {x y : Family} {k l : Kind} → x ≡ y → k ≡ l → FamilyHead b x k ≡ FamilyHead b y l
same_head {b = b} e f = ap₂ (FamilyHead b) e f

-- with no binder left the family is mapped where the head stands
pub family_of_map : (f : ℕ → Object → Object) (sig : Signature) (context : SimpleContext) (n : ℕ) (head : Head) (p q : AtomicFamily) → HeadFits sig context [] head → family_of (map_head f n head) q ≡ map_family f n (family_of head p)
family_of_map f sig context n (ObjectHead object classifier) p q h = absurd h
family_of_map f sig context n (FamilyHead binders (Pi a b) kind) p q h = absurd h
family_of_map f sig context n (FamilyHead binders (AtFamily r) kind) p q h = ap (λ z. map_family f z (AtFamily r)) (by h.2)
  where
    by : BodyFits sig context [] binders r → inside binders n ≡ n
    by (OnSpine e g) = inside_is binders n ∙ omega (arith, e)
    by (ForBinders e g) = inside_is binders n ∙ omega (arith, e)

-- ---- raising

pub raise_taken : (sig : Signature) (context : SimpleContext) (rest : List Simple) (s : Simple) (k n : ℕ) (head : Head) (m : Object) → HeadFits sig context (s ∷ rest) head
    → head_takes (map_head (raise k) n head) (raise k n m) ≡ map_head (raise k) n (head_takes head m)
raise_taken sig context rest s k n (ObjectHead object classifier) m h = absurd h
raise_taken sig context rest s k n (FamilyHead binders (Pi a b) kind) m h = absurd h
raise_taken sig context rest s k n (FamilyHead binders (AtFamily p) Ty) m h = absurd (let e = h.0 in cc)
raise_taken sig context rest s k n (FamilyHead binders (AtFamily p) (PiKind a l)) m h = by binders
  where
    t : Simple
    t = erase a

    kind : substitute_kind (raise k n m) (erase (raise_family k n a)) 0 (raise_kind k (suc n) l) ≡ raise_kind k n (substitute_kind m (erase a) 0 l)
    kind = ap (λ z. substitute_kind (raise k n m) z 0 (raise_kind k (suc n) l)) (erase_map (raise k) n a) ∙ sym (raise_above_substitution_kind k n m (erase a) 0 n l (omega arith))

    by : (b : ℕ) → head_takes (map_head (raise k) n (FamilyHead b (AtFamily p) (PiKind a l))) (raise k n m) ≡ map_head (raise k) n (head_takes (FamilyHead b (AtFamily p) (PiKind a l)) m)
    by zero = same_head refl kind
    by (suc b) = same_head (ap (λ z. substitute_family (raise k n m) z b (raise_family k (suc (inside b n)) (AtFamily p))) (erase_map (raise k) n a) ∙ sym (raise_above_substitution_family k n m (erase a) b (inside b n) (AtFamily p) (inside_is b n))) kind

-- ---- substitution

module _ (sig : Signature) (after before : SimpleContext) (v : Object) (u : Simple) (value : HasSort (sorts_of sig) before v u) where
  abbrev whole : SimpleContext
  whole = after ++ (u ∷ before)

  pub substitute_taken : (rest : List Simple) (s : Simple) (n : ℕ) (head : Head) (m : Object) → n ≡ length after → HeadFits sig whole (s ∷ rest) head → HasSort (sorts_of sig) whole m s
      → head_takes (map_head (substitute v u) n head) (substitute v u n m) ≡ map_head (substitute v u) n (head_takes head m)
  substitute_taken rest s n (ObjectHead object classifier) m c h g = absurd h
  substitute_taken rest s n (FamilyHead binders (Pi a b) kind) m c h g = absurd h
  substitute_taken rest s n (FamilyHead binders (AtFamily p) Ty) m c h g = absurd (let e = h.0 in cc)
  substitute_taken rest s n (FamilyHead binders (AtFamily p) (PiKind a l)) m c h g = by binders h.2
    where
      domain : erase a ≡ s
      domain = first_same h.0

      argument : HasSort (sorts_of sig) whole m (erase a)
      argument = subst (HasSort (sorts_of sig) whole m) (sym domain) g

      kind : substitute_kind (substitute v u n m) (erase (substitute_family v u n a)) 0 (substitute_kind v u (suc n) l) ≡ substitute_kind v u n (substitute_kind m (erase a) 0 l)
      kind =
          ap (λ z. substitute_kind (substitute v u n m) z 0 (substitute_kind v u (suc n) l)) (erase_map (substitute v u) n a)
          ∙ ap (λ z. substitute_kind (substitute v u z m) (erase a) 0 (substitute_kind v u (suc n) l)) c
          ∙ sym (substitutions_commute_kind (sorts_of sig) after before v u m (erase a) value argument [] n l (omega (arith, c)) (h.1).1)

      family : (b : ℕ) → b ≡ length rest → IsSortedAtomicFamily (sorts_of sig) (with_simples (s ∷ rest) whole) p
          → substitute_family (substitute v u n m) (erase (substitute_family v u n a)) b (substitute_family v u (suc (inside b n)) (AtFamily p)) ≡ substitute_family v u (inside b n) (substitute_family m (erase a) b (AtFamily p))
      family b e q =
          let inner : SimpleContext = with_simples rest [] in
          let count : length (with_simples rest []) ≡ b = simples_length rest [] ∙ omega (arith, e) in
          let there : with_simples rest (s ∷ whole) ≡ with_simples rest [] ++ (erase a ∷ whole) = simples_append rest [] (s ∷ whole) ∙ ap (λ z. with_simples rest [] ++ (z ∷ whole)) (sym domain) in
          ap (λ z. substitute_family (substitute v u n m) z b (substitute_family v u (suc (inside b n)) (AtFamily p))) (erase_map (substitute v u) n a)
          ∙ ap (λ z. substitute_family (substitute v u z m) (erase a) b (substitute_family v u (suc (inside b n)) (AtFamily p))) c
          ∙ ap (λ z. substitute_family (substitute v u (length after) m) (erase a) z (substitute_family v u (suc (inside b n)) (AtFamily p))) (sym count)
          ∙ sym (substitutions_commute_family (sorts_of sig) after before v u m (erase a) value argument (with_simples rest []) (inside b n) (AtFamily p) (let i = inside_is b n in omega (arith, c, count, i)) (subst (λ z. IsSortedAtomicFamily (sorts_of sig) z p) there q))
          ∙ ap (λ z. substitute_family v u (inside b n) (substitute_family m (erase a) z (AtFamily p))) count

      by : (b : ℕ) → BodyFits sig whole (s ∷ rest) b p → head_takes (map_head (substitute v u) n (FamilyHead b (AtFamily p) (PiKind a l))) (substitute v u n m) ≡ map_head (substitute v u) n (head_takes (FamilyHead b (AtFamily p) (PiKind a l)) m)
      by zero (OnSpine e q) = same_head refl kind
      by zero (ForBinders e q) = absurd (omega (arith, e))
      by (suc b) (OnSpine e q) = absurd (omega (arith, e))
      by (suc b) (ForBinders e q) = same_head (family b (omega (arith, e)) q) kind

-- ---- heads in no context

pub raise_closed_head : (sig : Signature) (rest : List Simple) (k n : ℕ) (head : Head) → HeadFits sig [] rest head → map_head (raise k) n head ≡ head
raise_closed_head sig rest k n (ObjectHead object classifier) h = absurd h
raise_closed_head sig rest k n (FamilyHead binders (Pi a b) kind) h = absurd h
raise_closed_head sig rest k n (FamilyHead binders (AtFamily p) kind) h = same_head (by h.2) (raise_kind_past (sorts_of sig) k [] n kind (omega arith) h.1)
  where
    by : BodyFits sig [] rest binders p → raise_family k (inside binders n) (AtFamily p) ≡ AtFamily p
    by (OnSpine e q) = raise_family_past (sorts_of sig) k [] (inside binders n) (AtFamily p) (omega arith) q
    by (ForBinders e q) = let c = simples_length rest [] in let i = inside_is binders n in raise_family_past (sorts_of sig) k (with_simples rest []) (inside binders n) (AtFamily p) (omega (arith, e, c, i)) q

pub substitute_closed_head : (sig : Signature) (rest : List Simple) (v : Object) (u : Simple) (n : ℕ) (head : Head) → HeadFits sig [] rest head → map_head (substitute v u) n head ≡ head
substitute_closed_head sig rest v u n (ObjectHead object classifier) h = absurd h
substitute_closed_head sig rest v u n (FamilyHead binders (Pi a b) kind) h = absurd h
substitute_closed_head sig rest v u n (FamilyHead binders (AtFamily p) kind) h = same_head (by h.2) (substitute_kind_past (sorts_of sig) v u [] n kind (omega arith) h.1)
  where
    by : BodyFits sig [] rest binders p → substitute_family v u (inside binders n) (AtFamily p) ≡ AtFamily p
    by (OnSpine e q) = substitute_family_past (sorts_of sig) v u [] (inside binders n) (AtFamily p) (omega arith) q
    by (ForBinders e q) = let c = simples_length rest [] in let i = inside_is binders n in substitute_family_past (sorts_of sig) v u (with_simples rest []) (inside binders n) (AtFamily p) (omega (arith, e, c, i)) q
