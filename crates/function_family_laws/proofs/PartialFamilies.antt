-- Families that take arguments: erasure, raising, sorts, substitution.
use Rattle.std.proofs.Common.{◌≡◌, ℕ, zero, suc, ◌+◌, List, [], ◌∷◌, ◌++◌, length, refl, sym, ap, ap₂, subst, ◌∙◌, arith}
use Rattle.lf_meaning.specs.Terms.{Object, Family, Pi, AtFamily, AtomicFamily, FamilyApp, Kind, Ty, PiKind, Simple, SimpleContext}
use Rattle.lf_meaning.specs.Erasure.{erase}
use Rattle.lf_meaning.specs.Raising.{raise, raise_family, raise_kind, map_family, map_kind}
use Rattle.lf_meaning.specs.Substitution.{substitute, substitute_family, substitute_kind}
use Rattle.lf_meaning.specs.Sorts.{Sorts, HasSort, IsSortedFamily, IsSortedAtomicFamily, IsSortedKind}
use Rattle.lf_substitution_laws.proofs.Families.{erase_map, raise_above_substitution_family, raise_above_substitution_kind}
use Rattle.lf_substitution_laws.proofs.SortedFamilies.{substitute_keeps_sorted, substitute_keeps_sorted_kind, more_sorted_family, more_sorted_kind}
use Rattle.lf_substitution_laws.proofs.Commutation.{substitutions_commute_family, substitutions_commute_kind}
use Rattle.lf_substitution_laws.proofs.Past.{raise_family_past, raise_kind_past, substitute_family_past, substitute_kind_past}
use Rattle.translation_meaning.specs.Heads.{family_takes}
use Rattle.translation_typing.specs.KindedFamilies.{domains_of}
use Rattle.translation_typing.proofs.KindDomains.{domains_of_map, with_simples, simples_append, simples_length}
use Rattle.list_laws.proofs.Lists.{first_same, rest_same}
use Rattle.translation_meaning.specs.FunctionFamilies.{PartialFamily, partial_family, takes_at_domain, takes_at_kind, partial_takes}

-- ---- erasure

erase_family_takes : (a : Family) (m : Object) → erase (family_takes a m) ≡ erase a
erase_family_takes (AtFamily p) m = refl
erase_family_takes (Pi a b) m = refl

erase_takes_at_domain : (b : ℕ) (f a : Family) (k : Kind) (m : Object) → erase (takes_at_domain b f a k m).family ≡ erase f
erase_takes_at_domain zero f a k m = erase_family_takes f m
erase_takes_at_domain (suc b) f a k m = erase_map (substitute m (erase a)) b f

erase_takes_at_kind : (b : ℕ) (f : Family) (k : Kind) (argument : Simple → Object) → erase (takes_at_kind b f k argument).family ≡ erase f
erase_takes_at_kind b f Ty argument = refl
erase_takes_at_kind b f (PiKind a k) argument = erase_takes_at_domain b f a k (argument (erase a))

pub erase_takes : (head : PartialFamily) (argument : Simple → Object) → erase (partial_takes head argument).family ≡ erase head.family
erase_takes head argument = erase_takes_at_kind head.binders head.family head.kind argument

-- ---- a function done to what is left of a head: the family stands below its binders

abbrev pub inside : ℕ → ℕ → ℕ
inside zero n = n
inside (suc binders) n = suc (inside binders n)

pub inside_is : (binders n : ℕ) → inside binders n ≡ binders + n
inside_is zero n = omega arith
inside_is (suc binders) n = let e = inside_is binders n in omega (arith, e)

abbrev pub map_partial : (ℕ → Object → Object) → ℕ → PartialFamily → PartialFamily
map_partial f n head = partial_family head.binders (map_family f (inside head.binders n) head.family) (map_kind f n head.kind)

same_partial : {x y : Family} {k l : Kind} (b : ℕ) → x ≡ y → k ≡ l → partial_family b x k ≡ partial_family b y l
same_partial b e f = ap₂ (partial_family b) e f

map_family_takes : (f : ℕ → Object → Object) (n : ℕ) (a : Family) (m : Object) → map_family f n (family_takes a m) ≡ family_takes (map_family f n a) (f n m)
map_family_takes f n (AtFamily p) m = refl
map_family_takes f n (Pi a b) m = refl

-- ---- raising

raise_takes_at_domain : (k n b : ℕ) (f a : Family) (l : Kind) (m : Object) → map_partial (raise k) n (takes_at_domain b f a l m) ≡ takes_at_domain b (raise_family k (inside b n) f) (raise_family k n a) (raise_kind k (suc n) l) (raise k n m)
raise_takes_at_domain k n zero f a l m =
    same_partial zero (map_family_takes (raise k) n f m) (raise_above_substitution_kind k n m (erase a) 0 n l (omega arith) ∙ ap (λ s. substitute_kind (raise k n m) s 0 (raise_kind k (suc n) l)) (sym (erase_map (raise k) n a)))
raise_takes_at_domain k n (suc b) f a l m =
    same_partial b (raise_above_substitution_family k n m (erase a) b (inside b n) f (inside_is b n) ∙ ap (λ s. substitute_family (raise k n m) s b (raise_family k (suc (inside b n)) f)) (sym (erase_map (raise k) n a)))
    (raise_above_substitution_kind k n m (erase a) 0 n l (omega arith) ∙ ap (λ s. substitute_kind (raise k n m) s 0 (raise_kind k (suc n) l)) (sym (erase_map (raise k) n a)))

raise_takes_at_kind : (k n b : ℕ) (f : Family) (l : Kind) (argument argument' : Simple → Object) → ((s : Simple) → raise k n (argument s) ≡ argument' s) → map_partial (raise k) n (takes_at_kind b f l argument) ≡ takes_at_kind b (raise_family k (inside b n) f) (raise_kind k n l) argument'
raise_takes_at_kind k n b f Ty argument argument' e = refl
raise_takes_at_kind k n b f (PiKind a l) argument argument' e =
    raise_takes_at_domain k n b f a l (argument (erase a))
    ∙ ap (takes_at_domain b (raise_family k (inside b n) f) (raise_family k n a) (raise_kind k (suc n) l)) (e (erase a) ∙ ap argument' (sym (erase_map (raise k) n a)))

pub raise_partial_takes : (k n : ℕ) (head : PartialFamily) (argument argument' : Simple → Object) → ((s : Simple) → raise k n (argument s) ≡ argument' s) → map_partial (raise k) n (partial_takes head argument) ≡ partial_takes (map_partial (raise k) n head) argument'
raise_partial_takes k n head argument argument' e = raise_takes_at_kind k n head.binders head.family head.kind argument argument' e

-- ---- sorts

-- arguments go on the spine, or for the binders, of which there are as many as domains
pub data BodyFits (sorts : Sorts) (context : SimpleContext) (rest : List Simple) (binders : ℕ) (family : Family) : Type 0 where
  OnSpine : (p : AtomicFamily) → binders ≡ zero → family ≡ AtFamily p → IsSortedAtomicFamily sorts context p → BodyFits sorts context rest binders family
  ForBinders : binders ≡ length rest → IsSortedFamily sorts (with_simples rest context) family → BodyFits sorts context rest binders family

pub record KindFits (sorts : Sorts) (context : SimpleContext) (rest : List Simple) (binders : ℕ) (family : Family) (kind : Kind) : Type 0 where
  pub domains : domains_of kind ≡ rest
  pub kind_sorted : IsSortedKind sorts context kind
  pub body : BodyFits sorts context rest binders family

abbrev pub PartialFits : Sorts → SimpleContext → List Simple → PartialFamily → Type 0
PartialFits sorts context rest head = KindFits sorts context rest head.binders head.family head.kind

module _ (sorts : Sorts) (context : SimpleContext) where
  -- the outermost binder is taken
  body_taken : (m : Object) (s : Simple) (rest : List Simple) (binders : ℕ) (a : Family) → HasSort sorts context m s → binders ≡ length rest → IsSortedFamily sorts (with_simples (s ∷ rest) context) a
      → IsSortedFamily sorts (with_simples rest context) (substitute_family m s binders a)
  body_taken m s rest binders a g e h =
      let whole : with_simples rest (s ∷ context) ≡ with_simples rest [] ++ (s ∷ context) = simples_append rest [] (s ∷ context) in
      let count : length (with_simples rest []) ≡ binders = simples_length rest [] ∙ omega (arith, e) in
      let body = substitute_keeps_sorted sorts m s context g (with_simples rest []) a (subst (λ z. IsSortedFamily sorts z a) whole h) in
      subst (λ z. IsSortedFamily sorts z (substitute_family m s binders a)) (sym (simples_append rest [] context))
      (subst (λ n. IsSortedFamily sorts (with_simples rest [] ++ context) (substitute_family m s n a)) count body)

  spine_taken : (p : AtomicFamily) (f : Family) (m : Object) (s : Simple) → f ≡ AtFamily p → HasSort sorts context m s → family_takes f m ≡ AtFamily (FamilyApp p m)
  spine_taken p f m s e g = ap (λ z. family_takes z m) e

  domain_fits : (b : ℕ) (f a : Family) (k : Kind) (m : Object) (rest : List Simple) → KindFits sorts context (erase a ∷ rest) b f (PiKind a k) → HasSort sorts context m (erase a) → PartialFits sorts context rest (takes_at_domain b f a k m)
  domain_fits b f a k m rest h g = by b h.body
    where
      left : domains_of (substitute_kind m (erase a) 0 k) ≡ rest
      left = domains_of_map (substitute m (erase a)) 0 k ∙ rest_same h.domains

      kind_left : IsSortedKind sorts context (substitute_kind m (erase a) 0 k)
      kind_left = substitute_keeps_sorted_kind sorts m (erase a) context g [] k (h.kind_sorted).1

      by : (n : ℕ) → BodyFits sorts context (erase a ∷ rest) n f → PartialFits sorts context rest (takes_at_domain n f a k m)
      by zero (OnSpine p e q i) = record { domains = left; kind_sorted = kind_left; body = OnSpine (FamilyApp p m) refl (ap (λ z. family_takes z m) q) (i, record { sort = erase a; has = g }) }
      by zero (ForBinders e i) = absurd (omega (arith, e))
      by (suc n) (OnSpine p e q i) = absurd (omega (arith, e))
      by (suc n) (ForBinders e i) =
          let count : n ≡ length rest = omega (arith, e) in
          record { domains = left; kind_sorted = kind_left; body = ForBinders count (body_taken m (erase a) rest n f g count i) }

  kind_fits : (b : ℕ) (f : Family) (k : Kind) (argument : Simple → Object) (s : Simple) (rest : List Simple) → KindFits sorts context (s ∷ rest) b f k → HasSort sorts context (argument s) s → PartialFits sorts context rest (takes_at_kind b f k argument)
  kind_fits b f Ty argument s rest h g = absurd (let e = h.domains in cc)
  kind_fits b f (PiKind a k) argument s rest h g =
      let same : s ≡ erase a = sym (first_same h.domains) in
      domain_fits b f a k (argument (erase a)) rest (subst (λ z. KindFits sorts context (z ∷ rest) b f (PiKind a k)) same h) (subst (λ z. HasSort sorts context (argument z) z) same g)

  pub takes_fits : (head : PartialFamily) (argument : Simple → Object) (s : Simple) (rest : List Simple) → PartialFits sorts context (s ∷ rest) head → HasSort sorts context (argument s) s → PartialFits sorts context rest (partial_takes head argument)
  takes_fits head argument s rest h g = kind_fits head.binders head.family head.kind argument s rest h g

  -- with no domain left no binder is left
  pub no_binder : (head : PartialFamily) → PartialFits sorts context [] head → head.binders ≡ zero
  no_binder head h = by h.body
    where
      by : BodyFits sorts context [] head.binders head.family → head.binders ≡ zero
      by (OnSpine p e q i) = e
      by (ForBinders e i) = e

-- with no binder left the family is mapped where the head stands
pub family_of_map : (f : ℕ → Object → Object) (n : ℕ) (head : PartialFamily) → head.binders ≡ zero → (map_partial f n head).family ≡ map_family f n head.family
family_of_map f n head e = ap (λ b. map_family f (inside b n) head.family) e

-- ---- heads in no context

pub more_fits : (sorts : Sorts) (context : SimpleContext) (rest : List Simple) (head : PartialFamily) → PartialFits sorts [] rest head → PartialFits sorts context rest head
more_fits sorts context rest head h = record { domains = h.domains; kind_sorted = more_sorted_kind sorts sorts (λ x t e. e) [] context head.kind h.kind_sorted; body = by h.body }
  where
    by : BodyFits sorts [] rest head.binders head.family → BodyFits sorts context rest head.binders head.family
    by (OnSpine p e q i) = OnSpine p e q (more_sorted_family sorts sorts (λ x t u. u) [] context (AtFamily p) i)
    by (ForBinders e i) = ForBinders e (subst (λ z. IsSortedFamily sorts z head.family) (sym (simples_append rest [] context)) (more_sorted_family sorts sorts (λ x t u. u) (with_simples rest []) context head.family i))

pub raise_closed : (sorts : Sorts) (rest : List Simple) (k n : ℕ) (head : PartialFamily) → PartialFits sorts [] rest head → map_partial (raise k) n head ≡ head
raise_closed sorts rest k n head h = same_partial head.binders (by h.body) (raise_kind_past sorts k [] n head.kind (omega arith) h.kind_sorted)
  where
    by : BodyFits sorts [] rest head.binders head.family → raise_family k (inside head.binders n) head.family ≡ head.family
    by (OnSpine p e q i) = raise_family_past sorts k [] (inside head.binders n) head.family (omega arith) (subst (IsSortedFamily sorts []) (sym q) i)
    by (ForBinders e i) = let c = simples_length rest [] in let j = inside_is head.binders n in raise_family_past sorts k (with_simples rest []) (inside head.binders n) head.family (omega (arith, e, c, j)) i

pub substitute_closed : (sorts : Sorts) (rest : List Simple) (v : Object) (u : Simple) (n : ℕ) (head : PartialFamily) → PartialFits sorts [] rest head → map_partial (substitute v u) n head ≡ head
substitute_closed sorts rest v u n head h = same_partial head.binders (by h.body) (substitute_kind_past sorts v u [] n head.kind (omega arith) h.kind_sorted)
  where
    by : BodyFits sorts [] rest head.binders head.family → substitute_family v u (inside head.binders n) head.family ≡ head.family
    by (OnSpine p e q i) = substitute_family_past sorts v u [] (inside head.binders n) head.family (omega arith) (subst (IsSortedFamily sorts []) (sym q) i)
    by (ForBinders e i) = let c = simples_length rest [] in let j = inside_is head.binders n in substitute_family_past sorts v u (with_simples rest []) (inside head.binders n) head.family (omega (arith, e, c, j)) i

-- ---- substitution

module _ (sorts : Sorts) (after before : SimpleContext) (v : Object) (u : Simple) (value : HasSort sorts before v u) where
  abbrev whole : SimpleContext
  whole = after ++ (u ∷ before)

  domain_substituted : (b : ℕ) (f a : Family) (l : Kind) (m : Object) (rest : List Simple) (n : ℕ) → n ≡ length after → KindFits sorts whole (erase a ∷ rest) b f (PiKind a l) → HasSort sorts whole m (erase a)
      → map_partial (substitute v u) n (takes_at_domain b f a l m) ≡ takes_at_domain b (substitute_family v u (inside b n) f) (substitute_family v u n a) (substitute_kind v u (suc n) l) (substitute v u n m)
  domain_substituted b f a l m rest n c h g = by b h.body
    where
      simple : (erase (substitute_family v u n a)) ≡ erase a
      simple = erase_map (substitute v u) n a

      kind : substitute_kind v u n (substitute_kind m (erase a) 0 l) ≡ substitute_kind (substitute v u n m) (erase (substitute_family v u n a)) 0 (substitute_kind v u (suc n) l)
      kind =
          substitutions_commute_kind sorts after before v u m (erase a) value g [] n l (omega (arith, c)) (h.kind_sorted).1
          ∙ ap (λ z. substitute_kind (substitute v u z m) (erase a) 0 (substitute_kind v u (suc n) l)) (sym c)
          ∙ ap (λ z. substitute_kind (substitute v u n m) z 0 (substitute_kind v u (suc n) l)) (sym simple)

      family : (b : ℕ) → b ≡ length rest → IsSortedFamily sorts (with_simples (erase a ∷ rest) whole) f
          → substitute_family v u (inside b n) (substitute_family m (erase a) b f) ≡ substitute_family (substitute v u n m) (erase (substitute_family v u n a)) b (substitute_family v u (suc (inside b n)) f)
      family b e q =
          let count : length (with_simples rest []) ≡ b = simples_length rest [] ∙ omega (arith, e) in
          let there : with_simples rest (erase a ∷ whole) ≡ with_simples rest [] ++ (erase a ∷ whole) = simples_append rest [] (erase a ∷ whole) in
          ap (λ z. substitute_family v u (inside b n) (substitute_family m (erase a) z f)) (sym count)
          ∙ substitutions_commute_family sorts after before v u m (erase a) value g (with_simples rest []) (inside b n) f (let i = inside_is b n in omega (arith, c, count, i)) (subst (λ z. IsSortedFamily sorts z f) there q)
          ∙ ap (λ z. substitute_family (substitute v u (length after) m) (erase a) z (substitute_family v u (suc (inside b n)) f)) count
          ∙ ap (λ z. substitute_family (substitute v u z m) (erase a) b (substitute_family v u (suc (inside b n)) f)) (sym c)
          ∙ ap (λ z. substitute_family (substitute v u n m) z b (substitute_family v u (suc (inside b n)) f)) (sym simple)

      by : (b : ℕ) → BodyFits sorts whole (erase a ∷ rest) b f
          → map_partial (substitute v u) n (takes_at_domain b f a l m) ≡ takes_at_domain b (substitute_family v u (inside b n) f) (substitute_family v u n a) (substitute_kind v u (suc n) l) (substitute v u n m)
      by zero q = same_partial zero (map_family_takes (substitute v u) n f m) kind
      by (suc b) (OnSpine p e q i) = absurd (omega (arith, e))
      by (suc b) (ForBinders e i) = same_partial b (family b (omega (arith, e)) i) kind

  kind_substituted : (b : ℕ) (f : Family) (l : Kind) (argument argument' : Simple → Object) (s : Simple) (rest : List Simple) (n : ℕ) → n ≡ length after → KindFits sorts whole (s ∷ rest) b f l → HasSort sorts whole (argument s) s → substitute v u n (argument s) ≡ argument' s
      → map_partial (substitute v u) n (takes_at_kind b f l argument) ≡ takes_at_kind b (substitute_family v u (inside b n) f) (substitute_kind v u n l) argument'
  kind_substituted b f Ty argument argument' s rest n c h g e = absurd (let q = h.domains in cc)
  kind_substituted b f (PiKind a l) argument argument' s rest n c h g e =
      let same : s ≡ erase a = sym (first_same h.domains) in
      domain_substituted b f a l (argument (erase a)) rest n c (subst (λ z. KindFits sorts whole (z ∷ rest) b f (PiKind a l)) same h) (subst (λ z. HasSort sorts whole (argument z) z) same g)
      ∙ ap (takes_at_domain b (substitute_family v u (inside b n) f) (substitute_family v u n a) (substitute_kind v u (suc n) l)) (subst (λ z. substitute v u n (argument z) ≡ argument' z) same e ∙ ap argument' (sym (erase_map (substitute v u) n a)))

  pub takes_substituted : (head : PartialFamily) (argument argument' : Simple → Object) (s : Simple) (rest : List Simple) (n : ℕ) → n ≡ length after → PartialFits sorts whole (s ∷ rest) head → HasSort sorts whole (argument s) s → substitute v u n (argument s) ≡ argument' s
      → map_partial (substitute v u) n (partial_takes head argument) ≡ partial_takes (map_partial (substitute v u) n head) argument'
  takes_substituted head argument argument' s rest n c h g e = kind_substituted head.binders head.family head.kind argument argument' s rest n c h g e
