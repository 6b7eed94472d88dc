-- Signatures in which each name stands once, and whose declarations hold what stands before them.
use Rattle.std.proofs.Common.{◌≡◌, ◌≢◌, ℕ, zero, suc, Bool, true, false, cond, List, [], ◌∷◌, ◌++◌, length, take, slice_get, Option, Some, None, inl, inr, ⊎_elim, refl, sym, ap, ◌∙◌, subst, append_assoc, append-nil, arith}
use Rattle.std.specs.Prelude.{⊤}
use Rattle.name_meaning.specs.Names.{Name}
use Rattle.lf_meaning.specs.Terms.{Constant}
use Rattle.lf_meaning.specs.Signatures.{Declaration, Signature, same_constant, declaration_of, declared_class}
use Rattle.lf_term_laws.proofs.Equality.{same_constant_sound}
use Rattle.list_laws.proofs.Members.{Member, in_append, append_left, append_right, in_flat_map, flat_map_in, place_member, member_place}
use Rattle.name_laws.proofs.Order.{among_member, member_among}
use Rattle.list_laws.proofs.Places.{take_front, take_length}
use Rattle.library_meaning.specs.Faces.{TheoryFace, Environment, theory_of, includes_of, own_of, own_part, own_parts}
use Rattle.library_meaning.specs.Closure.{sees}
use Rattle.library_meaning.specs.Holding.{ClassHolds, OptionalValueHolds}
use Rattle.library_meaning.specs.Coherence.{IsClosure, DeclarationsHold, IsCoherent}
use Rattle.link_laws.proofs.Linked.{known_theory, own_named}
use Rattle.constant_laws.specs.HoldingLaws.{Grows}
use Rattle.constant_laws.specs.ExpansionHolds.{NamesOnce}
use Rattle.constant_laws.proofs.Growing.{class_grows, optional_grows}
use Rattle.constant_laws.proofs.Declared.{declared_as}
use Rattle.std.proofs.lemmas.Option.{same_Some}
use Rattle.lf_term_laws.proofs.Declarations.{declared_some}

-- ---- names once

abbrev pub Apart : Signature → Signature → Type 0
Apart xs ys = (d e : Declaration) → Member d xs → Member e ys → d.name ≢ e.name

abbrev pub Once : Signature → Type 0
Once [] = ⊤
Once (d ∷ ds) = ((e : Declaration) → Member e ds → d.name ≢ e.name) × Once ds

pub once_append : (xs ys : Signature) → Once xs → Once ys → Apart xs ys → Once (xs ++ ys)
once_append [] ys h g a = g
once_append (d ∷ xs) ys h g a =
    ((λ e m. ⊎_elim (λ n. h.0 e n) (λ n. a d e (inl refl) n) (in_append xs ys e m)), once_append xs ys h.1 g (λ x y m n. a x y (inr m) n))

pub once_names : (xs : Signature) → Once xs → NamesOnce xs
once_names [] h i j d e p q n = absurd (cc)
once_names (x ∷ xs) h zero zero d e p q n = refl
once_names (x ∷ xs) h zero (suc j) d e p q n = absurd (h.0 e (place_member xs j e q) (ap (λ z. z.name) (same_Some _ _ p) ∙ n))
once_names (x ∷ xs) h (suc i) zero d e p q n = absurd (h.0 d (place_member xs i d p) (ap (λ z. z.name) (same_Some _ _ q) ∙ sym n))
once_names (x ∷ xs) h (suc i) (suc j) d e p q n = ap suc (once_names xs h.1 i j d e p q n)

pub names_once : (xs : Signature) → NamesOnce xs → Once xs
names_once [] h = tt
names_once (x ∷ xs) h = (
  (λ e m n. let p = member_place xs e m in absurd (let q = h 0 (suc p.0) x e refl p.1 n in omega (arith, q))),
  names_once xs (λ i j d e p q n. let r = h (suc i) (suc j) d e p q n in omega (arith, r)),
)

pub once_left : (xs ys : Signature) → Once (xs ++ ys) → Once xs
once_left [] ys h = tt
once_left (x ∷ xs) ys h = ((λ e m. h.0 e (append_left xs ys e m)), once_left xs ys h.1)

pub once_right : (xs ys : Signature) → Once (xs ++ ys) → Once ys
once_right [] ys h = h
once_right (x ∷ xs) ys h = once_right xs ys h.1

pub once_apart : (xs ys : Signature) → Once (xs ++ ys) → Apart xs ys
once_apart [] ys h d e m n = absurd m
once_apart (x ∷ xs) ys h d e (inl q) n = λ w. h.0 e (append_right xs ys e n) (ap (λ z. z.name) (sym q) ∙ w)
once_apart (x ∷ xs) ys h d e (inr m) n = once_apart xs ys h.1 d e m n

-- ---- growth

found_by : (b : Bool) (x d : Declaration) (xs : Signature) (c : Constant) → same_constant x.name c ≡ b → cond b (Some x) (declaration_of xs c) ≡ Some d → (declaration_of xs c ≡ Some d → Member d xs × (d.name ≡ c)) → Member d (x ∷ xs) × (d.name ≡ c)
found_by true x d xs c e h f = (inl (same_Some _ _ (sym h)), ap (λ z. z.name) (same_Some _ _ (sym h)) ∙ same_constant_sound x.name c e)
found_by false x d xs c e h f = let g = f h in (inr g.0, g.1)

pub declaration_member : (xs : Signature) (c : Constant) (d : Declaration) → declaration_of xs c ≡ Some d → Member d xs × (d.name ≡ c)
declaration_member [] c d h = absurd (cc)
declaration_member (x ∷ xs) c d h = found_by (same_constant x.name c) x d xs c refl h (declaration_member xs c d)

pub member_declared : (ys : Signature) → Once ys → (d : Declaration) → Member d ys → declaration_of ys d.name ≡ Some d
member_declared ys o d m = let p = member_place ys d m in declared_as ys (once_names ys o) p.0 d p.1

-- a signature that has all declarations of another has its constants
pub member_grows : (xs ys : Signature) → Once ys → ((d : Declaration) → Member d xs → Member d ys) → Grows xs ys
member_grows xs ys o f c class h =
    let d = declared_some (declaration_of xs c) class h in
    let m = declaration_member xs c d.0 d.1 in
    ap declared_class (ap (declaration_of ys) (sym m.1) ∙ member_declared ys o d.0 (f d.0 m.0) ∙ sym d.1) ∙ h

-- ---- declarations hold

abbrev pub HoldAfter : Signature → Signature → Type 0
HoldAfter before [] = ⊤
HoldAfter before (d ∷ ds) = ClassHolds before d.class × OptionalValueHolds before d.class d.value × HoldAfter (before ++ d ∷ []) ds

pub hold_append : (before xs ys : Signature) → HoldAfter before xs → HoldAfter (before ++ xs) ys → HoldAfter before (xs ++ ys)
hold_append before [] ys h g = subst (λ z. HoldAfter z ys) (append-nil before) g
hold_append before (d ∷ xs) ys h g = (h.0, h.1, hold_append (before ++ d ∷ []) xs ys h.2 (subst (λ z. HoldAfter z ys) (sym (append_assoc before (d ∷ []) xs)) g))

pub hold_behind : (before xs ys : Signature) → HoldAfter before (xs ++ ys) → HoldAfter (before ++ xs) ys
hold_behind before [] ys h = subst (λ z. HoldAfter z ys) (sym (append-nil before)) h
hold_behind before (d ∷ xs) ys h = subst (λ z. HoldAfter z ys) (append_assoc before (d ∷ []) xs) (hold_behind (before ++ d ∷ []) xs ys h.2)

hold_at : (before xs : Signature) → HoldAfter before xs → (i : ℕ) (d : Declaration) → slice_get xs i ≡ Some d → ClassHolds (before ++ take i xs) d.class × OptionalValueHolds (before ++ take i xs) d.class d.value
hold_at before [] h i d p = absurd (cc)
hold_at before (x ∷ xs) h zero d p =
    subst (λ z. ClassHolds z d.class × OptionalValueHolds z d.class d.value) (sym (append-nil before)) (subst (λ (z : Declaration). ClassHolds before z.class × OptionalValueHolds before z.class z.value) (same_Some _ _ p) (h.0, h.1))
hold_at before (x ∷ xs) h (suc i) d p =
    subst (λ z. ClassHolds z d.class × OptionalValueHolds z d.class d.value) (append_assoc before (x ∷ []) (take i xs)) (hold_at (before ++ x ∷ []) xs h.2 i d p)

pub after_declarations : (xs : Signature) → HoldAfter [] xs → DeclarationsHold xs
after_declarations xs h i d p = hold_at [] xs h i d p

pub declarations_from : (done xs : Signature) → DeclarationsHold (done ++ xs) → HoldAfter done xs
declarations_from done [] h = tt
declarations_from done (d ∷ xs) h =
    let q = h (length done) d (at done) in
    let front : take (length done) (done ++ d ∷ xs) ≡ done = take_front done (d ∷ xs) (length done) (omega arith) ∙ take_length done in
    (subst (λ z. ClassHolds z d.class) front q.0, subst (λ z. OptionalValueHolds z d.class d.value) front q.1, declarations_from (done ++ d ∷ []) xs (subst DeclarationsHold (sym (append_assoc done (d ∷ []) xs)) h))
  where
    at : (ys : Signature) → slice_get (ys ++ d ∷ xs) (length ys) ≡ Some d
    at [] = refl
    at (y ∷ ys) = at ys

-- over more declarations
pub hold_more : (b c xs : Signature) → Once (c ++ xs) → ((d : Declaration) → Member d b → Member d c) → HoldAfter b xs → HoldAfter c xs
hold_more b c [] o f h = tt
hold_more b c (x ∷ xs) o f h =
    let g = member_grows b c (once_left c (x ∷ xs) o) f in
    (class_grows b c g x.class h.0, optional_grows b c g x.class x.value h.1, hold_more (b ++ x ∷ []) (c ++ x ∷ []) xs (subst Once (sym (append_assoc c (x ∷ []) xs)) o) more h.2)
  where
    more : (d : Declaration) → Member d (b ++ x ∷ []) → Member d (c ++ x ∷ [])
    more d m = ⊎_elim (λ n. append_left c (x ∷ []) d (f d n)) (λ n. append_right c (x ∷ []) d n) (in_append b (x ∷ []) d m)

-- ---- closures in a coherent environment

abbrev Different : List Name → Type 0
Different [] = ⊤
Different (x ∷ xs) = (Member x xs → ⊥) × Different xs

different_by : (xs : List Name) → ((i j : ℕ) (name : Name) → slice_get xs i ≡ Some name → slice_get xs j ≡ Some name → i ≡ j) → Different xs
different_by [] h = tt
different_by (x ∷ xs) h =
    ((λ m. let p = member_place xs x m in let q = h 0 (suc p.0) x refl p.1 in absurd (omega (arith, q))), different_by xs (λ i j n p q. let r = h (suc i) (suc j) n p q in omega (arith, r)))

module _ (environment : Environment) (coherent : IsCoherent environment) where
  own_once_by : (theory : Name) (o : Option TheoryFace) → theory_of environment theory ≡ o → Once (own_of o)
  own_once_by theory None e = tt
  own_once_by theory (Some face) e = names_once face.own (coherent.theories theory face (known_theory (environment theory) face e)).own_once

  pub own_is_once : (theory : Name) → Once (own_part environment theory)
  own_is_once theory = own_once_by theory (theory_of environment theory) refl

  parts_once : (names : List Name) → Different names → Once (own_parts environment names)
  parts_once [] h = tt
  parts_once (theory ∷ names) h =
      once_append (own_part environment theory) (own_parts environment names) (own_is_once theory) (parts_once names h.1)
      (λ d e m n w. let q = in_flat_map (own_part environment) names e n in
      h.0 (subst (λ z. Member z names) (sym (own_named environment coherent q.0 e q.2) ∙ ap (λ c. c.theory) (sym w) ∙ own_named environment coherent theory d m) q.1))

  pub closure_once : (names : List Name) → IsClosure environment names → Once (own_parts environment names)
  closure_once names c = parts_once names (different_by names c.once)

  part_holds_by : (done : List Name) (theory : Name) (o : Option TheoryFace) → theory_of environment theory ≡ o → Once (own_parts environment done ++ own_of o) → ((other : Name) → sees (includes_of o) other ≡ true → Member other done) → HoldAfter (own_parts environment done) (own_of o)
  part_holds_by done theory None e o f = tt
  part_holds_by done theory (Some face) e o f =
      let c = coherent.theories theory face (known_theory (environment theory) face e) in
      hold_more (own_parts environment face.includes) (own_parts environment done) face.own o
      (λ d m. let q = in_flat_map (own_part environment) face.includes d m in flat_map_in (own_part environment) done q.0 d (f q.0 (member_among face.includes q.0 q.1)) q.2)
      (declarations_from (own_parts environment face.includes) face.own c.holds)

  parts_append : (xs ys : List Name) → own_parts environment (xs ++ ys) ≡ own_parts environment xs ++ own_parts environment ys
  parts_append [] ys = refl
  parts_append (x ∷ xs) ys = ap (λ z. own_part environment x ++ z) (parts_append xs ys) ∙ sym (append_assoc (own_part environment x) (own_parts environment xs) (own_parts environment ys))

  pub parts_joined : (xs ys : List Name) → own_parts environment (xs ++ ys) ≡ own_parts environment xs ++ own_parts environment ys
  parts_joined xs ys = parts_append xs ys

  parts_hold : (done todo : List Name) → Once (own_parts environment (done ++ todo)) → ((i : ℕ) (name other : Name) → slice_get (done ++ todo) i ≡ Some name → sees (includes_of (theory_of environment name)) other ≡ true → sees (take i (done ++ todo)) other ≡ true)
      → HoldAfter (own_parts environment done) (own_parts environment todo)
  parts_hold done [] o b = tt
  parts_hold done (theory ∷ todo) o b =
      let joined : own_parts environment (done ++ theory ∷ todo) ≡ own_parts environment done ++ (own_part environment theory ++ own_parts environment todo) = parts_append done (theory ∷ todo) in
      let whole : Once ((own_parts environment done ++ own_part environment theory) ++ own_parts environment todo) = subst Once (joined ∙ sym (append_assoc (own_parts environment done) (own_part environment theory) (own_parts environment todo))) o in
      let front : take (length done) (done ++ theory ∷ todo) ≡ done = take_front done (theory ∷ todo) (length done) (omega arith) ∙ take_length done in
      hold_append (own_parts environment done) (own_part environment theory) (own_parts environment todo)
      (part_holds_by done theory (theory_of environment theory) refl (once_left (own_parts environment done ++ own_part environment theory) (own_parts environment todo) whole)
      (λ other s. among_member done other (subst (λ z. sees z other ≡ true) front (b (length done) theory other (at done) s))))
      (subst (λ z. HoldAfter z (own_parts environment todo)) (parts_append done (theory ∷ []) ∙ ap (λ z. own_parts environment done ++ z) (append-nil (own_part environment theory)))
      (parts_hold (done ++ theory ∷ []) todo (subst (λ z. Once (own_parts environment z)) (sym (append_assoc done (theory ∷ []) todo)) o)
      (subst (λ z. (i : ℕ) (name other : Name) → slice_get z i ≡ Some name → sees (includes_of (theory_of environment name)) other ≡ true → sees (take i z) other ≡ true) (sym (append_assoc done (theory ∷ []) todo)) b)))
    where
      at : (ys : List Name) → slice_get (ys ++ theory ∷ todo) (length ys) ≡ Some theory
      at [] = refl
      at (y ∷ ys) = at ys

  pub closure_holds : (names : List Name) → IsClosure environment names → HoldAfter [] (own_parts environment names)
  closure_holds names c = parts_hold [] names (closure_once names c) c.behind
