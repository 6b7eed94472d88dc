-- What a path is resolved to is what it stands for, and nothing else.
use Rattle.std.proofs.Common.{◌≡◌, ◌≢◌, ℕ, zero, suc, ◌+◌, ◌-◌, ◌<◌, Bool, true, false, cond, List, [], ◌∷◌, drop, slice_get, filter_map, Option, Some, None, ◌⊎◌, ⊎_elim, refl, sym, ap, ◌∙◌, subst, true≢false, arith}
use Rattle.std.specs.List.{cons_option}
use Rattle.name_meaning.specs.Names.{Name, Path}
use Rattle.lf_meaning.specs.Signatures.{Declaration}
use Rattle.name_laws.proofs.Order.{same_sound, same_itself}
use Rattle.library_meaning.specs.Faces.{own_part}
use Rattle.library_meaning.specs.Closure.{sees}
use Rattle.library_meaning.specs.Resolution.{Scope, Variables, is_variable, variable_from, bound_variable, own_at, qualified, included_at, the_only, Resolved, Variable, Declared, Unknown, Ambiguous, or_variable, or_declared, resolve}
use Rattle.library_meaning.specs.StandsFor.{IsBound, IsOwn, IsQualified, IsIncluded, IsOnly, AreTwo, NoneHas, IsElsewhere, ByOwn, ByQualified, ByIncluded, StandsFor}
use Rattle.list_laws.proofs.Options.{clash}

-- ---- the first element that gives something

pub record First {A B : Type 0} (f : A → Option B) (xs : List A) (y : B) (ys : List B) : Type 0 where
  pub place : ℕ
  pub item : A
  pub found : slice_get xs place ≡ Some item
  pub gives : f item ≡ Some y
  pub before : (j : ℕ) (x : A) → j < place → slice_get xs j ≡ Some x → f x ≡ None
  pub rest : filter_map f (drop (suc place) xs) ≡ ys

module _ {A B : Type 0} (f : A → Option B) where
  none_by : (z : A) (xs : List A) (o : Option B) → f z ≡ o → cons_option o (filter_map f xs) ≡ [] → (filter_map f xs ≡ [] → (j : ℕ) (x : A) → slice_get xs j ≡ Some x → f x ≡ None)
      → (i : ℕ) (x : A) → slice_get (z ∷ xs) i ≡ Some x → f x ≡ None
  none_by z xs None e h next zero x s = let q : z ≡ x = cc in ap f (sym q) ∙ e
  none_by z xs None e h next (suc i) x s = next h i x s
  none_by z xs (Some y) e h next i x s = absurd (cc)

  none_of_map : (xs : List A) → filter_map f xs ≡ [] → (i : ℕ) (x : A) → slice_get xs i ≡ Some x → f x ≡ None
  none_of_map [] h i x s = absurd (cc)
  none_of_map (z ∷ xs) h i x s = none_by z xs (f z) refl h (none_of_map xs) i x s

  first_by : (z : A) (xs : List A) (y : B) (ys : List B) (o : Option B) → f z ≡ o → cons_option o (filter_map f xs) ≡ y ∷ ys → (filter_map f xs ≡ y ∷ ys → First f xs y ys) → First f (z ∷ xs) y ys
  first_by z xs y ys None e h next =
      let q = next h in
      record { place = suc q.place; item = q.item; found = q.found; gives = q.gives; before = before q; rest = q.rest }
    where
      before : (q : First f xs y ys) (j : ℕ) (x : A) → j < suc q.place → slice_get (z ∷ xs) j ≡ Some x → f x ≡ None
      before q zero x l s = let w : z ≡ x = cc in ap f (sym w) ∙ e
      before q (suc j) x l s = q.before j x (omega (arith, l)) s
  first_by z xs y ys (Some w) e h next =
      let a : w ≡ y = cc in let b : filter_map f xs ≡ ys = cc in
      record { place = 0; item = z; found = refl; gives = e ∙ ap Some a; before = λ j x l s. absurd (omega (arith, l)); rest = b }

  first_of_map : (xs : List A) (y : B) (ys : List B) → filter_map f xs ≡ y ∷ ys → First f xs y ys
  first_of_map [] y ys h = absurd (cc)
  first_of_map (z ∷ xs) y ys h = first_by z xs y ys (f z) refl h (first_of_map xs y ys)

-- a place behind the first ones
get_drop : {A : Type 0} (xs : List A) (k j i : ℕ) → i ≡ k + j → slice_get (drop k xs) j ≡ slice_get xs i
get_drop xs zero j i h = let e : j ≡ i = omega (arith, h) in ap (slice_get xs) e
get_drop [] (suc k) j i h = refl
get_drop (x ∷ xs) (suc k) j zero h = absurd (omega (arith, h))
get_drop (x ∷ xs) (suc k) j (suc i) h = get_drop xs k j i (omega (arith, h))

-- ---- bound variables

pub record Innermost (variables : Variables) (name : Name) (start found : ℕ) : Type 0 where
  pub index : ℕ
  pub is : found ≡ start + index
  pub here : slice_get variables index ≡ Some (Some name)
  pub inner : (j : ℕ) → j < index → slice_get variables j ≢ Some (Some name)

is_variable_some : (name : Name) (binder : Option Name) → is_variable name binder ≡ true → binder ≡ Some name
is_variable_some name None h = absurd (true≢false (sym h))
is_variable_some name (Some other) h = ap Some (same_sound other name h)

variable_is : (name : Name) → is_variable name (Some name) ≡ true
variable_is name = same_itself name

innermost_by : (variables : Variables) (binder : Option Name) (name : Name) (start found : ℕ) (b : Bool) → is_variable name binder ≡ b → cond b (Some start) (variable_from (suc start) variables name) ≡ Some found
    → (variable_from (suc start) variables name ≡ Some found → Innermost variables name (suc start) found) → Innermost (binder ∷ variables) name start found
innermost_by variables binder name start found true e h next =
    let q : start ≡ found = cc in
    record { index = 0; is = omega (arith, q); here = ap Some (is_variable_some name binder e); inner = λ j l. absurd (omega (arith, l)) }
innermost_by variables binder name start found false e h next =
    let q = next h in let w = q.is in
    record { index = suc q.index; is = omega (arith, w); here = q.here; inner = before q }
  where
    before : (q : Innermost variables name (suc start) found) (j : ℕ) → j < suc q.index → slice_get (binder ∷ variables) j ≢ Some (Some name)
    before q zero l s = let w : binder ≡ Some name = cc in true≢false (sym (subst (λ z. is_variable name z ≡ true) (sym w) (variable_is name)) ∙ e)
    before q (suc j) l s = q.inner j (omega (arith, l)) s

innermost_of : (variables : Variables) (name : Name) (start found : ℕ) → variable_from start variables name ≡ Some found → Innermost variables name start found
unfolding variable_from
innermost_of [] name start found h = absurd (cc)
innermost_of (binder ∷ variables) name start found h = innermost_by variables binder name start found (is_variable name binder) refl h (innermost_of variables name (suc start) found)

-- where nothing is found, no binder has the name
unbound_by : (variables : Variables) (binder : Option Name) (name : Name) (start : ℕ) (b : Bool) → is_variable name binder ≡ b → cond b (Some start) (variable_from (suc start) variables name) ≡ None
    → (variable_from (suc start) variables name ≡ None → (j : ℕ) → slice_get variables j ≢ Some (Some name)) → (i : ℕ) → slice_get (binder ∷ variables) i ≢ Some (Some name)
unbound_by variables binder name start true e h next i = absurd (cc)
unbound_by variables binder name start false e h next zero = λ s. let w : binder ≡ Some name = cc in true≢false (sym (subst (λ z. is_variable name z ≡ true) (sym w) (variable_is name)) ∙ e)
unbound_by variables binder name start false e h next (suc i) = next h i

unbound_of : (variables : Variables) (name : Name) (start : ℕ) → variable_from start variables name ≡ None → (i : ℕ) → slice_get variables i ≢ Some (Some name)
unfolding variable_from
unbound_of [] name start h i = λ s. absurd (cc)
unbound_of (binder ∷ variables) name start h i = unbound_by variables binder name start (is_variable name binder) refl h (unbound_of variables name (suc start)) i

bound_some : (variables : Variables) (path : Path) (index : ℕ) → bound_variable variables path ≡ Some index → IsBound variables path index
bound_some variables [] index h = absurd (cc)
bound_some variables (name ∷ []) index h =
    let q = innermost_of variables name 0 index h in let w = q.is in
    let e : q.index ≡ index = omega (arith, w) in
    record {
      name = name;
      simple = refl;
      found = ap (slice_get variables) (sym e) ∙ q.here;
      innermost = λ j l. q.inner j (omega (arith, l, e));
    }
bound_some variables (name ∷ next ∷ path) index h = absurd (cc)

bound_none : (variables : Variables) (path : Path) → bound_variable variables path ≡ None → NoneHas (IsBound variables path)
bound_none variables [] h index b = let e = b.simple in absurd (cc)
bound_none variables (name ∷ []) h index b =
    let e : name ≡ b.name = one b.simple in
    unbound_of variables name 0 h index (b.found ∙ ap (λ z. Some (Some z)) (sym e))
  where
    one : {n m : Name} → n ∷ [] ≡ m ∷ [] → n ≡ m
    one p = cc
bound_none variables (name ∷ next ∷ path) h index b = let e = b.simple in absurd (cc)

one_index : (variables : Variables) (path : Path) (i j : ℕ) → IsBound variables path i → IsBound variables path j → i ≡ j
one_index variables path i j p q = ⊎_elim (λ l. absurd (q.innermost i l (p.found ∙ ap (λ z. Some (Some z)) names))) (λ l. ⊎_elim (λ m. absurd (p.innermost j m (q.found ∙ ap (λ z. Some (Some z)) (sym names)))) (λ e. e) l) (order i j)
  where
    one : {n m : Name} → n ∷ [] ≡ m ∷ [] → n ≡ m
    one e = cc

    names : p.name ≡ q.name
    names = one (sym p.simple ∙ q.simple)

    order : (i j : ℕ) → (i < j) ⊎ ((j < i) ⊎ (i ≡ j))
    order i j = grind arith

-- ---- a theory in front

qualified_some : (scope : Scope) (path : Path) (d : Declaration) → qualified scope path ≡ Some d → IsQualified scope path d
qualified_some scope [] d h = absurd (cc)
qualified_some scope (theory ∷ rest) d h = by (sees scope.includes theory) refl h
  where
    by : (b : Bool) → sees scope.includes theory ≡ b → cond b (own_at (own_part scope.environment theory) rest) None ≡ Some d → IsQualified scope (theory ∷ rest) d
    by true e g = record { theory = theory; rest = rest; parts = refl; seen = e; has = g }
    by false e g = absurd (cc)

qualified_is : (scope : Scope) (path : Path) (d : Declaration) → IsQualified scope path d → qualified scope path ≡ Some d
qualified_is scope path d q =
    ap (qualified scope) q.parts ∙ ap (λ b. cond b (own_at (own_part scope.environment q.theory) q.rest) None) q.seen ∙ q.has

-- ---- the theories that have the path

module _ (scope : Scope) (path : Path) where
  owner : Name → Option Declaration
  owner theory = own_at (own_part scope.environment theory) path

  included_here : (d : Declaration) (ys : List Declaration) (q : First owner scope.includes d ys) → IsIncluded scope path q.place d
  unfolding owner
  included_here d ys q = record { theory = q.item; found = q.found; has = q.gives }

  nothing : included_at scope path ≡ [] → (place : ℕ) → NoneHas (IsIncluded scope path place)
  unfolding owner
  nothing h place d i = let e = none_of_map owner scope.includes h place i.theory i.found in let g = i.has in absurd (cc)

  -- a place is before, at or behind the first one
  at_first : (d : Declaration) (ys : List Declaration) (q : First owner scope.includes d ys) (place : ℕ) (other : Declaration) → IsIncluded scope path place other → (filter_map owner (drop (suc q.place) scope.includes) ≡ []) → place ≡ q.place
  unfolding owner
  at_first d ys q place other i h =
      ⊎_elim (λ l. absurd (clash (q.before place i.theory l i.found)))
      (λ l. ⊎_elim (λ m. absurd (clash (none_of_map owner (drop (suc q.place) scope.includes) h (behind m) i.theory (get_drop scope.includes (suc q.place) (behind m) place (is_behind m) ∙ i.found)))) (λ e. e) l) (order place q.place)
    where
      order : (i j : ℕ) → (i < j) ⊎ ((j < i) ⊎ (i ≡ j))
      order i j = grind arith

      clash : own_at (own_part scope.environment i.theory) path ≡ None → ⊥
      clash e = let g = i.has in absurd (cc)

      behind : q.place < place → ℕ
      behind m = place - suc q.place

      is_behind : (m : q.place < place) → place ≡ suc q.place + behind m
      is_behind m = omega (arith, m)

  only_one : (d : Declaration) → included_at scope path ≡ d ∷ [] → IsOnly scope path d
  unfolding owner
  only_one d h =
      let q = first_of_map owner scope.includes d [] h in
      record { place = q.place; here = included_here d [] q; only = λ place other i. at_first d [] q place other i q.rest }

  two : (d e : Declaration) (ys : List Declaration) → included_at scope path ≡ d ∷ e ∷ ys → AreTwo scope path
  unfolding owner
  two d e ys h =
      let q = first_of_map owner scope.includes d (e ∷ ys) h in
      let r = first_of_map owner (drop (suc q.place) scope.includes) e ys q.rest in
      record {
        first = q.place;
        second = suc q.place + r.place;
        one = d;
        other = e;
        is_one = included_here d (e ∷ ys) q;
        is_other = record { theory = r.item; found = sym (get_drop scope.includes (suc q.place) r.place (suc q.place + r.place) refl) ∙ r.found; has = r.gives };
        differ = λ w. absurd (omega (arith, w));
      }

  same_included : (place : ℕ) (d e : Declaration) → IsIncluded scope path place d → IsIncluded scope path place e → d ≡ e
  same_included place d e p q = some_one (sym p.has ∙ ap (λ z. own_at (own_part scope.environment z) path) (some_one (sym p.found ∙ q.found)) ∙ q.has)
    where
      some_one : {X : Type 0} {x y : X} → Some x ≡ Some y → x ≡ y
      some_one h = cc

-- ---- all four cases

module _ (scope : Scope) (variables : Variables) (path : Path) where
  Answers : Resolved → Type 0
  Answers r = StandsFor scope variables path r × ((other : Resolved) → StandsFor scope variables path other → other ≡ r)

  by_variable : (index : ℕ) → bound_variable variables path ≡ Some index → Answers (Variable index)
  unfolding Answers
  by_variable index h = (b, others)
    where
      b : IsBound variables path index
      b = bound_some variables path index h

      others : (other : Resolved) → StandsFor scope variables path other → other ≡ Variable index
      others (Variable i) s = ap Variable (one_index variables path i index s b)
      others (Declared d) (ByOwn f o) = absurd (f index b)
      others (Declared d) (ByQualified f n q) = absurd (f index b)
      others (Declared d) (ByIncluded e o) = absurd (e.free index b)
      others Unknown s = absurd (s.0.free index b)
      others Ambiguous s = absurd (s.0.free index b)

  by_own : bound_variable variables path ≡ None → (d : Declaration) → own_at scope.own path ≡ Some d → Answers (Declared d)
  unfolding Answers
  by_own h d o = (ByOwn f o, others)
    where
      f : NoneHas (IsBound variables path)
      f = bound_none variables path h

      one : {x y : Declaration} → Some x ≡ Some y → x ≡ y
      one e = cc

      others : (other : Resolved) → StandsFor scope variables path other → other ≡ Declared d
      others (Variable i) s = absurd (f i s)
      others (Declared e) (ByOwn g p) = ap Declared (one (sym p ∙ o))
      others (Declared e) (ByQualified g n q) = absurd (n d o)
      others (Declared e) (ByIncluded g p) = absurd (g.not_own d o)
      others Unknown s = absurd (s.0.not_own d o)
      others Ambiguous s = absurd (s.0.not_own d o)

  by_qualified : bound_variable variables path ≡ None → own_at scope.own path ≡ None → (d : Declaration) → qualified scope path ≡ Some d → Answers (Declared d)
  unfolding Answers
  by_qualified h n d o = (ByQualified f not_own q, others)
    where
      f : NoneHas (IsBound variables path)
      f = bound_none variables path h

      not_own : NoneHas (IsOwn scope path)
      not_own e p = clash (own_at scope.own path) n p

      q : IsQualified scope path d
      q = qualified_some scope path d o

      one : {x y : Declaration} → Some x ≡ Some y → x ≡ y
      one e = cc

      others : (other : Resolved) → StandsFor scope variables path other → other ≡ Declared d
      others (Variable i) s = absurd (f i s)
      others (Declared e) (ByOwn g p) = absurd (not_own e p)
      others (Declared e) (ByQualified g m p) = ap Declared (one (sym (qualified_is scope path e p) ∙ o))
      others (Declared e) (ByIncluded g p) = absurd (g.not_qualified d q)
      others Unknown s = absurd (s.0.not_qualified d q)
      others Ambiguous s = absurd (s.0.not_qualified d q)

  by_included : bound_variable variables path ≡ None → own_at scope.own path ≡ None → qualified scope path ≡ None → (list : List Declaration) → included_at scope path ≡ list → Answers (the_only list)
  unfolding Answers
  by_included h n m list e = by list e
    where
      elsewhere : IsElsewhere scope variables path
      elsewhere = record { free = bound_none variables path h; not_own = λ d p. clash (own_at scope.own path) n p; not_qualified = λ d p. clash (qualified scope path) m (qualified_is scope path d p) }

      not_variable : (r : Resolved) → ((d : Declaration) → IsOnly scope path d → Declared d ≡ r) → (((place : ℕ) → NoneHas (IsIncluded scope path place)) → Unknown ≡ r) → (AreTwo scope path → Ambiguous ≡ r) → (other : Resolved) → StandsFor scope variables path other → other ≡ r
      not_variable r a b c (Variable i) s = absurd (elsewhere.free i s)
      not_variable r a b c (Declared d) (ByOwn g p) = absurd (elsewhere.not_own d p)
      not_variable r a b c (Declared d) (ByQualified g k p) = absurd (elsewhere.not_qualified d p)
      not_variable r a b c (Declared d) (ByIncluded g p) = a d p
      not_variable r a b c Unknown s = b s.1
      not_variable r a b c Ambiguous s = c s.1

      by : (list : List Declaration) → included_at scope path ≡ list → StandsFor scope variables path (the_only list) × ((other : Resolved) → StandsFor scope variables path other → other ≡ the_only list)
      by [] e =
          let z = nothing scope path e in
          ((elsewhere, z), not_variable Unknown (λ d o. absurd (z o.place d o.here)) (λ f. refl) (λ t. absurd (z t.first t.one t.is_one)))
      by (d ∷ []) e =
          let o = only_one scope path d e in (
            ByIncluded elsewhere o,
            not_variable (Declared d)
                (λ x p. ap Declared (same_included scope path p.place x d p.here (subst (λ k. IsIncluded scope path k d) (p.only o.place d o.here) o.here)))
                (λ f. absurd (f o.place d o.here)) (λ t. absurd (t.differ (o.only t.first t.one t.is_one ∙ sym (o.only t.second t.other t.is_other)))),
          )
      by (d ∷ x ∷ ys) e =
          let t = two scope path d x ys e in (
            (elsewhere, t),
            not_variable Ambiguous (λ y o. absurd (t.differ (o.only t.first t.one t.is_one ∙ sym (o.only t.second t.other t.is_other)))) (λ f. absurd (f t.first t.one t.is_one)) (λ u. refl),
          )

  pub resolution_stands : StandsFor scope variables path (resolve scope variables path) × ((other : Resolved) → StandsFor scope variables path other → other ≡ resolve scope variables path)
  unfolding resolve Answers
  resolution_stands = variable (bound_variable variables path) refl
    where
      in_front : bound_variable variables path ≡ None → own_at scope.own path ≡ None → (o : Option Declaration) → qualified scope path ≡ o → Answers (or_declared o (the_only (included_at scope path)))
      in_front h n None e = by_included h n e (included_at scope path) refl
      in_front h n (Some d) e = by_qualified h n d e

      own : bound_variable variables path ≡ None → (o : Option Declaration) → own_at scope.own path ≡ o → Answers (or_declared o (or_declared (qualified scope path) (the_only (included_at scope path))))
      own h None e = in_front h e (qualified scope path) refl
      own h (Some d) e = by_own h d e

      variable : (o : Option ℕ) → bound_variable variables path ≡ o → Answers (or_variable o (or_declared (own_at scope.own path) (or_declared (qualified scope path) (the_only (included_at scope path)))))
      variable None e = own e (own_at scope.own path) refl
      variable (Some i) e = by_variable i e
