-- The inclusion closure lists each theory once, and behind what it includes.
use Rattle.std.proofs.Common.{◌≡◌, ℕ, Bool, true, false, cond, List, [], ◌∷◌, ◌++◌, length, take, slice_get, fold, Some, ◌⊎◌, inl, inr, ⊎_elim, refl, sym, ap, ◌∙◌, subst, true≢false, arith, append_assoc}
use Rattle.name_meaning.specs.Names.{Name}
use Rattle.list_laws.proofs.Members.{Member, in_append, place_member}
use Rattle.name_laws.proofs.Order.{among_member, member_among}
use Rattle.list_laws.proofs.Places.{place_within, get_more, take_front, take_length}
use Rattle.library_meaning.specs.Faces.{Environment, theory_of, includes_of}
use Rattle.library_meaning.specs.Closure.{sees, with_once, with_all, with_inclusion, closure_of}
use Rattle.library_meaning.specs.Coherence.{IsClosure}
use Rattle.library_laws.proofs.ClosureMembers.{with_once_old, with_once_new}

module _ (environment : Environment) where
  included : Name → List Name
  included name = includes_of (theory_of environment name)

  -- each stands behind what it includes
  abbrev pub AreBehind : List Name → Type 0
  AreBehind names = (i : ℕ) (name other : Name) → slice_get names i ≡ Some name → sees (includes_of (theory_of environment name)) other ≡ true → sees (take i names) other ≡ true

  behind_more : (names : List Name) (name : Name) → AreBehind names → ((other : Name) → sees (includes_of (theory_of environment name)) other ≡ true → sees names other ≡ true) → AreBehind (names ++ name ∷ [])
  behind_more names name b f i x other h s =
      ⊎_elim
      (λ g. let p = place_within names i x g in subst (λ z. sees z other ≡ true) (sym (take_front names (name ∷ []) i (omega (arith, p)))) (b i x other g s))
      (λ g. subst (λ z. sees z other ≡ true) (sym (ap (λ k. take k (names ++ name ∷ [])) g.0 ∙ take_front names (name ∷ []) (length names) (omega arith) ∙ take_length names))
      (f other (subst (λ z. sees (includes_of (theory_of environment z)) other ≡ true) (sym g.1) s)))
      (get_more names name x i h)

  once_more : (names : List Name) (name : Name) → IsClosure environment names → sees names name ≡ false → (i j : ℕ) (x : Name) → slice_get (names ++ name ∷ []) i ≡ Some x → slice_get (names ++ name ∷ []) j ≡ Some x → i ≡ j
  once_more names name c n i j x h g = by (get_more names name x i h) (get_more names name x j g)
    where
      clash : (k : ℕ) → slice_get names k ≡ Some x → name ≡ x → ⊥
      clash k p e = true≢false (sym (member_among names name (subst (λ z. Member z names) (sym e) (place_member names k x p))) ∙ n)

      by : (slice_get names i ≡ Some x) ⊎ ((i ≡ length names) × (name ≡ x)) → (slice_get names j ≡ Some x) ⊎ ((j ≡ length names) × (name ≡ x)) → i ≡ j
      by (inl p) (inl q) = c.once i j x p q
      by (inl p) (inr q) = absurd (clash i p q.1)
      by (inr p) (inl q) = absurd (clash j q p.1)
      by (inr p) (inr q) = p.0 ∙ sym q.0

  with_once_keeps : (names : List Name) (name : Name) → IsClosure environment names → ((other : Name) → sees (includes_of (theory_of environment name)) other ≡ true → sees names other ≡ true) → IsClosure environment (with_once names name)
  with_once_keeps names name c f = by (sees names name) refl
    where
      by : (b : Bool) → sees names name ≡ b → IsClosure environment (cond b names (names ++ name ∷ []))
      by true e = c
      by false e = record { once = once_more names name c e; behind = behind_more names name c.behind f }

  -- all of these, the front of which is there already
  all_keep : (names before rest : List Name) → IsClosure environment names → ((x : Name) → Member x before → Member x names) → AreBehind (before ++ rest) → IsClosure environment (fold with_once names rest)
  all_keep names before [] c f b = c
  all_keep names before (name ∷ rest) c f b =
      all_keep (with_once names name) (before ++ name ∷ []) rest
      (with_once_keeps names name c (λ other s. member_among names other (f other (among_member before other (front other s)))))
      (λ x m. ⊎_elim (λ q. with_once_old names name x (f x q)) (λ q. last x q) (in_append before (name ∷ []) x m))
      (subst AreBehind (sym (append_assoc before (name ∷ []) rest)) b)
    where
      at : (xs ys : List Name) (x : Name) → slice_get (xs ++ x ∷ ys) (length xs) ≡ Some x
      at [] ys x = refl
      at (y ∷ xs) ys x = at xs ys x

      front : (other : Name) → sees (includes_of (theory_of environment name)) other ≡ true → sees before other ≡ true
      front other s = subst (λ z. sees z other ≡ true) (take_front before (name ∷ rest) (length before) (omega arith) ∙ take_length before) (b (length before) name other (at before rest name) s)

      last : (x : Name) → Member x (name ∷ []) → Member x (with_once names name)
      last x (inl e) = subst (λ z. Member z (with_once names name)) (sym e) (with_once_new names name)
      last x (inr m) = absurd m

  pub inclusion_keeps : (closure : List Name) (theory : Name) → IsClosure environment closure → IsClosure environment (includes_of (theory_of environment theory)) → IsClosure environment (with_inclusion environment closure theory)
  unfolding with_inclusion with_all
  inclusion_keeps closure theory c i =
      all_keep closure [] (includes_of (theory_of environment theory) ++ theory ∷ []) c (λ x m. absurd m)
      (behind_more (includes_of (theory_of environment theory)) theory i.behind (λ other s. s))

  fold_keeps : (closure inclusions : List Name) → IsClosure environment closure → ((theory : Name) → sees inclusions theory ≡ true → IsClosure environment (includes_of (theory_of environment theory))) → IsClosure environment (fold (with_inclusion environment) closure inclusions)
  fold_keeps closure [] c f = c
  fold_keeps closure (theory ∷ inclusions) c f =
      fold_keeps (with_inclusion environment closure theory) inclusions
      (inclusion_keeps closure theory c (f theory (member_among (theory ∷ inclusions) theory (inl refl))))
      (λ other s. f other (member_among (theory ∷ inclusions) other (inr (among_member inclusions other s))))

  pub closure_is_closure : (inclusions : List Name) → ((theory : Name) → sees inclusions theory ≡ true → IsClosure environment (includes_of (theory_of environment theory))) → IsClosure environment (closure_of environment inclusions)
  unfolding closure_of
  closure_is_closure inclusions f = fold_keeps [] inclusions (record { once = λ i j x h g. absurd (cc); behind = λ i x other h s. absurd (cc) }) f
