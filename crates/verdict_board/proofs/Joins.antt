-- Lists of names that are merged two at a time, until one is left.
use Rattle.std.proofs.Common.{◌≡◌, ℕ, zero, suc, ◌<◌, ◌≤◌, true, List, [], ◌∷◌, ◌++◌, drop, length, slice_get, Some, Result, Ok, Err, IfOk, ◌⊎◌, inl, inr, ⊎_elim, refl, sym, ap, ◌∙◌, subst, arith}
use Rattle.name_meaning.specs.Names.{Name, is_ascending}
use Rattle.list_laws.proofs.Members.{Member, in_append, append_left, append_right}
use Rattle.list_laws.proofs.Places.{drop_here, drop_front, place_within}
use Rattle.module_graph.specs.Merging.{IsMerge}
use Rattle.module_graph.specs.ReachParts.{IsJoin}

-- what is answered is one value
pub ok_same : {A E : Type 0} (P : A → Type 0) (r : Result A E) (x : A) → IfOk r (λ y. y ≡ x) → P x → IfOk r P
ok_same P (Ok y) x e p = subst P (sym e) p
ok_same P (Err e) x f p = tt

module _ (first : List (List Name)) where
  -- the lists from a place on have the names of the first ones
  pub record IsJoining (next : ℕ) (parts : List (List Name)) : Type 0 where
    pub ascending : (part : List Name) → Member part (drop next parts) → is_ascending part ≡ true
    pub comes : (part : List Name) (name : Name) → Member part (drop next parts) → Member name part → (list : List Name) × Member list first × Member name list
    pub has : (list : List Name) (name : Name) → Member list first → Member name list → (part : List Name) × Member part (drop next parts) × Member name part
    pub fits : (next < length parts) ⊎ ((next ≡ zero) × (parts ≡ []))

  pub joining_first : ((list : List Name) → Member list first → is_ascending list ≡ true) → IsJoining zero first
  joining_first h = record {
    ascending = h;
    comes = λ part name m n. (part, m, n);
    has = λ list name m n. (list, m, n);
    fits = by first;
  }
    where
      by : (lists : List (List Name)) → (zero < length lists) ⊎ ((zero ≡ zero) × (lists ≡ []))
      by [] = inr (refl, refl)
      by (list ∷ lists) = inl (omega arith)

  module _ (next : ℕ) (parts : List (List Name)) (k : IsJoining next parts) where
    pub joining_within : next ≤ length parts
    joining_within = ⊎_elim (λ h. omega (arith, h)) (λ q. let z = q.0 in omega (arith, z)) k.fits

    module _ (a b both : List Name) (at : slice_get parts next ≡ Some a) (then : slice_get parts (suc next) ≡ Some b) where
      rest : List (List Name)
      rest = drop (suc (suc next)) parts

      here : drop next parts ≡ a ∷ b ∷ rest
      unfolding rest
      here = drop_here parts next a at ∙ ap (λ z. a ∷ z) (drop_here parts (suc next) b then)

      pub joining_left : is_ascending a ≡ true
      joining_left = k.ascending a (subst (Member a) (sym here) (inl refl))

      pub joining_right : is_ascending b ≡ true
      joining_right = k.ascending b (subst (Member b) (sym here) (inr (inl refl)))

      module _ (m : IsMerge a b both) where
        behind : drop (suc (suc next)) (parts ++ both ∷ []) ≡ rest ++ both ∷ []
        unfolding rest
        behind = let w = place_within parts (suc next) b then in drop_front parts (both ∷ []) (suc (suc next)) (omega (arith, w))

        in_behind : (part : List Name) → Member part (drop (suc (suc next)) (parts ++ both ∷ [])) → Member part rest ⊎ (part ≡ both)
        in_behind part p = ⊎_elim (λ q. inl q) (λ q. ⊎_elim (λ e. inr e) (λ none. absurd none) q) (in_append rest (both ∷ []) part (subst (Member part) behind p))

        old : (part : List Name) → Member part rest → Member part (drop next parts)
        old part p = subst (Member part) (sym here) (inr (inr p))

        both_there : Member both (drop (suc (suc next)) (parts ++ both ∷ []))
        both_there = subst (Member both) (sym behind) (append_right rest (both ∷ []) both (inl refl))

        now : (name : Name) (part : List Name) → Member part (a ∷ b ∷ rest) → Member name part → (part : List Name) × Member part (drop (suc (suc next)) (parts ++ both ∷ [])) × Member name part
        now name part (inl e) n = (both, both_there, m.has_left name (subst (Member name) e n))
        now name part (inr (inl e)) n = (both, both_there, m.has_right name (subst (Member name) e n))
        now name part (inr (inr p)) n = (part, subst (Member part) (sym behind) (append_left rest (both ∷ []) part p), n)

        pub joining_next : IsJoining (suc (suc next)) (parts ++ both ∷ [])
        joining_next = record {
          ascending = λ part p. ⊎_elim (λ q. k.ascending part (old part q)) (λ e. subst (λ z. is_ascending z ≡ true) (sym e) m.ascending) (in_behind part p);
          comes = λ part name p n. ⊎_elim (λ q. k.comes part name (old part q) n)
              (λ e. ⊎_elim (λ l. k.comes a name (subst (Member a) (sym here) (inl refl)) l) (λ r. k.comes b name (subst (Member b) (sym here) (inr (inl refl))) r) (m.comes name (subst (Member name) e n)))
              (in_behind part p);
          has = λ list name l n. let q = k.has list name l n in now name q.0 (subst (Member q.0) here q.1) q.2;
          fits = inl (let w = place_within parts (suc next) b then in let l = long parts both in omega (arith, w, l));
        }
          where
            long : (xs : List (List Name)) (x : List Name) → length (xs ++ x ∷ []) ≡ suc (length xs)
            long [] x = refl
            long (y ∷ xs) x = ap suc (long xs x)

    -- one is left
    pub joining_done : (names : List Name) → length parts ≤ suc next → slice_get parts next ≡ Some names → IsJoin first names
    joining_done names past at = record {
      ascending = k.ascending names (subst (Member names) (sym alone) (inl refl));
      comes = λ name n. k.comes names name (subst (Member names) (sym alone) (inl refl)) n;
      has = λ list name l n. let q = k.has list name l n in subst (Member name) (only q.0 (subst (Member q.0) alone q.1)) q.2;
    }
      where
        none : (xs : List (List Name)) (i : ℕ) → length xs ≤ i → drop i xs ≡ []
        none [] zero h = refl
        none [] (suc i) h = refl
        none (x ∷ xs) zero h = absurd (omega (arith, h))
        none (x ∷ xs) (suc i) h = none xs i (omega (arith, h))

        alone : drop next parts ≡ names ∷ []
        alone = drop_here parts next names at ∙ ap (λ z. names ∷ z) (none parts (suc next) past)

        only : (part : List Name) → Member part (names ∷ []) → part ≡ names
        only part (inl e) = e
        only part (inr m) = absurd m

    -- there was none
    pub joining_none : length parts ≤ next → IsJoin first []
    unfolding is_ascending
    joining_none past = ⊎_elim (λ h. absurd (omega (arith, h, past))) (λ q. record {
      ascending = refl;
      comes = λ name n. absurd n;
      has = λ list name l n. let r = k.has list name l n in absurd (subst (Member r.0) (ap (drop next) q.1 ∙ empty next) r.1);
    }) k.fits
      where
        empty : (i : ℕ) → drop {A = List Name} i [] ≡ []
        empty zero = refl
        empty (suc i) = refl
