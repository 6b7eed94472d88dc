-- Which theories an inclusion closure has, and in which order it was made.
use Rattle.std.proofs.Common.{◌≡◌, Bool, true, false, cond, List, [], ◌∷◌, ◌++◌, fold, flat_map, ◌⊎◌, inl, inr, ⊎_elim, refl, sym, ap, ◌∙◌, subst}
use Rattle.std.proofs.lemmas.List.Sums.{fold-append}
use Rattle.name_meaning.specs.Names.{Name}
use Rattle.list_laws.proofs.Members.{Member, in_append, append_left, append_right}
use Rattle.name_laws.proofs.Order.{among_member, member_among}
use Rattle.library_meaning.specs.Faces.{Environment, theory_of, includes_of}
use Rattle.library_meaning.specs.Closure.{sees, with_once, with_all, brought, with_inclusion, closure_of}
use Rattle.library_laws.specs.ClosureLaws.{Brings, InclusionAdds, ClosureHasExactly, ClosureInOrder}

-- ---- one more name, unless it is there

once_member : (b : Bool) (names : List Name) (name x : Name) → Member x (cond b names (names ++ name ∷ [])) → Member x names ⊎ (x ≡ name)
once_member true names name x m = inl m
once_member false names name x m = ⊎_elim (λ n. inl n) (λ n. ⊎_elim (λ e. inr e) (λ e. absurd e) n) (in_append names (name ∷ []) x m)

once_old : (b : Bool) (names : List Name) (name x : Name) → Member x names → Member x (cond b names (names ++ name ∷ []))
once_old true names name x m = m
once_old false names name x m = append_left names (name ∷ []) x m

pub with_once_old : (names : List Name) (name x : Name) → Member x names → Member x (with_once names name)
with_once_old names name x m = once_old (sees names name) names name x m

pub with_once_new : (names : List Name) (name : Name) → Member name (with_once names name)
with_once_new names name = by (sees names name) refl
  where
    by : (b : Bool) → sees names name ≡ b → Member name (cond b names (names ++ name ∷ []))
    by true e = among_member names name e
    by false e = append_right names (name ∷ []) name (inl refl)

-- ---- all of these names

all_member : (names more : List Name) (x : Name) → Member x (fold with_once names more) → Member x names ⊎ Member x more
all_member names [] x m = inl m
all_member names (name ∷ more) x m =
    ⊎_elim (λ n. ⊎_elim (λ k. inl k) (λ k. inr (inl k)) (once_member (sees names name) names name x n)) (λ n. inr (inr n)) (all_member (with_once names name) more x m)

all_old : (names more : List Name) (x : Name) → Member x names → Member x (fold with_once names more)
all_old names [] x m = m
all_old names (name ∷ more) x m = all_old (with_once names name) more x (with_once_old names name x m)

all_new : (names more : List Name) (x : Name) → Member x more → Member x (fold with_once names more)
all_new names [] x m = absurd m
all_new names (name ∷ more) x (inl e) = all_old (with_once names name) more x (subst (λ z. Member z (with_once names name)) (sym e) (with_once_new names name))
all_new names (name ∷ more) x (inr m) = all_new (with_once names name) more x m

module _ (environment : Environment) where
  -- ---- one inclusion

  pub inclusion_member : (names : List Name) (theory x : Name) → Member x (with_inclusion environment names theory) → Member x names ⊎ (Member x (includes_of (theory_of environment theory)) ⊎ (x ≡ theory))
  unfolding with_inclusion with_all
  inclusion_member names theory x m =
      ⊎_elim (λ n. inl n) (λ n. inr (⊎_elim (λ k. inl k) (λ k. ⊎_elim (λ e. inr e) (λ e. absurd e) k) (in_append (includes_of (theory_of environment theory)) (theory ∷ []) x n)))
      (all_member names (includes_of (theory_of environment theory) ++ theory ∷ []) x m)

  pub inclusion_old : (names : List Name) (theory x : Name) → Member x names → Member x (with_inclusion environment names theory)
  unfolding with_inclusion with_all
  inclusion_old names theory x m = all_old names (includes_of (theory_of environment theory) ++ theory ∷ []) x m

  inclusion_new : (names : List Name) (theory x : Name) → Brings environment theory x → Member x (with_inclusion environment names theory)
  unfolding with_inclusion with_all
  inclusion_new names theory x (inl e) =
      all_new names (includes_of (theory_of environment theory) ++ theory ∷ []) x (append_right (includes_of (theory_of environment theory)) (theory ∷ []) x (inl e))
  inclusion_new names theory x (inr s) =
      all_new names (includes_of (theory_of environment theory) ++ theory ∷ []) x
      (append_left (includes_of (theory_of environment theory)) (theory ∷ []) x (among_member (includes_of (theory_of environment theory)) x s))

  brings_by : (theory x : Name) → Member x (includes_of (theory_of environment theory)) ⊎ (x ≡ theory) → Brings environment theory x
  brings_by theory x (inl m) = inr (member_among (includes_of (theory_of environment theory)) x m)
  brings_by theory x (inr e) = inl e

  -- ---- all inclusions

  pub record Brought (inclusions : List Name) (x : Name) : Type 0 where
    pub theory : Name
    pub member : Member theory inclusions
    pub brings : Brings environment theory x

  fold_member : (names inclusions : List Name) (x : Name) → Member x (fold (with_inclusion environment) names inclusions) → Member x names ⊎ Brought inclusions x
  fold_member names [] x m = inl m
  fold_member names (theory ∷ inclusions) x m =
      ⊎_elim
      (λ n. ⊎_elim (λ k. inl k) (λ k. inr (record { theory = theory; member = inl refl; brings = brings_by theory x k })) (inclusion_member names theory x n))
      (λ b. inr (record { theory = b.theory; member = inr b.member; brings = b.brings }))
      (fold_member (with_inclusion environment names theory) inclusions x m)

  fold_old : (names inclusions : List Name) (x : Name) → Member x names → Member x (fold (with_inclusion environment) names inclusions)
  fold_old names [] x m = m
  fold_old names (theory ∷ inclusions) x m = fold_old (with_inclusion environment names theory) inclusions x (inclusion_old names theory x m)

  fold_new : (names inclusions : List Name) (theory x : Name) → Member theory inclusions → Brings environment theory x → Member x (fold (with_inclusion environment) names inclusions)
  fold_new names [] theory x m b = absurd m
  fold_new names (first ∷ inclusions) theory x (inl e) b =
      fold_old (with_inclusion environment names first) inclusions x (inclusion_new names first x (subst (λ z. Brings environment z x) e b))
  fold_new names (first ∷ inclusions) theory x (inr m) b = fold_new (with_inclusion environment names first) inclusions theory x m b

  pub closure_member : (inclusions : List Name) (x : Name) → Member x (closure_of environment inclusions) → Brought inclusions x
  unfolding closure_of
  closure_member inclusions x m = ⊎_elim (λ n. absurd n) (λ b. b) (fold_member [] inclusions x m)

  pub closure_new : (inclusions : List Name) (theory x : Name) → Member theory inclusions → Brings environment theory x → Member x (closure_of environment inclusions)
  unfolding closure_of
  closure_new inclusions theory x m b = fold_new [] inclusions theory x m b

  fold_order : (names inclusions : List Name) → fold (with_inclusion environment) names inclusions ≡ fold with_once names (flat_map (brought environment) inclusions)
  unfolding with_inclusion with_all
  fold_order names [] = refl
  fold_order names (theory ∷ inclusions) =
      fold_order (with_inclusion environment names theory) inclusions ∙ sym (fold-append with_once names (brought environment theory) (flat_map (brought environment) inclusions))

-- ---- what is known of the inclusions decides

inclusion_same : (environment more : Environment) (names : List Name) (theory : Name) → theory_of more theory ≡ theory_of environment theory → with_inclusion environment names theory ≡ with_inclusion more names theory
unfolding with_inclusion
inclusion_same environment more names theory e = ap (λ o. with_all names (includes_of o ++ theory ∷ [])) (sym e)

fold_same : (environment more : Environment) (names inclusions : List Name) → ((x : Name) → Member x inclusions → theory_of more x ≡ theory_of environment x)
    → fold (with_inclusion environment) names inclusions ≡ fold (with_inclusion more) names inclusions
fold_same environment more names [] h = refl
fold_same environment more names (theory ∷ inclusions) h =
    ap (λ z. fold (with_inclusion environment) z inclusions) (inclusion_same environment more names theory (h theory (inl refl)))
    ∙ fold_same environment more (with_inclusion more names theory) inclusions (λ x m. h x (inr m))

pub closure_same : (environment more : Environment) (inclusions : List Name) → ((x : Name) → Member x inclusions → theory_of more x ≡ theory_of environment x) → closure_of environment inclusions ≡ closure_of more inclusions
unfolding closure_of
closure_same environment more inclusions h = fold_same environment more [] inclusions h

-- ---- the laws

pub inclusion_adds : InclusionAdds
inclusion_adds environment closure theory x = (there, back)
  where
    there : sees (with_inclusion environment closure theory) x ≡ true → (sees closure x ≡ true) ⊎ Brings environment theory x
    there s =
        ⊎_elim (λ m. inl (member_among closure x m)) (λ m. inr (brings_by environment theory x m))
        (inclusion_member environment closure theory x (among_member (with_inclusion environment closure theory) x s))

    back : (sees closure x ≡ true) ⊎ Brings environment theory x → sees (with_inclusion environment closure theory) x ≡ true
    back (inl s) = member_among (with_inclusion environment closure theory) x (inclusion_old environment closure theory x (among_member closure x s))
    back (inr b) = member_among (with_inclusion environment closure theory) x (inclusion_new environment closure theory x b)

pub closure_has_exactly : ClosureHasExactly
closure_has_exactly environment inclusions x = (
  λ s. (let b = closure_member environment inclusions x (among_member (closure_of environment inclusions) x s) in
      (b.theory, member_among inclusions b.theory b.member, b.brings)),
  λ b. member_among (closure_of environment inclusions) x (closure_new environment inclusions b.0 x (among_member inclusions b.0 b.1) b.2),
)

pub closure_in_order : ClosureInOrder
unfolding closure_of with_all
closure_in_order environment inclusions = fold_order environment [] inclusions
