-- The replacement of constants alone: it keeps sorts, and commutes with raising and substitution.
use Rattle.std.proofs.Common.{◌≡◌, ℕ, suc, [], ◌∷◌, ◌++◌, length, map, Some, refl, ap, ap₂, ◌∙◌, arith}
use Rattle.std.specs.Prelude.{slice_get}
use Rattle.lf_meaning.specs.Terms.{Constant, Object, Lam, At, Atomic, Var, Con, App, Simple, SimpleContext}
use Rattle.lf_meaning.specs.Raising.{raised, raise}
use Rattle.lf_meaning.specs.Replacement.{Headed, Kept, Replaced, object_of, takes, replace, replace_head, of_constants, replace_constants}
use Rattle.lf_meaning.specs.Substitution.{substitute}
use Rattle.lf_meaning.specs.Sorts.{Sorts, HasSort}
use Rattle.lf_substitution_laws.specs.Uniform.{IsUniform, HeadedHasSort, rename_bases, IsSortedMap}
use Rattle.lf_term_laws.proofs.Lookups.{get_map}
use Rattle.lf_substitution_laws.proofs.Domains.{rename_retypes}
use Rattle.lf_substitution_laws.proofs.Replacing.{raise_replace}
use Rattle.lf_substitution_laws.proofs.Substituting.{natural_uniform}
use Rattle.lf_substitution_laws.proofs.SortedFamilies.{more_sort, more_atomic_sort}
use Rattle.lf_substitution_laws.proofs.Commutation.{sorted_replacement, replacement_commutes}

-- the depth does not matter
module _ (by : Constant → Headed) where
  mutual
    pub any_depth : (n p : ℕ) (m : Object) → replace (of_constants by) n m ≡ replace (of_constants by) p m
    any_depth n p (Lam m) = ap Lam (any_depth (suc n) (suc p) m)
    any_depth n p (At r) = ap object_of (any_depth_head n p r)

    pub any_depth_head : (n p : ℕ) (r : Atomic) → replace_head (of_constants by) n r ≡ replace_head (of_constants by) p r
    any_depth_head n p (Var i) = refl
    any_depth_head n p (Con c) = refl
    any_depth_head n p (App r m) = ap₂ takes (any_depth_head n p r) (any_depth n p m)

more_headed : (sorts : Sorts) (D : SimpleContext) (h : Headed) (t : Simple) → HeadedHasSort sorts [] h t → HeadedHasSort sorts D h t
more_headed sorts D (Kept r) t f = more_atomic_sort sorts sorts (λ c s e. e) [] D r t f
more_headed sorts D (Replaced v a) t f = (f.0, more_sort sorts sorts (λ c s e. e) [] D v t f.1)

module _ (by : Constant → Headed) (bases : Constant → Constant) (sorts sorts' : Sorts) (h : IsSortedMap by bases sorts sorts') where
  pub uniform_constants : IsUniform (of_constants by)
  uniform_constants = record { variable_typed = λ n i. tt; constant_typed = h.typed; below_depth = λ n i e. refl; deeper = λ k n p q i low e. refl; closed = h.closed }

  -- the result stands in the context with other names for bases
  abbrev Renamed : ℕ → SimpleContext → SimpleContext → Type 0
  Renamed n D D' = D' ≡ map (rename_bases bases) D

  renamed_under : (n : ℕ) (D D' : SimpleContext) (s : Simple) → Renamed n D D' → Renamed (suc n) (s ∷ D) (rename_bases bases s ∷ D')
  renamed_under n D D' s e = ap (λ E. rename_bases bases s ∷ E) e

  variable_has : (n : ℕ) (D D' : SimpleContext) (i : ℕ) (t : Simple) → Renamed n D D' → slice_get D i ≡ Some t → HeadedHasSort sorts' D' (Kept (Var i)) (rename_bases bases t)
  variable_has n D D' i t e f = ap (λ E. slice_get E i) e ∙ get_map (rename_bases bases) D i t f

  constant_has : (n : ℕ) (D D' : SimpleContext) (c : Constant) (t : Simple) → Renamed n D D' → sorts c ≡ Some t → HeadedHasSort sorts' D' (by c) (rename_bases bases t)
  constant_has n D D' c t e f = more_headed sorts' D' (by c) (rename_bases bases t) (h.has_sort c t f)

  pub constants_keep_sort : (D : SimpleContext) (m : Object) (t : Simple) → HasSort sorts D m t → HasSort sorts' (map (rename_bases bases) D) (replace_constants by m) (rename_bases bases t)
  constants_keep_sort D m t f = sorted_replacement sorts sorts' (of_constants by) uniform_constants (rename_bases bases) (rename_retypes bases) Renamed renamed_under variable_has constant_has 0 D (map (rename_bases bases) D) m t refl f

  pub constants_raise : (k p : ℕ) (m : Object) → raise k p (replace_constants by m) ≡ replace_constants by (raise k p m)
  constants_raise k p m = raise_replace k (of_constants by) (of_constants by) (λ n a q b. a ≡ b) (natural_uniform (of_constants by) uniform_constants) (λ n a q b e. ap suc e) (λ n a q b i e. ap (λ x. Kept (Var (raised k x i))) e) (λ n a q b c e. h.closed k a c) 0 p 0 p m refl

  pub constants_commute : (after D : SimpleContext) (v m : Object) (u t : Simple) → HasSort sorts D v u → HasSort sorts (after ++ (u ∷ D)) m t → replace_constants by (substitute v u (length after) m) ≡ substitute (replace_constants by v) (rename_bases bases u) (length after) (replace_constants by m)
  constants_commute after D v m u t hv hm =
      let n : ℕ = length after in
      any_depth by 0 n (substitute v u n m) ∙ replacement_commutes sorts sorts' (of_constants by) uniform_constants (rename_bases bases) (rename_retypes bases) Renamed renamed_under variable_has constant_has 0 D (map (rename_bases bases) D) refl u v hv after n m t (omega arith) hm ∙ ap (substitute (replace_constants by v) (rename_bases bases u) n) (any_depth by (suc n) 0 m)
