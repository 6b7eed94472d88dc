-- The table of paths of a flat signature as the last declaration goes, and what holds after an answer.
use Rattle.std.proofs.Common.{◌≡◌, ℕ, Bool, true, false, List, [], ◌∷◌, ◌++◌, cond, Option, Some, None, Result, Ok, Err, length, refl, sym, ap, subst, ◌∙◌, true≢false}
use Rattle.std.specs.Prelude.{nat_eq}
use Rattle.std.specs.Map.{lookup}
use Rattle.std.specs.Option.{option_eq}
use Rattle.std.specs.Result.{OnOk, OnErr}
use Rattle.std.proofs.lemmas.Bool.{eqb-true, eq-eqb}
use Rattle.name_meaning.specs.Names.{Path}
use Rattle.term_trees.specs.declared.flat_decl.FlatDecl.{FlatDecl}
use Rattle.lf_terms.specs.Tables.{same_path, HasFirstPlaces}
use Rattle.lf_terms.proofs.FirstPlaces.{table_left, table_shrinks}

-- The test whether an optional number is this one.
pub is_that : (o : Option ℕ) (n : ℕ) → option_eq nat_eq o (Some n) ≡ true → o ≡ Some n
is_that None n h = absurd (true≢false (sym h))
is_that (Some i) n h = ap Some (eqb-true i n h)

pub is_other : (o : Option ℕ) (n : ℕ) → option_eq nat_eq o (Some n) ≡ false → o ≡ Some n → ⊥
is_other o n h e = true≢false (sym (ap (λ x. option_eq nat_eq x (Some n)) e ∙ eq-eqb n n refl) ∙ h)

-- The table after the last declaration goes, and its path where it was the first of it.
module _ (places : List (Path × ℕ)) (decls : List FlatDecl) (d : FlatDecl) (before : HasFirstPlaces places (decls ++ d ∷ [])) where
  pub table_leaves : (after : List (Path × ℕ)) (index : ℕ) → index ≡ length decls
      → (lookup (same_path d.name.path) places ≡ Some index → (path : Path) → lookup (same_path path) after ≡ cond (same_path d.name.path path) None (lookup (same_path path) places))
      → ((lookup (same_path d.name.path) places ≡ Some index → ⊥) → after ≡ places) → HasFirstPlaces after decls
  table_leaves after index at gone stays = by (option_eq nat_eq stands (Some index)) refl
    where
      stands : Option ℕ
      stands = lookup (same_path d.name.path) places

      by : (b : Bool) → option_eq nat_eq stands (Some index) ≡ b → HasFirstPlaces after decls
      by true e = let first = is_that stands index e in table_shrinks places decls d after before (first ∙ ap Some at) (gone first)
      by false e =
          let other = is_other stands index e in
          subst (λ left. HasFirstPlaces left decls) (sym (stays other)) (table_left places decls d before (λ there. other (there ∙ ap Some (sym at))))

-- What holds after an answer: of what is new where it is one, and else of what was there.
module _ {T E A B : Type 0} (P : A → B → Type 0) where
  pub either_way : (r : Result T E) (old more new : A) (was grown now : B)
      → OnOk r (new ≡ more) → OnOk r (now ≡ grown) → OnErr r (new ≡ old) → OnErr r (now ≡ was) → P more grown → P old was → P new now
  either_way (Ok x) old more new was grown now ok ok_too err err_too p q = subst (λ b. P new b) (sym ok_too) (subst (λ a. P a grown) (sym ok) p)
  either_way (Err e) old more new was grown now ok ok_too err err_too p q = subst (λ b. P new b) (sym err_too) (subst (λ a. P a was) (sym err) q)

  pub one_way : (r : Result T E) (old more new : A) (b : B) → OnOk r (new ≡ more) → OnErr r (new ≡ old) → P more b → P old b → P new b
  one_way (Ok x) old more new b ok err p q = subst (λ a. P a b) (sym ok) p
  one_way (Err e) old more new b ok err p q = subst (λ a. P a b) (sym err) q
