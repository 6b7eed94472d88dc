-- Lists that begin one list.
use Rattle.std.proofs.Common.{◌≡◌, ◌<◌, ◌≤◌, Bool, true, false, List, [], ◌∷◌, ◌++◌, length, refl, sym, ap, ◌∙◌, arith, inl, inr, ◌⊎◌, length-append, cond}
use Rattle.std.specs.Prelude.{nat_lt}
use Rattle.std.proofs.lemmas.List.{append-nil}
use Rattle.std.proofs.lemmas.Bool.Decides.{nat_tests}
use Rattle.turn_lock.specs.Views.{longer}

module _ {E : Type 0} where
  -- how much further one beginning goes than another
  pub record Further (xs ys later more : List E) : Type 0 where
    pub between : List E
    pub begins : ys ≡ xs ++ between
    pub ends : later ≡ between ++ more

  -- of two beginnings the shorter begins the longer
  pub further : (xs ys later more : List E) → xs ++ later ≡ ys ++ more → length xs ≤ length ys → Further xs ys later more
  further [] ys later more e le = record { between = ys; begins = refl; ends = e }
  further (x ∷ xs) [] later more e le = absurd (omega arith)
  further (x ∷ xs) (y ∷ ys) later more e le =
      let tail = further xs ys later more (cc) (omega arith) in
      let head : x ≡ y = cc in
      record { between = tail.between; begins = cc (tail.begins, head); ends = tail.ends }

  -- the longer is one of both
  pub longer-one : (xs ys : List E) → (longer xs ys ≡ xs) ⊎ (longer xs ys ≡ ys)
  longer-one xs ys = elim (nat_lt (length xs) (length ys)) as (λ (b : Bool). (cond b ys xs ≡ xs) ⊎ (cond b ys xs ≡ ys)) [ true ↦ inr refl | false ↦ inl refl ]

  longer-one_same : (xs ys : List E) → ys ≡ xs → longer xs ys ≡ ys
  longer-one_same xs ys e = elim (longer-one xs ys) [ inl h ↦ h ∙ sym e | inr h ↦ h ]

  -- where one of two beginnings is the whole, so is the longer
  pub longer-first : (xs ys later : List E) → xs ≡ ys ++ later → longer xs ys ≡ xs
  longer-first xs ys later e =
      let le : length ys ≤ length xs = omega (arith, ap length e ∙ length-append ys later) in
      let no : nat_lt (length xs) (length ys) ≡ false = grind (arith, nat_tests) in
      ap (λ (b : Bool). cond b ys xs) no

  pub longer-second : (xs ys later : List E) → ys ≡ xs ++ later → longer xs ys ≡ ys
  longer-second xs ys [] e = let same : ys ≡ xs = e ∙ append-nil xs in longer-one_same xs ys same
  longer-second xs ys (z ∷ zs) e =
      let lt : length xs < length ys = omega (arith, ap length e ∙ length-append xs (z ∷ zs)) in
      let yes : nat_lt (length xs) (length ys) ≡ true = grind (arith, nat_tests) in
      ap (λ (b : Bool). cond b ys xs) yes
