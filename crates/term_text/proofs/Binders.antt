-- The binders of a family value, one after another.
use Rattle.std.specs.Prelude.{codes}
use Rattle.std.proofs.Common.{◌≡◌, ℕ, zero, suc, ◌+◌, ◌<◌, ◌≤◌, List, ◌++◌, append_assoc, refl, sym, ap, ◌∙◌, arith}
use Rattle.std.proofs.lemmas.List.{append-nil}
use Rattle.printing_meaning.specs.Constants.{Seen, variable_text}
use Rattle.printing_meaning.specs.PrintedTerms.{binders_text}

-- What was written of so many binders, and what is left of them.
pub record Bound (seen : Seen) (binders : ℕ) (before out : List ℕ) (number : ℕ) : Type 0 where
  pub left : ℕ
  pub all : left + number ≡ binders
  pub is : out ++ binders_text seen number left ≡ before ++ binders_text seen 0 binders

pub bound_first : (seen : Seen) (binders : ℕ) (out : List ℕ) → Bound seen binders out out 0
bound_first seen binders out = record { left = binders; all = omega arith; is = refl }

pub bound_next : (seen : Seen) (binders : ℕ) (before out after : List ℕ) (number : ℕ) → Bound seen binders before out number → number < binders
    → after ≡ out ++ (codes "[" ++ variable_text seen (number + 1) ++ codes "] ") → Bound seen binders before after (number + 1)
unfolding binders_text
bound_next seen binders before out after number b less is = by b.left b.all b.is
  where
    by : (left : ℕ) → left + number ≡ binders → out ++ binders_text seen number left ≡ before ++ binders_text seen 0 binders → Bound seen binders before after (number + 1)
    by zero all same = absurd (omega (arith, all, less))
    by (suc left) all same =
        let next : suc number ≡ number + 1 = omega arith in
        let one = codes "[" ++ variable_text seen (number + 1) ++ codes "] " in
        record {
          left = left;
          all = omega (arith, all);
          is = ap (λ z. z ++ binders_text seen (number + 1) left) is ∙ append_assoc out one (binders_text seen (number + 1) left)
              ∙ ap (λ n. out ++ ((codes "[" ++ variable_text seen n ++ codes "] ") ++ binders_text seen n left)) (sym next) ∙ same;
        }

pub bound_all : (seen : Seen) (binders : ℕ) (before out : List ℕ) (number : ℕ) → Bound seen binders before out number → binders ≤ number → out ≡ before ++ binders_text seen 0 binders
unfolding binders_text
bound_all seen binders before out number b past = by b.left b.all b.is
  where
    by : (left : ℕ) → left + number ≡ binders → out ++ binders_text seen number left ≡ before ++ binders_text seen 0 binders → out ≡ before ++ binders_text seen 0 binders
    by zero all same = sym (append-nil out) ∙ same
    by (suc left) all same = absurd (omega (arith, all, past))
