-- The numbers of the generator, draw after draw, and the lines of a parent.
use Rattle.std.proofs.Common.{◌≡◌, ℕ, zero, suc, ◌+◌, List, ◌++◌, refl, sym, ap, arith}
use Rattle.std.specs.Prelude.{codes}
use Rattle.run_meaning.specs.Generator.{drawn_from, number_after, draw_below, module_name, parent_lines}

pub drawn_none : (start : ℕ) → start ≡ number_after start 0
unfolding number_after
drawn_none start = refl

pub drawn_more : (start n : ℕ) → drawn_from (number_after start n) ≡ number_after start (n + 1)
unfolding number_after
drawn_more start n = let one : suc n ≡ n + 1 = omega arith in ap (λ (m : ℕ). number_after start m) one

-- a module behind the first has these lines
pub parent_lines_are : (start index : ℕ) (parent : List ℕ) → (index ≡ 0 → ⊥) → parent ≡ module_name (draw_below start index index)
    → parent_lines start index ≡ codes "%include " ++ parent ++ codes ".\n%struct s : " ++ parent ++ codes ".\n"
parent_lines_are start zero parent other e = absurd (other refl)
parent_lines_are start (suc before) parent other e =
    ap (λ (name : List ℕ). codes "%include " ++ name ++ codes ".\n%struct s : " ++ name ++ codes ".\n") (sym e)
