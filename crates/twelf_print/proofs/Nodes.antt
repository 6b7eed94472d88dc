-- What is written of an expression, by the tree that it stands for.
use Rattle.std.proofs.Common.{◌≡◌, ℕ, Bool, List, ◌++◌, sym, ap, ◌∙◌}
use Rattle.text_meaning.specs.Trees as trees
use Rattle.print_meaning.specs.PrintedItems.{Gap, text_of}
use Rattle.print_meaning.specs.PrintedExpressions.{expr_items}

-- what is written of the tree that an expression stands for
pub as_read : (o : List ℕ) {e tree : trees.Expr} {q : List ℕ} (free : Bool) (gap : Gap) → e ≡ tree → q ≡ o ++ text_of (expr_items free tree gap) → q ≡ o ++ text_of (expr_items free e gap)
as_read o free gap k h = h ∙ ap (λ t. o ++ text_of (expr_items free t gap)) (sym k)
