-- From an answer to what stands.
use Rattle.std.proofs.Common.{◌≡◌, Bool, true, false, [], Result, Ok, Err, IfOk, refl}
use Rattle.lf_meaning.specs.Signatures.{Class, FamilyClass, KindClass}
use Rattle.library_meaning.specs.Resolution.{Scope}
use Rattle.text_meaning.specs.Trees as trees
use Rattle.elaborate_meaning.specs.Answers.{Answer}
use Rattle.elaborate_meaning.specs.Values.{ends_in_type, class_by, expand_class, built_value, expand_value}
use Rattle.elaborate.specs.Steps.{class_by_end, class_answer, built_answer, value_answer}
use Rattle.elaborate.specs.Answers.{BreaksNothing, Expands}
use Rattle.elaborate.specs.declared.fault.ElabFault.{ElabFault}
use Rattle.elaborate.specs.declared.fault.ElabFault.TheVariants as faults

-- What is answered stands; and where something stands no rule is broken.
module _ {A B : Type 0} (read : A → B) (S : B → Type 0) (answer : Answer B) where
  pub stands_by : ((b : B) → answer ≡ Ok b → S b) → (result : Result A ElabFault) → Expands read result answer → IfOk result (λ a. S (read a))
  stands_by sound (Ok a) h = sound (read a) h
  stands_by sound (Err fault) h = tt

  pub only_by : ((b : B) → S b → answer ≡ Ok b) → (result : Result A ElabFault) → Expands read result answer → (b : B) → S b → BreaksNothing result
  only_by complete (Ok a) h b s = tt
  only_by complete (Err (faults.Broken span rule)) h b s = let e : answer ≡ Ok b = complete b s in absurd (cc)
  only_by complete (Err faults.Memory) h b s = tt

pub class_alone : (scope : Scope) (e : trees.Expr) → class_answer scope [] e ≡ expand_class scope e
unfolding expand_class
class_alone scope e = by (ends_in_type e)
  where
    by : (b : Bool) → class_by_end scope [] e b ≡ class_by scope e b
    by true = refl
    by false = refl

built_alone : (scope : Scope) (e : trees.Expr) (class : Class) → built_answer scope [] e class ≡ built_value scope e class
built_alone scope e (FamilyClass a) = refl
built_alone scope e (KindClass k) = refl

pub value_alone : (scope : Scope) (e : trees.Expr) (class : Class) → value_answer scope [] e class ≡ expand_value scope e class
unfolding expand_value
value_alone scope (trees.NameExpr s p) class = refl
value_alone scope (trees.TypeExpr s) class = built_alone scope (trees.TypeExpr s) class
value_alone scope (trees.AppExpr s h es) class = built_alone scope (trees.AppExpr s h es) class
value_alone scope (trees.PiExpr s x a b) class = built_alone scope (trees.PiExpr s x a b) class
value_alone scope (trees.LamExpr s x b) class = built_alone scope (trees.LamExpr s x b) class
value_alone scope (trees.TypedLamExpr s x a b) class = built_alone scope (trees.TypedLamExpr s x a b) class
value_alone scope (trees.ArrowExpr s a b) class = built_alone scope (trees.ArrowExpr s a b) class
value_alone scope (trees.BackExpr s b a) class = built_alone scope (trees.BackExpr s b a) class
