-- Terms that raising leaves, and what substitution makes of them.
use Rattle.std.proofs.Common.{◌≡◌, ap, sym, subst, ◌∙◌, arith}
use Rattle.std.specs.declared.boxed.Box.{Box}
use Rattle.std.specs.declared.alloc.Global.{Global}
use Rattle.lf_meaning.specs.Terms.{Object, Family, Pi, Kind, PiKind, Simple}
use Rattle.lf_meaning.specs.Erasure.{erase}
use Rattle.lf_meaning.specs.Raising.{raise_family, raise_kind}
use Rattle.lf_meaning.specs.Substitution.{substitute_family, substitute_kind}
use Rattle.lf_substitution_laws.proofs.Families.{raise_family_by_zero, raise_kind_by_zero, substitute_raised_family, substitute_raised_kind}
use Rattle.term_trees.specs.Readings.{read_family, read_kind}
use Rattle.term_trees.specs.declared.fam.Fam.{Fam}
use Rattle.term_trees.specs.declared.fam.Fam.TheVariants as fams
use Rattle.term_trees.specs.declared.kind.Kind as code
use Rattle.term_trees.specs.declared.kind.Kind.TheVariants as kinds
use Rattle.term_trees.proofs.ReadingEquations.{read_family_pi, read_kind_pi}
use Rattle.elaborate.specs.LentValues.{value_of}
use Rattle.elaborate.specs.HeadStates.{family_after, kind_after}
use Rattle.elaborate.specs.declared.lent.Lent.{Lent}

-- Substitution for the innermost variable leaves a term that raising leaves.
pub family_left : (a : Family) (v : Object) (t : Simple) → a ≡ raise_family 1 0 a → a ≡ substitute_family v t 0 a
family_left a v t closed =
    sym (ap (substitute_family v t 0) closed ∙ substitute_raised_family 0 v t 0 0 a (omega arith) (omega arith) ∙ raise_family_by_zero 0 a)

pub kind_left : (k : Kind) (v : Object) (t : Simple) → k ≡ raise_kind 1 0 k → k ≡ substitute_kind v t 0 k
kind_left k v t closed =
    sym (ap (substitute_kind v t 0) closed ∙ substitute_raised_kind 0 v t 0 0 k (omega arith) (omega arith) ∙ raise_kind_by_zero 0 k)

-- The body of a Π that was seen to have no free variable is the family after an argument.
pub body_left : (family : Lent Fam) (whole : Fam) (domain body : Box Fam Global) (tested left : Fam) (argument : Object) → value_of family ≡ whole → whole ≡ fams.Pi domain body
    → tested ≡ body.value → left ≡ body.value → read_family tested ≡ raise_family 1 0 (read_family tested) → read_family left ≡ family_after (read_family (value_of family)) argument
body_left family whole domain body tested left argument is_whole is_pi is_tested is_left closed =
    let inner : read_family body.value ≡ raise_family 1 0 (read_family body.value) = subst (λ a. read_family a ≡ raise_family 1 0 (read_family a)) is_tested closed in
    let read : read_family (value_of family) ≡ Pi (read_family domain.value) (read_family body.value) = ap read_family (is_whole ∙ is_pi) ∙ read_family_pi domain body in
    ap read_family is_left ∙ family_left (read_family body.value) argument (erase (read_family domain.value)) inner ∙ sym (ap (λ a. family_after a argument) read)

-- The same of a kind.
pub rest_left : (kind : Lent code.Kind) (whole : code.Kind) (domain : Box Fam Global) (rest : Box code.Kind Global) (tested left : code.Kind) (argument : Object) → value_of kind ≡ whole → whole ≡ kinds.Pi domain rest
    → tested ≡ rest.value → left ≡ rest.value → read_kind tested ≡ raise_kind 1 0 (read_kind tested) → read_kind left ≡ kind_after (read_kind (value_of kind)) argument
rest_left kind whole domain rest tested left argument is_whole is_pi is_tested is_left closed =
    let inner : read_kind rest.value ≡ raise_kind 1 0 (read_kind rest.value) = subst (λ k. read_kind k ≡ raise_kind 1 0 (read_kind k)) is_tested closed in
    let read : read_kind (value_of kind) ≡ PiKind (read_family domain.value) (read_kind rest.value) = ap read_kind (is_whole ∙ is_pi) ∙ read_kind_pi domain rest in
    ap read_kind is_left ∙ kind_left (read_kind rest.value) argument (erase (read_family domain.value)) inner ∙ sym (ap (λ k. kind_after k argument) read)
