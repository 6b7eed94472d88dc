-- Variables met from the innermost one on.
use Rattle.std.proofs.Common.{◌≡◌, ℕ, zero, suc, ◌+◌, ◌-◌, ◌≤◌, ◌<◌, Bool, cond, List, [], ◌∷◌, ◌++◌, map, reverse, take, length, get_or, Option, Some, None, sym, ap, ◌∙◌, arith}
use Rattle.std.proofs.lemmas.List.{reverse-append, map-append, take_more}
use Rattle.std.proofs.Math.Seq.{take-length}
use Rattle.name_meaning.specs.Names.{Name}
use Rattle.library_meaning.specs.Resolution.{is_variable, variable_from}
use Rattle.mmt_syntax.specs.Readings.{read_binder}
use Rattle.term_trees.specs.declared.fam.Fam.{Fam}
use Rattle.mmt_syntax.specs.declared.expr.Binder.{Binder}
use Rattle.elaborate_meaning.specs.Locals.{variables_of}
use Rattle.names.specs.Readings.{read_local, read_variables}

-- One more variable is the innermost.
pub innermost_read : (vars : List (Binder × Fam)) (v : Binder × Fam) → read_variables (vars ++ v ∷ []) ≡ read_binder v.0 ∷ read_variables vars
innermost_read vars v = ap variables_of (ap reverse (map-append read_local vars (v ∷ [])) ∙ reverse-append (map read_local vars) (read_local v ∷ []))

-- What is found among the variables is found among those further out, some having been passed.
abbrev pub IsLeft : List (Binder × Fam) → Name → ℕ → Type 0
IsLeft vars name left = (left ≤ length vars) × (variable_from 0 (read_variables vars) name ≡ variable_from (length vars - left) (read_variables (take left vars)) name)

chosen : (b c : Bool) (x y : Option ℕ) → c ≡ b → cond b x y ≡ cond c x y
chosen b c x y e = ap (λ t. cond t x y) (sym e)

-- The variable at hand: it is the one, or those further out are left.
pub next_variable : (vars : List (Binder × Fam)) (name : Name) (left : ℕ) (v : Binder × Fam) → 0 < left → IsLeft vars name left → v ≡ get_or vars (left - 1) v
    → variable_from 0 (read_variables vars) name
    ≡ cond (is_variable name (read_binder v.0)) (Some (length vars - 1 - (left - 1))) (variable_from (length vars - (left - 1)) (read_variables (take (left - 1) vars)) name)
unfolding variable_from
next_variable vars name zero v p h e = absurd (omega (arith, p))
next_variable vars name (suc left) v p h e =
    let one : suc left - 1 ≡ left = omega arith in
    let plus : suc left ≡ left + 1 = omega arith in
    let within : left < length vars = omega (arith, h.0) in
    let here : v ≡ get_or vars left v = e ∙ ap (λ i. get_or vars i v) one in
    let grown : take (suc left) vars ≡ take left vars ++ v ∷ [] = ap (λ i. take i vars) plus ∙ take_more vars left v within ∙ ap (λ x. take left vars ++ x ∷ []) (sym here) in
    let at : length vars - suc left ≡ length vars - 1 - left = omega (arith, within) in
    let behind : suc (length vars - 1 - left) ≡ length vars - left = omega (arith, within) in
    rw one (h.1 ∙ ap (λ vs. variable_from (length vars - suc left) vs name) (ap read_variables grown ∙ innermost_read (take left vars) v)
    ∙ ap (λ i. variable_from i (read_binder v.0 ∷ read_variables (take left vars)) name) at
    ∙ ap (λ i. cond (is_variable name (read_binder v.0)) (Some (length vars - 1 - left)) (variable_from i (read_variables (take left vars)) name)) behind)

-- At the beginning all are left.
pub all_left : (vars : List (Binder × Fam)) (name : Name) → IsLeft vars name (length vars)
all_left vars name =
    let none : length vars - length vars ≡ 0 = omega arith in
    (omega arith, sym (ap (λ i. variable_from i (read_variables (take (length vars) vars)) name) none ∙ ap (λ vs. variable_from 0 (read_variables vs) name) (take-length vars)))

-- At the end none is.
pub none_left : (vars : List (Binder × Fam)) (name : Name) (left : ℕ) → left ≤ 0 → IsLeft vars name left → variable_from 0 (read_variables vars) name ≡ None
unfolding variable_from
none_left vars name zero z h = h.1
none_left vars name (suc left) z h = absurd (omega (arith, z))
