-- Tokens that spell a module or a judgement have at least as many parentheses as it costs.
use Rattle.std.proofs.Common.{◌≡◌, ℕ, ◌+◌, ◌≤◌, true, List, [], ◌∷◌, ◌++◌, arith}
use Rattle.text_meaning.specs.Tokens.{Token, sign, ColonSign, EqualSign, DotSign, RightBrace, EndSign}
use Rattle.text_meaning.specs.Trees.{Assign, Decl, Module, Judgement}
use Rattle.text_meaning.specs.Grammar.{SpellsAssign, const_assign, include_assign, struct_assign, SpellsAssigns, no_assigns, more_assigns, SpellsDecl, include_decl, bare_struct, struct, const, defined, SpellsDecls, no_decls, more_decls, SpellsModule, sig, view, SpellsJudgement, judgement}
use Rattle.parentheses_laws.specs.FewestParentheses.{parentheses}
use Rattle.parentheses_laws.proofs.Costs.{cost, assign_cost, assigns_cost, decl_cost, decls_cost, module_cost}
use Rattle.parentheses_laws.proofs.CheapestSpelling.{parentheses_append, expr_costs}

assign_costs : {ts : List Token} {x : Assign} → SpellsAssign ts x → assign_cost x ≤ parentheses ts
unfolding parentheses
assign_costs (const_assign ts d f) = omega (arith, parentheses_append ts (sign d DotSign ∷ []), expr_costs f)
assign_costs (include_assign ts d f) = omega arith
assign_costs (struct_assign ts d f) = omega arith

assigns_cost_last : (xs : List Assign) (x : Assign) → assigns_cost (xs ++ (x ∷ [])) ≡ assigns_cost xs + assign_cost x
unfolding assigns_cost
assigns_cost_last [] x = omega arith
assigns_cost_last (y ∷ ys) x = omega (arith, assigns_cost_last ys x)

assigns_costs : {ts : List Token} {xs : List Assign} → SpellsAssigns ts xs → assigns_cost xs ≤ parentheses ts
unfolding assigns_cost parentheses
assigns_costs no_assigns = omega arith
assigns_costs (more_assigns ts us xs {a = a} d f) = omega (arith, parentheses_append ts us, assigns_cost_last xs a, assigns_costs d, assign_costs f)

decl_costs : {ts : List Token} {d : Decl} → SpellsDecl ts d → decl_cost d ≤ parentheses ts
unfolding parentheses assigns_cost
decl_costs include_decl = omega arith
decl_costs bare_struct = omega arith
decl_costs (struct ts r d f) = omega (arith, parentheses_append ts (sign r RightBrace ∷ sign d DotSign ∷ []), assigns_costs f)
decl_costs (const ts d f) = omega (arith, parentheses_append ts (sign d DotSign ∷ []), expr_costs f)
decl_costs (defined ts us q d f g) =
    omega (arith, parentheses_append ts (sign q EqualSign ∷ (us ++ (sign d DotSign ∷ []))), parentheses_append us (sign d DotSign ∷ []), expr_costs f, expr_costs g)

decls_cost_last : (ds : List Decl) (d : Decl) → decls_cost (ds ++ (d ∷ [])) ≡ decls_cost ds + decl_cost d
unfolding decls_cost
decls_cost_last [] d = omega arith
decls_cost_last (c ∷ cs) d = omega (arith, decls_cost_last cs d)

decls_costs : {ts : List Token} {ds : List Decl} → SpellsDecls ts ds → decls_cost ds ≤ parentheses ts
unfolding decls_cost parentheses
decls_costs no_decls = omega arith
decls_costs (more_decls ts us ds {d = c} d f) = omega (arith, parentheses_append ts us, decls_cost_last ds c, decls_costs d, decl_costs f)

pub module_costs : {ts : List Token} {m : Module} → SpellsModule ts m → module_cost m ≤ parentheses ts
unfolding parentheses
module_costs (sig ts r d z f) = omega (arith, parentheses_append ts (sign r RightBrace ∷ sign d DotSign ∷ sign z EndSign ∷ []), decls_costs f)
module_costs (view ts r d z f) = omega (arith, parentheses_append ts (sign r RightBrace ∷ sign d DotSign ∷ sign z EndSign ∷ []), assigns_costs f)

abbrev pub judgement_cost : Judgement → ℕ
judgement_cost j = cost true j.object + cost true j.family

pub judgement_costs : {ts : List Token} {j : Judgement} → SpellsJudgement ts j → judgement_cost j ≤ parentheses ts
unfolding parentheses
judgement_costs (judgement ts us c z f g) =
    omega (arith, parentheses_append ts (sign c ColonSign ∷ (us ++ (sign z EndSign ∷ []))), parentheses_append us (sign z EndSign ∷ []), expr_costs f, expr_costs g)
