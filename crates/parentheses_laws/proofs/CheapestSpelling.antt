-- Tokens that spell an expression have at least as many parentheses as it costs.
use Rattle.std.proofs.Common.{◌≡◌, ℕ, ◌+◌, ◌≤◌, Bool, true, false, List, [], ◌∷◌, ◌++◌, arith}
use Rattle.text_meaning.specs.Tokens.{Span, Token, sign, ColonSign, ArrowSign, BackSign, RightParen, RightBrace, RightBracket}
use Rattle.text_meaning.specs.Trees.{Expr, Exprs}
use Rattle.text_meaning.specs.Grammar.{applied, SpellsExpr, arrows, backs, SpellsArrows, only_last, only_atoms, arrow, SpellsBacks, back, SpellsTail, tail_last, tail_atoms, tail_more, SpellsLast, only_binder, atoms_binder, SpellsAtoms, first_atom, more_atoms, SpellsAtom, name, type_word, parens, SpellsBinding, pi, lam, typed_lam}
use Rattle.parentheses_laws.specs.FewestParentheses.{is_parenthesis, parentheses}
use Rattle.parentheses_laws.proofs.Costs.{cost, args_cost, atom_cost, argument_cost, body_cost, front_cost, last_cost}
use Rattle.parentheses_laws.proofs.CostsOfItems.{counted, counted_plus}
use Rattle.parentheses_laws.proofs.CheapestPlaces.{atom_within, whole_below_body, argument_below_atom, front_below_operand, last_below_operand, body_below_operand, applied_below}

pub parentheses_append : (ts us : List Token) → parentheses (ts ++ us) ≡ parentheses ts + parentheses us
unfolding parentheses
parentheses_append [] us = omega arith
parentheses_append (t ∷ ts) us = counted_plus (is_parenthesis t.kind) _ _ _ (parentheses_append ts us)

-- a token in front counts for nothing, or for one
behind_token : (t : Token) (ts : List Token) → parentheses ts ≤ parentheses (t ∷ ts)
unfolding parentheses
behind_token t ts = by (is_parenthesis t.kind)
  where
    by : (here : Bool) → parentheses ts ≤ counted here (parentheses ts)
    by true = omega arith
    by false = omega arith

-- at the end of a row, wherever that is
record CostsAtEnd (e : Expr) (n : ℕ) : Type 0 where
  body : body_cost e ≤ n
  last : last_cost true e ≤ n
  argument : argument_cost true e ≤ n

mutual
  unfolding parentheses cost

  pub expr_costs : {ts : List Token} {s : Span} {e : Expr} → SpellsExpr ts s e → cost true e ≤ parentheses ts
  expr_costs {e = e} (arrows d) = omega (arith, whole_below_body e, arrows_costs d)
  expr_costs (backs d) = backs_costs d

  arrows_costs : {ts : List Token} {s : Span} {e : Expr} → SpellsArrows ts s e → body_cost e ≤ parentheses ts
  arrows_costs (only_last d) = last_body_costs d
  arrows_costs (only_atoms {s = s} {h = h} {xs = xs} d) = omega (arith, body_below_operand (applied s h xs), applied_below s h xs, atoms_costs d)
  arrows_costs (arrow ts us a {s = s} {h = h} {xs = xs} d f) =
      omega (arith, parentheses_append ts (sign a ArrowSign ∷ us), applied_below s h xs, atoms_costs d, arrows_costs f)

  backs_costs : {ts : List Token} {s : Span} {e : Expr} → SpellsBacks ts s e → cost true e ≤ parentheses ts
  backs_costs (back ts us a {s = s} {h = h} {xs = xs} d f) =
      omega (arith, parentheses_append ts (sign a BackSign ∷ us), front_below_operand (applied s h xs), applied_below s h xs, atoms_costs d, tail_costs f)

  tail_costs : {r : Span} {row : Expr} {ts : List Token} {s : Span} {e : Expr} → SpellsTail r row ts s e → cost true e ≤ front_cost row + parentheses ts
  tail_costs (tail_last d) = omega (arith, last_operand_costs d)
  tail_costs (tail_atoms {s = s} {h = h} {xs = xs} d) = omega (arith, last_below_operand (applied s h xs), applied_below s h xs, atoms_costs d)
  tail_costs (tail_more ts us a {s = s} {h = h} {xs = xs} d f) =
      omega (arith, parentheses_append ts (sign a BackSign ∷ us), applied_below s h xs, atoms_costs d, tail_costs f)

  last_body_costs : {ts : List Token} {s : Span} {e : Expr} → SpellsLast ts s e → body_cost e ≤ parentheses ts
  last_body_costs (only_binder d) = (binding_costs d).body
  last_body_costs (atoms_binder ts us d f) = omega (arith, parentheses_append ts us, atoms_costs d, (binding_costs f).argument)

  last_operand_costs : {ts : List Token} {s : Span} {e : Expr} → SpellsLast ts s e → last_cost true e ≤ parentheses ts
  last_operand_costs (only_binder d) = (binding_costs d).last
  last_operand_costs (atoms_binder ts us d f) = omega (arith, parentheses_append ts us, atoms_costs d, (binding_costs f).argument)

  atoms_costs : {ts : List Token} {s : Span} {h : Expr} {xs : Exprs} → SpellsAtoms ts s h xs → atom_cost h + args_cost false xs ≤ parentheses ts
  atoms_costs (first_atom d) = omega (arith, atom_costs d)
  atoms_costs (more_atoms ts us {e = e} d f) = omega (arith, parentheses_append ts us, argument_below_atom e, atoms_costs d, atom_costs f)

  atom_costs : {ts : List Token} {s : Span} {e : Expr} → SpellsAtom ts s e → atom_cost e ≤ parentheses ts
  atom_costs name = omega arith
  atom_costs type_word = omega arith
  atom_costs (parens ts r {e = e} d) = omega (arith, parentheses_append ts (sign r RightParen ∷ []), atom_within e, expr_costs d)

  binding_costs : {ts : List Token} {s : Span} {e : Expr} → SpellsBinding ts s e → CostsAtEnd e (parentheses ts)
  binding_costs (pi ts us r {c = c} {v = v} x d f) =
      let n = parentheses_append ts (sign r RightBrace ∷ us) in
      let variable = behind_token v (sign c ColonSign ∷ (ts ++ (sign r RightBrace ∷ us))) in
      let domain = expr_costs d in
      let body = expr_costs f in
      record { body = omega (arith, n, variable, domain, body); last = omega (arith, n, variable, domain, body); argument = omega (arith, n, variable, domain, body) }
  binding_costs (lam us {r = r} {v = v} x f) =
      let variable = behind_token v (sign r RightBracket ∷ us) in
      let body = expr_costs f in
      record { body = omega (arith, variable, body); last = omega (arith, variable, body); argument = omega (arith, variable, body) }
  binding_costs (typed_lam ts us r {c = c} {v = v} x d f) =
      let n = parentheses_append ts (sign r RightBracket ∷ us) in
      let variable = behind_token v (sign c ColonSign ∷ (ts ++ (sign r RightBracket ∷ us))) in
      let domain = expr_costs d in
      let body = expr_costs f in
      record { body = omega (arith, n, variable, domain, body); last = omega (arith, n, variable, domain, body); argument = omega (arith, n, variable, domain, body) }
