-- Reading goes by steps.
use Rattle.std.proofs.Common.{◌≡◌, ℕ, None, List, [], ◌∷◌, ◌++◌, length, refl, sym, ap, subst, ◌∙◌}
use Rattle.text_meaning.specs.Tokens.{Span, Sign, Mark, Token, sign, RightParen, RightBracket, RightBrace, ColonSign, EqualSign, DotSign, EndSign}
use Rattle.text_meaning.specs.Trees.{Expr}
use Rattle.text_meaning.specs.Nesting.{Nesting}
use Rattle.text_meaning.specs.Parsing.{State, AtOperand, Waiting, step, level, run, levels, resume}

pub run-append : (s : State) (ts us : List Token) → run s (ts ++ us) ≡ run (run s ts) us
unfolding run
run-append s [] us = refl
run-append s (t ∷ ts) us = run-append (step s t) ts us

pub levels-append : (s : State) (ts us : List Token) → levels s (ts ++ us) ≡ levels s ts ++ levels (run s ts) us
unfolding run levels
levels-append s [] us = refl
levels-append s (t ∷ ts) us = ap (λ l. level s t.kind ∷ l) (levels-append (step s t) ts us)

pub run-cons : (s : State) (t : Token) (ts : List Token) → run s (t ∷ ts) ≡ run (step s t) ts
unfolding run
run-cons s t ts = refl

pub length-levels : (s : State) (ts : List Token) → length (levels s ts) ≡ length ts
unfolding levels
length-levels s [] = refl
length-levels s (t ∷ ts) = ap ℕ.suc (length-levels (step s t) ts)

-- Tokens lead from one state to another, and stand at these nestings.
pub record Reads (s : State) (ts : List Token) (ns : List Nesting) (u : State) : Type 0 where
  pub to : run s ts ≡ u
  pub at : levels s ts ≡ ns

pub nothing : (s : State) → Reads s [] [] s
unfolding run levels
nothing s = record { to = refl; at = refl }

pub first : {s u : State} {ns : List Nesting} (t : Token) (ts : List Token) → Reads (step s t) ts ns u → Reads s (t ∷ ts) (level s t.kind ∷ ns) u
unfolding run levels
first {s = s} t ts r = record { to = r.to; at = ap (λ l. level s t.kind ∷ l) r.at }

pub then : {s u v : State} {ns ms : List Nesting} (ts us : List Token) → Reads s ts ns u → Reads u us ms v → Reads s (ts ++ us) (ns ++ ms) v
then {s = s} {u = u} {v = v} {ns = ns} {ms = ms} ts us r q =
    record {
      to = run-append s ts us ∙ ap (λ x. run x us) r.to ∙ q.to;
      at = levels-append s ts us ∙ ap (λ x. levels s ts ++ levels x us) r.to ∙ ap (λ l. l ++ levels u us) r.at ∙ ap (λ l. ns ++ l) q.at;
    }

-- the signs that can follow an expression
pub data IsAfter : Sign → Type 0 where
  right_paren : IsAfter RightParen
  right_bracket : IsAfter RightBracket
  right_brace : IsAfter RightBrace
  colon : IsAfter ColonSign
  equal : IsAfter EqualSign
  dot : IsAfter DotSign
  end : IsAfter EndSign

-- In this state an expression is whole: any of those signs resumes what waits for it.
abbrev pub IsWhole : State → Waiting → Span → Expr → Type 0
IsWhole s k a e = (m : Sign) (z : Span) → IsAfter m → step s (sign z m) ≡ resume k a e (sign z m)

-- Tokens lead to such a state.
pub record ReadsWhole (s : State) (ts : List Token) (ns : List Nesting) (k : Waiting) (a : Span) (e : Expr) : Type 0 where
  pub ends : State
  pub reads : Reads s ts ns ends
  pub whole : IsWhole ends k a e

pub first_whole : {s : State} {ns : List Nesting} {k : Waiting} {a : Span} {e : Expr} (t : Token) (ts : List Token)
    → ReadsWhole (step s t) ts ns k a e → ReadsWhole s (t ∷ ts) (level s t.kind ∷ ns) k a e
first_whole t ts r = record { ends = r.ends; reads = first t ts r.reads; whole = r.whole }

pub then_whole : {s u : State} {ns ms : List Nesting} {k : Waiting} {a : Span} {e : Expr} (ts us : List Token)
    → Reads s ts ns u → ReadsWhole u us ms k a e → ReadsWhole s (ts ++ us) (ns ++ ms) k a e
then_whole ts us r q = record { ends = q.ends; reads = then ts us r q.reads; whole = q.whole }

-- such a sign stands at no nesting
pub after_level : {m : Sign} → IsAfter m → (v : State) → level v (Mark m) ≡ None
after_level h (AtOperand n row xs k) = at_no_operand h
  where
    at_no_operand : {m : Sign} → IsAfter m → level (AtOperand n row xs k) (Mark m) ≡ None
    at_no_operand right_paren = refl
    at_no_operand right_bracket = refl
    at_no_operand right_brace = refl
    at_no_operand colon = refl
    at_no_operand equal = refl
    at_no_operand dot = refl
    at_no_operand end = refl
after_level h v = refl

-- an expression, the sign behind it, and what follows
pub whole_then : {s u : State} {ns ms : List Nesting} {k : Waiting} {a : Span} {e : Expr} (ts us : List Token) (m : Sign) (z : Span) → IsAfter m
    → ReadsWhole s ts ns k a e → Reads (resume k a e (sign z m)) us ms u → Reads s (ts ++ (sign z m ∷ us)) (ns ++ (None ∷ ms)) u
whole_then {u = u} {ms = ms} ts us m z h r q =
    let next : Reads (step r.ends (sign z m)) us ms u = subst (λ v. Reads v us ms u) (sym (r.whole m z h)) q in
    let over : Reads r.ends (sign z m ∷ us) (None ∷ ms) u = subst (λ l. Reads r.ends (sign z m ∷ us) (l ∷ ms) u) (after_level h r.ends) (first (sign z m) us next) in
    then ts (sign z m ∷ us) r.reads over

pub whole_then_whole : {s : State} {ns ms : List Nesting} {k l : Waiting} {a b : Span} {e f : Expr} (ts us : List Token) (m : Sign) (z : Span) → IsAfter m
    → ReadsWhole s ts ns k a e → ReadsWhole (resume k a e (sign z m)) us ms l b f → ReadsWhole s (ts ++ (sign z m ∷ us)) (ns ++ (None ∷ ms)) l b f
whole_then_whole ts us m z h r q = record { ends = q.ends; reads = whole_then ts us m z h r q.reads; whole = q.whole }
