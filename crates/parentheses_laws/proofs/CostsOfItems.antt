-- The parentheses among the items of a tree are its cost.
use Rattle.std.proofs.Common.{◌≡◌, ℕ, ◌+◌, Bool, true, false, ◌&&◌, ◌||◌, List, [], ◌∷◌, ◌++◌, length, refl, ap, ap₂, ◌∙◌, arith}
use Rattle.std.specs.Prelude.{Option, Some, None, flat_map, if◌then◌else◌}
use Rattle.text_meaning.specs.Trees.{Binder, Expr, TypeExpr, NameExpr, AppExpr, PiExpr, LamExpr, TypedLamExpr, ArrowExpr, BackExpr, Exprs, NoArgs, ThenArg, Written, Assign, IncludeAssign, StructAssign, ConstAssign, Decl, IncludeDecl, StructDecl, ConstDecl, Module, SigModule, ViewModule}
use Rattle.print_meaning.specs.PrintedItems.{Gap, tight, space, new_line, Item, colon_item, right_paren, right_bracket, right_brace, arrow_item, back_item, dot_item, tokens_of}
use Rattle.print_meaning.specs.PrintedExpressions.{is_word, is_binding, is_operand, is_last_operand, is_back, binder_item, placed, expr_items, args_items}
use Rattle.print_meaning.specs.PrintedModules.{morph_items, assign_items, body_items, value_items, value_gap, decl_items, module_items}
use Rattle.parentheses_laws.specs.FewestParentheses.{is_parenthesis, parentheses}
use Rattle.parentheses_laws.proofs.Costs.{placed_cost, cost, args_cost, assign_cost, assigns_cost, value_cost, decl_cost, decls_cost, module_cost}

-- one more where this holds
abbrev pub counted : Bool → ℕ → ℕ
counted here n = if here then 1 + n else n

-- how many parentheses stand among these items
unfoldable pub item_parentheses : List Item → ℕ
item_parentheses [] = 0
item_parentheses (i ∷ items) = counted (is_parenthesis i.kind) (item_parentheses items)

pub counted_plus : (here : Bool) (n p q : ℕ) → n ≡ p + q → counted here n ≡ counted here p + q
counted_plus true n p q h = omega (arith, h)
counted_plus false n p q h = h

pub item_parentheses_append : (xs ys : List Item) → item_parentheses (xs ++ ys) ≡ item_parentheses xs + item_parentheses ys
unfolding item_parentheses
item_parentheses_append [] ys = omega arith
item_parentheses_append (x ∷ xs) ys = counted_plus (is_parenthesis x.kind) _ _ _ (item_parentheses_append xs ys)

pub token_parentheses : (at : ℕ) (items : List Item) → parentheses (tokens_of at items) ≡ item_parentheses items
unfolding parentheses tokens_of item_parentheses
token_parentheses at [] = refl
token_parentheses at (i ∷ items) = ap (counted (is_parenthesis i.kind)) (token_parentheses (at + length i.bytes + length i.gap) items)

binder_is_none : (x : Binder) (gap : Gap) → is_parenthesis (binder_item x gap).kind ≡ false
binder_is_none (Some n) gap = refl
binder_is_none None gap = refl

-- a binder's variable counts for nothing
behind_binder : (x : Binder) (gap : Gap) (items : List Item) → item_parentheses (binder_item x gap ∷ items) ≡ item_parentheses items
unfolding item_parentheses
behind_binder x gap items = ap (λ b. counted b (item_parentheses items)) (binder_is_none x gap)

placed_items_cost : (bare : Bool) (plain inside : List Item) (gap : Gap) (p i : ℕ) → item_parentheses plain ≡ p → item_parentheses inside ≡ i
    → item_parentheses (placed bare plain inside gap) ≡ placed_cost bare p i
unfolding item_parentheses
placed_items_cost true plain inside gap p i h k = h
placed_items_cost false plain inside gap p i h k = omega (arith, item_parentheses_append inside (right_paren gap ∷ []))

-- items, a token that is no parenthesis, and further items
apart : (xs ys : List Item) (i : Item) (p q : ℕ) → is_parenthesis i.kind ≡ false → item_parentheses xs ≡ p → item_parentheses ys ≡ q → item_parentheses (xs ++ (i ∷ ys)) ≡ p + q
unfolding item_parentheses
apart xs ys i p q n h k = item_parentheses_append xs (i ∷ ys) ∙ ap₂ (λ a b. a + b) h (ap (λ b. counted b (item_parentheses ys)) n ∙ k)

beside : (xs ys : List Item) (p q : ℕ) → item_parentheses xs ≡ p → item_parentheses ys ≡ q → item_parentheses (xs ++ ys) ≡ p + q
beside xs ys p q h k = item_parentheses_append xs ys ∙ ap₂ (λ n m. n + m) h k

mutual
  unfolding expr_items item_parentheses cost

  pub expr_items_cost : (free : Bool) (e : Expr) (gap : Gap) → item_parentheses (expr_items free e gap) ≡ cost free e
  expr_items_cost free (TypeExpr s) gap = refl
  expr_items_cost free (NameExpr s p) gap = refl
  expr_items_cost free (AppExpr s h xs) gap =
      beside (placed (is_word h) (expr_items true h space) (expr_items true h tight) space) (args_items free xs gap) _ _
      (placed_items_cost (is_word h) (expr_items true h space) (expr_items true h tight) space _ _ (expr_items_cost true h space) (expr_items_cost true h tight))
      (args_items_cost free xs gap)
  expr_items_cost free (PiExpr s x a b) gap =
      behind_binder x space (colon_item ∷ (expr_items true a tight ++ (right_brace space ∷ expr_items true b gap)))
      ∙ apart (expr_items true a tight) (expr_items true b gap) (right_brace space) _ _ refl (expr_items_cost true a tight) (expr_items_cost true b gap)
  expr_items_cost free (LamExpr s x b) gap =
      behind_binder x tight (right_bracket space ∷ expr_items true b gap) ∙ expr_items_cost true b gap
  expr_items_cost free (TypedLamExpr s x a b) gap =
      behind_binder x space (colon_item ∷ (expr_items true a tight ++ (right_bracket space ∷ expr_items true b gap)))
      ∙ apart (expr_items true a tight) (expr_items true b gap) (right_bracket space) _ _ refl (expr_items_cost true a tight) (expr_items_cost true b gap)
  expr_items_cost free (ArrowExpr s a b) gap =
      let bare : Bool = if is_back b then false else true in
      apart (placed (is_operand a) (expr_items false a space) (expr_items true a tight) space) (placed bare (expr_items true b gap) (expr_items true b tight) gap) arrow_item _ _ refl
      (placed_items_cost (is_operand a) (expr_items false a space) (expr_items true a tight) space _ _ (expr_items_cost false a space) (expr_items_cost true a tight))
      (placed_items_cost bare (expr_items true b gap) (expr_items true b tight) gap _ _ (expr_items_cost true b gap) (expr_items_cost true b tight))
  expr_items_cost free (BackExpr s b a) gap =
      let front : Bool = is_operand b || is_back b in
      let bare : Bool = if free then is_last_operand a else is_operand a in
      apart (placed front (expr_items false b space) (expr_items true b tight) space) (placed bare (expr_items free a gap) (expr_items true a tight) gap) back_item _ _ refl
      (placed_items_cost front (expr_items false b space) (expr_items true b tight) space _ _ (expr_items_cost false b space) (expr_items_cost true b tight))
      (placed_items_cost bare (expr_items free a gap) (expr_items true a tight) gap _ _ (expr_items_cost free a gap) (expr_items_cost true a tight))

  args_items_cost : (free : Bool) (xs : Exprs) (gap : Gap) → item_parentheses (args_items free xs gap) ≡ args_cost free xs
  args_items_cost free NoArgs gap = refl
  args_items_cost free (ThenArg xs e) gap =
      let bare : Bool = is_word e || (free && is_binding e) in
      beside (args_items false xs space) (placed bare (expr_items true e gap) (expr_items true e tight) gap) _ _ (args_items_cost false xs space)
      (placed_items_cost bare (expr_items true e gap) (expr_items true e tight) gap _ _ (expr_items_cost true e gap) (expr_items_cost true e tight))

-- ---- modules

-- words of morphisms
morph_costs_none : (ws : List Written) (gap : Gap) → item_parentheses (morph_items ws gap) ≡ 0
unfolding morph_items item_parentheses
morph_costs_none [] gap = refl
morph_costs_none (w ∷ []) gap = refl
morph_costs_none (w ∷ v ∷ ws) gap = morph_costs_none (v ∷ ws) gap

-- items, and one behind them that is no parenthesis
closed : (xs ys : List Item) (p : ℕ) → item_parentheses ys ≡ 0 → item_parentheses xs ≡ p → item_parentheses (xs ++ ys) ≡ p
closed xs ys p n h = omega (arith, item_parentheses_append xs ys)

assign_items_cost : (gap : Gap) (x : Assign) → item_parentheses (assign_items gap x) ≡ assign_cost x
unfolding item_parentheses
assign_items_cost gap (IncludeAssign m) = closed (morph_items m tight) (dot_item gap ∷ []) _ refl (morph_costs_none m tight)
assign_items_cost gap (StructAssign t m) = closed (morph_items m tight) (dot_item gap ∷ []) _ refl (morph_costs_none m tight)
assign_items_cost gap (ConstAssign t e) = closed (expr_items true e tight) (dot_item gap ∷ []) _ refl (expr_items_cost true e tight)

assigns_items_cost : (gap : Gap) (xs : List Assign) → item_parentheses (flat_map (assign_items gap) xs) ≡ assigns_cost xs
unfolding item_parentheses assigns_cost
assigns_items_cost gap [] = refl
assigns_items_cost gap (x ∷ xs) = beside (assign_items gap x) (flat_map (assign_items gap) xs) _ _ (assign_items_cost gap x) (assigns_items_cost gap xs)

body_items_cost : (xs : List Assign) → item_parentheses (body_items xs) ≡ assigns_cost xs
unfolding item_parentheses assigns_cost
body_items_cost [] = refl
body_items_cost (x ∷ xs) = closed (flat_map (assign_items space) (x ∷ xs)) (right_brace tight ∷ []) _ refl (assigns_items_cost space (x ∷ xs))

value_items_cost : (v : Option Expr) → item_parentheses (value_items v) ≡ value_cost v
unfolding item_parentheses
value_items_cost None = refl
value_items_cost (Some e) = expr_items_cost true e tight

decl_items_cost : (d : Decl) → item_parentheses (decl_items d) ≡ decl_cost d
unfolding item_parentheses
decl_items_cost (IncludeDecl w) = refl
decl_items_cost (StructDecl n d xs) = closed (body_items xs) (dot_item new_line ∷ []) _ refl (body_items_cost xs)
decl_items_cost (ConstDecl n c v) =
    beside (expr_items true c (value_gap v)) (value_items v ++ (dot_item new_line ∷ [])) _ _ (expr_items_cost true c (value_gap v))
    (closed (value_items v) (dot_item new_line ∷ []) _ refl (value_items_cost v))

decls_items_cost : (ds : List Decl) → item_parentheses (flat_map decl_items ds) ≡ decls_cost ds
unfolding item_parentheses decls_cost
decls_items_cost [] = refl
decls_items_cost (d ∷ ds) = beside (decl_items d) (flat_map decl_items ds) _ _ (decl_items_cost d) (decls_items_cost ds)

pub module_items_cost : (m : Module) → item_parentheses (module_items m) ≡ module_cost m
unfolding item_parentheses module_items
module_items_cost (SigModule n ds) = closed (flat_map decl_items ds) (right_brace tight ∷ dot_item new_line ∷ []) _ refl (decls_items_cost ds)
module_items_cost (ViewModule n d c xs) = closed (flat_map (assign_items new_line) xs) (right_brace tight ∷ dot_item new_line ∷ []) _ refl (assigns_items_cost new_line xs)
