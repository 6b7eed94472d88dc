-- The text of an expression, from those of its parts.
use Rattle.std.proofs.Common.{◌≡◌, ℕ, ◌+◌, ◌<◌, Bool, true, false, ◌&&◌, ◌||◌, List, [], ◌∷◌, ◌++◌, take, length, slice_index_or, codes, refl, sym, ap, ◌∙◌, append_assoc, append-nil, map, fold, arith}
use Rattle.std.specs.Prelude.{if◌then◌else◌}
use Rattle.list_laws.proofs.Lists.{written_then}
use Rattle.name_meaning.specs.Names.{Path}
use Rattle.text_meaning.specs.Tokens.{spelled, dotted}
use Rattle.text_meaning.specs.Trees as trees
use Rattle.text_meaning.specs.UpToSpans.{no_span}
use Rattle.base_types.specs.declared.path.Path as code
use Rattle.mmt_syntax.specs.Readings.{read_span, read_node, read_expr, read_arguments}
use Rattle.mmt_syntax.specs.declared.expr.Expr.{Expr}
use Rattle.mmt_syntax.specs.declared.expr.Node.TheVariants as nodes
use Rattle.mmt_syntax.proofs.ReadingEquations.{read_expr_is, read_node_ty, read_node_name}
use Rattle.mmt_syntax.proofs.Nodes.{next_taken, read_last}
use Rattle.print_meaning.specs.PrintedItems.{Gap, tight, space, Item, path_item, type_item, arrow_item, back_item, right_brace, right_bracket, left_paren, right_paren, text_of}
use Rattle.print_meaning.specs.PrintedExpressions.{is_word, is_binding, is_operand, is_last_operand, is_back, binder_bytes, placed, expr_items, args_items}
use Rattle.print_laws.proofs.LaidOut.{text_append}
use Rattle.twelf_print.specs.Places.{opening, closing, inner_gap, inner_free}

-- ---- pieces that are written one after another

-- the text of one item with more behind it
pub item_then : (i : Item) (items : List Item) → text_of (i ∷ items) ≡ (i.bytes ++ i.gap) ++ text_of items
unfolding text_of
item_then i items = sym (append_assoc i.bytes i.gap (text_of items))

pub one_item : (i : Item) → text_of (i ∷ []) ≡ i.bytes ++ i.gap
unfolding text_of
one_item i = ap (λ t. i.bytes ++ t) (append-nil i.gap)

-- an expression in its place
placed_text : (bare free : Bool) (e : trees.Expr) (gap : Gap)
    → opening bare ++ (text_of (expr_items (inner_free bare free) e (inner_gap bare gap)) ++ closing bare gap) ≡ text_of (placed bare (expr_items free e gap) (expr_items true e tight) gap)
placed_text true free e gap = append-nil (text_of (expr_items free e gap))
placed_text false free e gap =
    ap (λ t. codes "(" ++ t) (ap (λ t. text_of (expr_items true e tight) ++ t) (sym (one_item (right_paren gap))) ∙ sym (text_append (expr_items true e tight) (right_paren gap ∷ [])))
    ∙ sym (item_then left_paren (expr_items true e tight ++ (right_paren gap ∷ [])))

-- what the three calls write
pub placed_written : (o : List ℕ) {p q r : List ℕ} (bare test free : Bool) (e : trees.Expr) (gap : Gap) → bare ≡ test
    → p ≡ o ++ opening bare → q ≡ p ++ text_of (expr_items (inner_free bare free) e (inner_gap bare gap)) → r ≡ q ++ closing bare gap
    → r ≡ o ++ text_of (placed test (expr_items free e gap) (expr_items true e tight) gap)
placed_written o bare test free e gap same a b c =
    let inside : List ℕ = text_of (expr_items (inner_free bare free) e (inner_gap bare gap)) in
    written_then o (opening bare ++ inside) (closing bare gap) (written_then o (opening bare) inside a b) c
    ∙ ap (λ t. o ++ t) (append_assoc (opening bare) inside (closing bare gap)
    ∙ placed_text bare free e gap ∙ ap (λ (t : Bool). text_of (placed t (expr_items free e gap) (expr_items true e tight) gap)) same)

pub always_free : (bare : Bool) → true ≡ inner_free bare true
always_free true = refl
always_free false = refl

-- the same of a value that is reached twice
pub place_written : (o : List ℕ) {p q r : List ℕ} (bare : Bool) (test : trees.Expr → Bool) (free inside : Bool) (tested printed v : Expr) (gap behind : Gap)
    → bare ≡ test (read_expr tested) → tested ≡ v → printed ≡ v → inside ≡ inner_free bare free → behind ≡ inner_gap bare gap
    → p ≡ o ++ opening bare → q ≡ p ++ text_of (expr_items inside (read_expr printed) behind) → r ≡ q ++ closing bare gap
    → r ≡ o ++ text_of (placed (test (read_expr v)) (expr_items free (read_expr v) gap) (expr_items true (read_expr v) tight) gap)
place_written o {p} {q} {r} bare test free inside tested printed v gap behind same d1 d2 f g a b c =
    placed_written o bare (test (read_expr v)) free (read_expr v) gap (same ∙ ap (λ e. test (read_expr e)) d1) a
    (b ∙ ap (λ t. p ++ t) (ap (λ (i : Bool). text_of (expr_items i (read_expr printed) behind)) f ∙ ap (λ e. text_of (expr_items (inner_free bare free) (read_expr e) behind)) d2 ∙ ap (λ h. text_of (expr_items (inner_free bare free) (read_expr v) h)) g)) c

pub or_none : (a b : Bool) → a ≡ (a || (false && b))
or_none true b = refl
or_none false b = refl

-- ---- the forms

pub ty_text : (e : Expr) (free : Bool) (gap : Gap) → e.node ≡ nodes.Ty → codes "type" ++ gap ≡ text_of (expr_items free (read_expr e) gap)
unfolding expr_items
ty_text e free gap h =
    sym (ap (λ t. text_of (expr_items free t gap)) (read_expr_is e ∙ ap (λ n. read_node n (read_span e.span)) h ∙ read_node_ty (read_span e.span)) ∙ one_item (type_item gap))

pub name_text : (e : Expr) (p : code.Path) (free : Bool) (gap : Gap) → e.node ≡ nodes.Name p → spelled p ++ gap ≡ text_of (expr_items free (read_expr e) gap)
unfolding expr_items
name_text e p free gap h =
    sym (ap (λ t. text_of (expr_items free t gap)) (read_expr_is e ∙ ap (λ n. read_node n (read_span e.span)) h ∙ read_node_name p (read_span e.span)) ∙ one_item (path_item p gap))

pub app_text : (h : trees.Expr) (xs : trees.Exprs) (free : Bool) (gap : Gap)
    → text_of (placed (is_word h) (expr_items true h space) (expr_items true h tight) space) ++ text_of (args_items free xs gap)
    ≡ text_of (expr_items free (trees.AppExpr no_span h xs) gap)
unfolding expr_items
app_text h xs free gap =
    sym (text_append (placed (is_word h) (expr_items true h space) (expr_items true h tight) space) (args_items free xs gap))

-- `{x : A} B` in the pieces that are written
pub pi_text : (x : trees.Binder) (a b : trees.Expr) (gap : Gap)
    → ((((codes "{" ++ (binder_bytes x ++ space)) ++ codes ": ") ++ text_of (expr_items true a tight)) ++ codes "} ") ++ text_of (expr_items true b gap)
    ≡ text_of (expr_items true (trees.PiExpr no_span x a b) gap)
unfolding expr_items text_of
pi_text x a b gap =
    let A : List Item = expr_items true a tight in
    let B : List Item = expr_items true b gap in
    let parts : text_of (A ++ (right_brace space ∷ B)) ≡ text_of A ++ (codes "} " ++ text_of B) = text_append A (right_brace space ∷ B) in
    append_assoc (((codes "{" ++ (binder_bytes x ++ space)) ++ codes ": ") ++ text_of A) (codes "} ") (text_of B)
    ∙ append_assoc ((codes "{" ++ (binder_bytes x ++ space)) ++ codes ": ") (text_of A) (codes "} " ++ text_of B)
    ∙ ap (λ t. ((codes "{" ++ (binder_bytes x ++ space)) ++ codes ": ") ++ t) (sym parts)
    ∙ append_assoc (codes "{" ++ (binder_bytes x ++ space)) (codes ": ") (text_of (A ++ (right_brace space ∷ B)))
    ∙ ap (λ t. codes "{" ++ t) (append_assoc (binder_bytes x) space (codes ": " ++ text_of (A ++ (right_brace space ∷ B))))

pub typed_lam_text : (x : trees.Binder) (a b : trees.Expr) (gap : Gap)
    → ((((codes "[" ++ (binder_bytes x ++ space)) ++ codes ": ") ++ text_of (expr_items true a tight)) ++ codes "] ") ++ text_of (expr_items true b gap)
    ≡ text_of (expr_items true (trees.TypedLamExpr no_span x a b) gap)
unfolding expr_items text_of
typed_lam_text x a b gap =
    let A : List Item = expr_items true a tight in
    let B : List Item = expr_items true b gap in
    let parts : text_of (A ++ (right_bracket space ∷ B)) ≡ text_of A ++ (codes "] " ++ text_of B) = text_append A (right_bracket space ∷ B) in
    append_assoc (((codes "[" ++ (binder_bytes x ++ space)) ++ codes ": ") ++ text_of A) (codes "] ") (text_of B)
    ∙ append_assoc ((codes "[" ++ (binder_bytes x ++ space)) ++ codes ": ") (text_of A) (codes "] " ++ text_of B)
    ∙ ap (λ t. ((codes "[" ++ (binder_bytes x ++ space)) ++ codes ": ") ++ t) (sym parts)
    ∙ append_assoc (codes "[" ++ (binder_bytes x ++ space)) (codes ": ") (text_of (A ++ (right_bracket space ∷ B)))
    ∙ ap (λ t. codes "[" ++ t) (append_assoc (binder_bytes x) space (codes ": " ++ text_of (A ++ (right_bracket space ∷ B))))

pub lam_text : (x : trees.Binder) (b : trees.Expr) (gap : Gap)
    → ((codes "[" ++ (binder_bytes x ++ tight)) ++ codes "] ") ++ text_of (expr_items true b gap) ≡ text_of (expr_items true (trees.LamExpr no_span x b) gap)
unfolding expr_items text_of
lam_text x b gap =
    let B : List Item = expr_items true b gap in
    append_assoc (codes "[" ++ (binder_bytes x ++ tight)) (codes "] ") (text_of B)
    ∙ ap (λ t. codes "[" ++ t) (append_assoc (binder_bytes x) tight (codes "] " ++ text_of B))

pub arrow_text : (a b : trees.Expr) (gap : Gap)
    → (text_of (placed (is_operand a) (expr_items false a space) (expr_items true a tight) space) ++ codes "-> ")
    ++ text_of (placed (if is_back b then false else true) (expr_items true b gap) (expr_items true b tight) gap)
    ≡ text_of (expr_items true (trees.ArrowExpr no_span a b) gap)
unfolding expr_items text_of
arrow_text a b gap =
    let A : List Item = placed (is_operand a) (expr_items false a space) (expr_items true a tight) space in
    let B : List Item = placed (if is_back b then false else true) (expr_items true b gap) (expr_items true b tight) gap in
    append_assoc (text_of A) (codes "-> ") (text_of B) ∙ sym (text_append A (arrow_item ∷ B))

pub back_text : (b a : trees.Expr) (free : Bool) (gap : Gap)
    → (text_of (placed (is_operand b || is_back b) (expr_items false b space) (expr_items true b tight) space) ++ codes "<- ")
    ++ text_of (placed (if free then is_last_operand a else is_operand a) (expr_items free a gap) (expr_items true a tight) gap)
    ≡ text_of (expr_items free (trees.BackExpr no_span b a) gap)
unfolding expr_items text_of
back_text b a free gap =
    let B : List Item = placed (is_operand b || is_back b) (expr_items false b space) (expr_items true b tight) space in
    let A : List Item = placed (if free then is_last_operand a else is_operand a) (expr_items free a gap) (expr_items true a tight) gap in
    append_assoc (text_of B) (codes "<- ") (text_of A) ∙ sym (text_append B (back_item ∷ A))

-- ---- rows

-- the text of arguments with one more behind them
pub args_text : (es : List Expr) (e : Expr) (free : Bool) (gap : Gap)
    → text_of (args_items false (read_arguments es) space) ++ text_of (placed (is_word (read_expr e) || (free && is_binding (read_expr e))) (expr_items true (read_expr e) gap) (expr_items true (read_expr e) tight) gap)
    ≡ text_of (args_items free (read_arguments (es ++ (e ∷ []))) gap)
unfolding expr_items
args_text es e free gap =
    sym (ap (λ xs. text_of (args_items free xs gap)) (read_last es e)
    ∙ text_append (args_items false (read_arguments es) space) (placed (is_word (read_expr e) || (free && is_binding (read_expr e))) (expr_items true (read_expr e) gap) (expr_items true (read_expr e) tight) gap))

-- the names of a path so far, with one more
pub dotted_next : (names : Path) (i : ℕ) (n : List ℕ) → n ≡ slice_index_or names i n → i < length names → dotted (take (i + 1) names) ≡ dotted (take i names) ++ (46 ∷ n)
dotted_next names i n e h = ap dotted (next_taken names i n e h) ∙ dotted_last (take i names) n
  where
    dotted_last : (xs : Path) (n : List ℕ) → dotted (xs ++ (n ∷ [])) ≡ dotted xs ++ (46 ∷ n)
    dotted_last [] n = ap (λ t. 46 ∷ t) (append-nil n)
    dotted_last (x ∷ xs) n = ap (λ t. 46 ∷ (x ++ t)) (dotted_last xs n) ∙ ap (λ t. 46 ∷ t) (sym (append_assoc x (dotted xs) (46 ∷ n)))

-- ---- what is written of each form

pub pi_written : (o : List ℕ) {p1 p2 p3 p4 p5 p6 : List ℕ} (x : trees.Binder) (a b : trees.Expr) (gap : Gap)
    → p1 ≡ o ++ codes "{" → p2 ≡ p1 ++ (binder_bytes x ++ space) → p3 ≡ p2 ++ codes ": " → p4 ≡ p3 ++ text_of (expr_items true a tight)
    → p5 ≡ p4 ++ codes "} " → p6 ≡ p5 ++ text_of (expr_items true b gap) → p6 ≡ o ++ text_of (expr_items true (trees.PiExpr no_span x a b) gap)
pi_written o x a b gap q1 q2 q3 q4 q5 q6 =
    let t2 : List ℕ = codes "{" ++ (binder_bytes x ++ space) in
    let A : List ℕ = text_of (expr_items true a tight) in
    let B : List ℕ = text_of (expr_items true b gap) in
    written_then o (((t2 ++ codes ": ") ++ A) ++ codes "} ") B
    (written_then o ((t2 ++ codes ": ") ++ A) (codes "} ") (written_then o (t2 ++ codes ": ") A (written_then o t2 (codes ": ") (written_then o (codes "{") (binder_bytes x ++ space) q1 q2) q3) q4) q5) q6
    ∙ ap (λ t. o ++ t) (pi_text x a b gap)

pub typed_lam_written : (o : List ℕ) {p1 p2 p3 p4 p5 p6 : List ℕ} (x : trees.Binder) (a b : trees.Expr) (gap : Gap)
    → p1 ≡ o ++ codes "[" → p2 ≡ p1 ++ (binder_bytes x ++ space) → p3 ≡ p2 ++ codes ": " → p4 ≡ p3 ++ text_of (expr_items true a tight)
    → p5 ≡ p4 ++ codes "] " → p6 ≡ p5 ++ text_of (expr_items true b gap) → p6 ≡ o ++ text_of (expr_items true (trees.TypedLamExpr no_span x a b) gap)
typed_lam_written o x a b gap q1 q2 q3 q4 q5 q6 =
    let t2 : List ℕ = codes "[" ++ (binder_bytes x ++ space) in
    let A : List ℕ = text_of (expr_items true a tight) in
    let B : List ℕ = text_of (expr_items true b gap) in
    written_then o (((t2 ++ codes ": ") ++ A) ++ codes "] ") B
    (written_then o ((t2 ++ codes ": ") ++ A) (codes "] ") (written_then o (t2 ++ codes ": ") A (written_then o t2 (codes ": ") (written_then o (codes "[") (binder_bytes x ++ space) q1 q2) q3) q4) q5) q6
    ∙ ap (λ t. o ++ t) (typed_lam_text x a b gap)

pub lam_written : (o : List ℕ) {p1 p2 p3 p4 : List ℕ} (x : trees.Binder) (b : trees.Expr) (gap : Gap)
    → p1 ≡ o ++ codes "[" → p2 ≡ p1 ++ (binder_bytes x ++ tight) → p3 ≡ p2 ++ codes "] " → p4 ≡ p3 ++ text_of (expr_items true b gap)
    → p4 ≡ o ++ text_of (expr_items true (trees.LamExpr no_span x b) gap)
lam_written o x b gap q1 q2 q3 q4 =
    let t2 : List ℕ = codes "[" ++ (binder_bytes x ++ tight) in
    written_then o (t2 ++ codes "] ") (text_of (expr_items true b gap)) (written_then o t2 (codes "] ") (written_then o (codes "[") (binder_bytes x ++ tight) q1 q2) q3) q4
    ∙ ap (λ t. o ++ t) (lam_text x b gap)

pub app_written : (o : List ℕ) {p q : List ℕ} (h : trees.Expr) (xs : trees.Exprs) (free : Bool) (gap : Gap)
    → p ≡ o ++ text_of (placed (is_word h) (expr_items true h space) (expr_items true h tight) space)
    → q ≡ p ++ text_of (args_items free xs gap) → q ≡ o ++ text_of (expr_items free (trees.AppExpr no_span h xs) gap)
app_written o h xs free gap a b =
    written_then o (text_of (placed (is_word h) (expr_items true h space) (expr_items true h tight) space)) (text_of (args_items free xs gap)) a b
    ∙ ap (λ t. o ++ t) (app_text h xs free gap)

pub arrow_written : (o : List ℕ) {p q r : List ℕ} (a b : trees.Expr) (gap : Gap)
    → p ≡ o ++ text_of (placed (is_operand a) (expr_items false a space) (expr_items true a tight) space)
    → q ≡ p ++ codes "-> "
    → r ≡ q ++ text_of (placed (if is_back b then false else true) (expr_items true b gap) (expr_items true b tight) gap)
    → r ≡ o ++ text_of (expr_items true (trees.ArrowExpr no_span a b) gap)
arrow_written o a b gap f g h =
    let A : List ℕ = text_of (placed (is_operand a) (expr_items false a space) (expr_items true a tight) space) in
    let B : List ℕ = text_of (placed (if is_back b then false else true) (expr_items true b gap) (expr_items true b tight) gap) in
    written_then o (A ++ codes "-> ") B (written_then o A (codes "-> ") f g) h ∙ ap (λ t. o ++ t) (arrow_text a b gap)

pub back_written : (o : List ℕ) {p q r : List ℕ} (b a : trees.Expr) (free : Bool) (gap : Gap)
    → p ≡ o ++ text_of (placed (is_operand b || is_back b) (expr_items false b space) (expr_items true b tight) space)
    → q ≡ p ++ codes "<- "
    → r ≡ q ++ text_of (placed (if free then is_last_operand a else is_operand a) (expr_items free a gap) (expr_items true a tight) gap)
    → r ≡ o ++ text_of (expr_items free (trees.BackExpr no_span b a) gap)
back_written o b a free gap f g h =
    let B : List ℕ = text_of (placed (is_operand b || is_back b) (expr_items false b space) (expr_items true b tight) space) in
    let A : List ℕ = text_of (placed (if free then is_last_operand a else is_operand a) (expr_items free a gap) (expr_items true a tight) gap) in
    written_then o (B ++ codes "<- ") A (written_then o B (codes "<- ") f g) h ∙ ap (λ t. o ++ t) (back_text b a free gap)

-- arguments so far, with one more
pub args_written : (o : List ℕ) {p q : List ℕ} (done all : List Expr) (e : Expr) (free : Bool) (gap : Gap) → all ≡ done ++ (e ∷ [])
    → p ≡ o ++ text_of (args_items false (read_arguments done) space)
    → q ≡ p ++ text_of (placed (is_word (read_expr e) || (free && is_binding (read_expr e))) (expr_items true (read_expr e) gap) (expr_items true (read_expr e) tight) gap)
    → q ≡ o ++ text_of (args_items free (read_arguments all) gap)
args_written o done all e free gap same a b =
    written_then o (text_of (args_items false (read_arguments done) space)) (text_of (placed (is_word (read_expr e) || (free && is_binding (read_expr e))) (expr_items true (read_expr e) gap) (expr_items true (read_expr e) tight) gap)) a b
    ∙ ap (λ t. o ++ t) (args_text done e free gap ∙ ap (λ es. text_of (args_items free (read_arguments es) gap)) (sym same))

-- no arguments
pub args_none : (o : List ℕ) (slice es : List Expr) (free : Bool) (gap : Gap) → slice ≡ es → length slice ≡ 0 → o ≡ o ++ text_of (args_items free (read_arguments es) gap)
unfolding text_of args_items
args_none o slice es free gap same h = by es (ap (λ xs. length xs) (sym same) ∙ h)
  where
    by : (xs : List Expr) → length xs ≡ 0 → o ≡ o ++ text_of (args_items free (read_arguments xs) gap)
    by [] e = sym (append-nil o)
    by (x ∷ xs) e = absurd (omega arith)
