-- The text of modules from those of their parts.
use Rattle.std.proofs.Common.{◌≡◌, ℕ, ◌+◌, ◌<◌, List, [], ◌∷◌, ◌++◌, take, length, slice_index_or, codes, refl, sym, ap, ◌∙◌, append_assoc, append-nil, map, arith}
use Rattle.std.specs.Prelude.{Option, Some, None, flat_map}
use Rattle.text_meaning.specs.Tokens.{spelled}
use Rattle.text_meaning.specs.Trees as trees
use Rattle.mmt_syntax.specs.Readings.{read_words, read_written, read_assigns}
use Rattle.mmt_syntax.specs.declared.written.Written.{Written}
use Rattle.mmt_syntax.specs.declared.assign.Assign.{Assign}
use Rattle.print_meaning.specs.PrintedItems.{Gap, tight, space, new_line, Item, dot_item, right_brace, equal_item, text_of}
use Rattle.print_meaning.specs.PrintedExpressions.{whole_items}
use Rattle.print_meaning.specs.PrintedModules.{morph_items, assign_items, value_items, value_gap, decl_items, module_items, module_text}
use Rattle.print_laws.proofs.LaidOut.{text_append}
use Rattle.twelf_print.specs.Fronts.{spaced, more_words, words_text, assign_front, constant_text, structure_text, decl_front, module_front}
use Rattle.mmt_syntax.proofs.Nodes.{next_taken}
use Rattle.list_laws.proofs.Lists.{map_last, written_then}

-- ---- words

words_are : (w : trees.Written) (ws : List trees.Written) → words_text (w ∷ ws) ≡ text_of (morph_items (w ∷ ws) tight)
unfolding text_of morph_items
words_are w [] = append-nil (spelled w.path ++ tight) ∙ ap (λ t. spelled w.path ++ t) refl
words_are w (v ∷ ws) =
    append_assoc (spelled w.path) tight (more_words (v ∷ ws))
    ∙ ap (λ t. spelled w.path ++ t) (append_assoc space (spelled v.path ++ tight) (more_words ws) ∙ ap (λ t. space ++ t) (words_are v ws))

morph_text : (ws : List trees.Written) → words_text ws ≡ text_of (morph_items ws tight)
unfolding text_of morph_items
morph_text [] = refl
morph_text (w ∷ ws) = words_are w ws

more_last : (ws : List trees.Written) (w : trees.Written) → more_words (ws ++ (w ∷ [])) ≡ more_words ws ++ (space ++ (spelled w.path ++ tight))
more_last [] w = append-nil (space ++ (spelled w.path ++ tight))
more_last (v ∷ ws) w =
    ap (λ t. (space ++ (spelled v.path ++ tight)) ++ t) (more_last ws w)
    ∙ sym (append_assoc (space ++ (spelled v.path ++ tight)) (more_words ws) (space ++ (spelled w.path ++ tight)))

-- the words so far, with one more
pub next_word : (o : List ℕ) {p q r : List ℕ} (ws : List Written) (i : ℕ) (w : Written) → w ≡ slice_index_or ws i w → i < length ws
    → p ≡ o ++ more_words (read_words (take i ws)) → q ≡ p ++ codes " " → r ≡ q ++ (spelled w.path ++ tight)
    → r ≡ o ++ more_words (read_words (take (i + 1) ws))
next_word o {p} {q} {r} ws i w e h a b c =
    let done : List ℕ = more_words (read_words (take i ws)) in
    let piece : List ℕ = space ++ (spelled w.path ++ tight) in
    c ∙ ap (λ t. t ++ (spelled w.path ++ tight)) b ∙ append_assoc p space (spelled w.path ++ tight) ∙ ap (λ t. t ++ piece) a ∙ append_assoc o done piece
    ∙ ap (λ t. o ++ t) (sym (ap (λ xs. more_words (read_words xs)) (next_taken ws i w e h) ∙ ap more_words (map_last read_written (take i ws) w) ∙ more_last (read_words (take i ws)) (read_written w)))

-- ---- assignments and declarations

dot_text : (gap : Gap) → text_of (dot_item gap ∷ []) ≡ codes "." ++ gap
unfolding text_of
dot_text gap = ap (λ t. codes "." ++ t) (append-nil gap)

with_dot : (front : List Item) (gap : Gap) → text_of (front ++ (dot_item gap ∷ [])) ≡ text_of front ++ (codes "." ++ gap)
with_dot front gap = text_append front (dot_item gap ∷ []) ∙ ap (λ t. text_of front ++ t) (dot_text gap)

assign_text : (gap : Gap) (x : trees.Assign) → assign_front x ++ (codes "." ++ gap) ≡ text_of (assign_items gap x)
unfolding text_of
assign_text gap (trees.IncludeAssign m) =
    append_assoc (codes "%include ") (words_text m) (codes "." ++ gap)
    ∙ ap (λ t. codes "%include " ++ t) (ap (λ t. t ++ (codes "." ++ gap)) (morph_text m) ∙ sym (with_dot (morph_items m tight) gap))
assign_text gap (trees.StructAssign t m) =
    append_assoc ((codes "%struct " ++ spaced t) ++ codes ":= ") (words_text m) (codes "." ++ gap)
    ∙ ap (λ x. ((codes "%struct " ++ spaced t) ++ codes ":= ") ++ x) (ap (λ x. x ++ (codes "." ++ gap)) (morph_text m) ∙ sym (with_dot (morph_items m tight) gap))
    ∙ append_assoc (codes "%struct " ++ spaced t) (codes ":= ") (text_of (morph_items m tight ++ (dot_item gap ∷ [])))
    ∙ ap (λ x. codes "%struct " ++ x) (append_assoc (spelled t.path) space (codes ":= " ++ text_of (morph_items m tight ++ (dot_item gap ∷ []))))
assign_text gap (trees.ConstAssign t e) =
    append_assoc (spaced t ++ codes ":= ") (text_of (whole_items e tight)) (codes "." ++ gap)
    ∙ ap (λ x. (spaced t ++ codes ":= ") ++ x) (sym (with_dot (whole_items e tight) gap))
    ∙ append_assoc (spaced t) (codes ":= ") (text_of (whole_items e tight ++ (dot_item gap ∷ [])))
    ∙ append_assoc (spelled t.path) space (codes ":= " ++ text_of (whole_items e tight ++ (dot_item gap ∷ [])))

pub assign_written : (o : List ℕ) {p q r : List ℕ} (gap : Gap) (x : trees.Assign) → p ≡ o ++ assign_front x → q ≡ p ++ codes "." → r ≡ q ++ gap → r ≡ o ++ text_of (assign_items gap x)
assign_written o {p} gap x a b c =
    c ∙ ap (λ t. t ++ gap) b ∙ append_assoc p (codes ".") gap ∙ ap (λ t. t ++ (codes "." ++ gap)) a ∙ append_assoc o (assign_front x) (codes "." ++ gap)
    ∙ ap (λ t. o ++ t) (assign_text gap x)

flat_last : {A : Type 0} (f : A → List Item) (xs : List A) (x : A) → text_of (flat_map f (xs ++ (x ∷ []))) ≡ text_of (flat_map f xs) ++ text_of (f x)
unfolding text_of
flat_last f [] x = ap text_of (append-nil (f x))
flat_last f (y ∷ ys) x =
    text_append (f y) (flat_map f (ys ++ (x ∷ []))) ∙ ap (λ t. text_of (f y) ++ t) (flat_last f ys x) ∙ sym (append_assoc (text_of (f y)) (text_of (flat_map f ys)) (text_of (f x)))
    ∙ ap (λ t. t ++ text_of (f x)) (sym (text_append (f y) (flat_map f ys)))

-- parts of a list that are written so far, with one more
pub next_part : {A B : Type 0} (f : B → List Item) (g : A → B) (o : List ℕ) {p q : List ℕ} (xs : List A) (i : ℕ) (x : A) → x ≡ slice_index_or xs i x → i < length xs
    → p ≡ o ++ text_of (flat_map f (map g (take i xs))) → q ≡ p ++ text_of (f (g x)) → q ≡ o ++ text_of (flat_map f (map g (take (i + 1) xs)))
next_part f g o {p} {q} xs i x e h a b =
    b ∙ ap (λ t. t ++ text_of (f (g x))) a ∙ append_assoc o (text_of (flat_map f (map g (take i xs)))) (text_of (f (g x)))
    ∙ ap (λ t. o ++ t) (sym (ap (λ ys. text_of (flat_map f (map g ys))) (next_taken xs i x e h) ∙ ap (λ ys. text_of (flat_map f ys)) (map_last g (take i xs) x) ∙ flat_last f (map g (take i xs)) (g x)))

-- four pieces, from the right
four : (a b c d : List ℕ) → ((a ++ b) ++ c) ++ d ≡ a ++ (b ++ (c ++ d))
four a b c d = append_assoc (a ++ b) c d ∙ append_assoc a b (c ++ d)

line_text : text_of (dot_item new_line ∷ []) ≡ codes ".\n"
unfolding text_of
line_text = refl

-- a name with a space, in front of what follows
spaced_then : (w : trees.Written) (t : List ℕ) → spaced w ++ t ≡ spelled w.path ++ (space ++ t)
spaced_then w t = append_assoc (spelled w.path) space t

constant_line : (c : trees.Expr) (v : Option trees.Expr) → constant_text c v ++ codes ".\n" ≡ text_of (whole_items c (value_gap v) ++ (value_items v ++ (dot_item new_line ∷ [])))
unfolding text_of
constant_line c None = sym (text_append (whole_items c tight) (dot_item new_line ∷ []))
constant_line c (Some e) =
    append_assoc (text_of (whole_items c space) ++ codes "= ") (text_of (whole_items e tight)) (codes ".\n")
    ∙ append_assoc (text_of (whole_items c space)) (codes "= ") (text_of (whole_items e tight) ++ codes ".\n")
    ∙ ap (λ t. text_of (whole_items c space) ++ (codes "= " ++ t)) (sym (text_append (whole_items e tight) (dot_item new_line ∷ [])))
    ∙ sym (text_append (whole_items c space) (equal_item ∷ (whole_items e tight ++ (dot_item new_line ∷ []))))

body_line : (xs : List Item) → text_of ((xs ++ (right_brace tight ∷ [])) ++ (dot_item new_line ∷ [])) ≡ text_of xs ++ codes "}.\n"
unfolding text_of
body_line xs = ap text_of (append_assoc xs (right_brace tight ∷ []) (dot_item new_line ∷ [])) ∙ text_append xs (right_brace tight ∷ dot_item new_line ∷ [])

decl_text : (d : trees.Decl) → decl_front d ++ codes ".\n" ≡ text_of (decl_items d)
unfolding text_of
decl_text (trees.IncludeDecl w) = ap (λ t. codes "%include " ++ t) (append_assoc (spelled w.path) tight (codes ".\n"))
decl_text (trees.StructDecl n d []) =
    append_assoc ((codes "%struct " ++ spaced n) ++ codes ": ") (spelled d.path ++ tight) (codes ".\n")
    ∙ append_assoc (codes "%struct " ++ spaced n) (codes ": ") ((spelled d.path ++ tight) ++ codes ".\n")
    ∙ ap (λ t. codes "%struct " ++ t) (spaced_then n (codes ": " ++ ((spelled d.path ++ tight) ++ codes ".\n")) ∙ ap (λ t. spelled n.path ++ (space ++ (codes ": " ++ t))) (append_assoc (spelled d.path) tight (codes ".\n")))
decl_text (trees.StructDecl n d (x ∷ xs)) =
    let F : List Item = flat_map (assign_items space) (x ∷ xs) in
    let A : List ℕ = codes "%struct " ++ spaced n in
    let T : List ℕ = text_of F ++ codes "}.\n" in
    append_assoc ((((A ++ codes ": ") ++ spaced d) ++ codes "= { ") ++ text_of F) (codes "}") (codes ".\n")
    ∙ append_assoc (((A ++ codes ": ") ++ spaced d) ++ codes "= { ") (text_of F) (codes "}.\n")
    ∙ append_assoc ((A ++ codes ": ") ++ spaced d) (codes "= { ") T
    ∙ append_assoc (A ++ codes ": ") (spaced d) (codes "= { " ++ T)
    ∙ append_assoc A (codes ": ") (spaced d ++ (codes "= { " ++ T))
    ∙ ap (λ t. codes "%struct " ++ t) (spaced_then n (codes ": " ++ (spaced d ++ (codes "= { " ++ T)))
    ∙ ap (λ t. spelled n.path ++ (space ++ (codes ": " ++ t))) (spaced_then d (codes "= { " ++ T) ∙ ap (λ t. spelled d.path ++ (space ++ (codes "= { " ++ t))) (sym (body_line F))))
decl_text (trees.ConstDecl n c v) =
    append_assoc (spaced n ++ codes ": ") (constant_text c v) (codes ".\n")
    ∙ append_assoc (spaced n) (codes ": ") (constant_text c v ++ codes ".\n")
    ∙ spaced_then n (codes ": " ++ (constant_text c v ++ codes ".\n"))
    ∙ ap (λ t. spelled n.path ++ (space ++ (codes ": " ++ t))) (constant_line c v)

pub decl_written : (o : List ℕ) {p q : List ℕ} (d : trees.Decl) → p ≡ o ++ decl_front d → q ≡ p ++ codes ".\n" → q ≡ o ++ text_of (decl_items d)
decl_written o d a b = b ∙ ap (λ t. t ++ codes ".\n") a ∙ append_assoc o (decl_front d) (codes ".\n") ∙ ap (λ t. o ++ t) (decl_text d)

closing_text : (xs : List Item) → text_of xs ++ codes "}.\n" ≡ text_of (xs ++ (right_brace tight ∷ dot_item new_line ∷ []))
unfolding text_of
closing_text xs = sym (text_append xs (right_brace tight ∷ dot_item new_line ∷ []))

whole_text : (m : trees.Module) → module_front m ++ codes "}.\n" ≡ module_text m
unfolding text_of module_items module_text
whole_text (trees.SigModule n ds) =
    let F : List Item = flat_map decl_items ds in
    append_assoc ((codes "%sig " ++ spaced n) ++ codes "= {\n") (text_of F) (codes "}.\n")
    ∙ append_assoc (codes "%sig " ++ spaced n) (codes "= {\n") (text_of F ++ codes "}.\n")
    ∙ ap (λ t. codes "%sig " ++ t) (spaced_then n (codes "= {\n" ++ (text_of F ++ codes "}.\n")) ∙ ap (λ t. spelled n.path ++ (space ++ (codes "= {\n" ++ t))) (closing_text F))
whole_text (trees.ViewModule n d c xs) =
    let F : List Item = flat_map (assign_items new_line) xs in
    let A : List ℕ = codes "%view " ++ spaced n in
    let T : List ℕ = text_of F ++ codes "}.\n" in
    let U : List ℕ = spaced c ++ (codes "= {\n" ++ T) in
    append_assoc (((((A ++ codes ": ") ++ spaced d) ++ codes "-> ") ++ spaced c) ++ codes "= {\n") (text_of F) (codes "}.\n")
    ∙ append_assoc ((((A ++ codes ": ") ++ spaced d) ++ codes "-> ") ++ spaced c) (codes "= {\n") T
    ∙ append_assoc (((A ++ codes ": ") ++ spaced d) ++ codes "-> ") (spaced c) (codes "= {\n" ++ T)
    ∙ append_assoc ((A ++ codes ": ") ++ spaced d) (codes "-> ") U
    ∙ append_assoc (A ++ codes ": ") (spaced d) (codes "-> " ++ U)
    ∙ append_assoc A (codes ": ") (spaced d ++ (codes "-> " ++ U))
    ∙ ap (λ t. codes "%view " ++ t) (spaced_then n (codes ": " ++ (spaced d ++ (codes "-> " ++ U)))
    ∙ ap (λ t. spelled n.path ++ (space ++ (codes ": " ++ t))) (spaced_then d (codes "-> " ++ U)
    ∙ ap (λ t. spelled d.path ++ (space ++ (codes "-> " ++ t))) (spaced_then c (codes "= {\n" ++ T) ∙ ap (λ t. spelled c.path ++ (space ++ (codes "= {\n" ++ t))) (closing_text F))))

pub module_written : (o : List ℕ) {p q : List ℕ} (m : trees.Module) → o ≡ [] → p ≡ o ++ module_front m → q ≡ p ++ codes "}.\n" → q ≡ module_text m
module_written o m h a b = b ∙ ap (λ t. t ++ codes "}.\n") (a ∙ ap (λ t. t ++ module_front m) h) ∙ whole_text m

-- the pieces of a structure with a body
pub structure_written : (o : List ℕ) {p1 p2 p3 p4 p5 p6 p7 : List ℕ} (n d : trees.Written) (xs : List trees.Assign) → 0 < length xs
    → p1 ≡ o ++ codes "%struct " → p2 ≡ p1 ++ spaced n → p3 ≡ p2 ++ codes ": " → p4 ≡ p3 ++ spaced d → p5 ≡ p4 ++ codes "= { " → p6 ≡ p5 ++ text_of (flat_map (assign_items space) xs) → p7 ≡ p6 ++ codes "}"
    → p7 ≡ o ++ structure_text n d xs
structure_written o n d [] h a b c e f g k = absurd (omega arith)
structure_written o n d (x ∷ xs) h a b c e f g k =
    let t1 : List ℕ = codes "%struct " ++ spaced n in
    let t2 : List ℕ = t1 ++ codes ": " in
    let t3 : List ℕ = t2 ++ spaced d in
    let t4 : List ℕ = t3 ++ codes "= { " in
    let F : List ℕ = text_of (flat_map (assign_items space) (x ∷ xs)) in
    written_then o (t4 ++ F) (codes "}") (written_then o t4 F (written_then o t3 (codes "= { ") (written_then o t2 (spaced d) (written_then o t1 (codes ": ") (written_then o (codes "%struct ") (spaced n) a b) c) e) f) g) k

-- a list that was found to have a length that is not 0
pub some_assigns : (xs : List Assign) (n : ℕ) → n ≡ length xs → (n ≡ 0 → ⊥) → 0 < length (read_assigns xs)
some_assigns [] n e h = absurd (h e)
some_assigns (x ∷ xs) n e h = omega arith
