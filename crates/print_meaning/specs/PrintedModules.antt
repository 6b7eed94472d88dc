-- How modules are printed: one declaration a line (this profile).
use Rattle.std.specs.Prelude.{ℕ, List, [], ◌∷◌, ◌++◌, flat_map, Option, Some, None}
use Rattle.text_meaning.specs.Trees.{Expr, Written, Assign, IncludeAssign, StructAssign, ConstAssign, Decl, IncludeDecl, StructDecl, ConstDecl, Module, SigModule, ViewModule}
use Rattle.print_meaning.specs.PrintedItems.{Gap, tight, space, new_line, Item, path_item, sig_item, view_item, include_item, struct_item, assign_item, colon_item, left_brace, right_brace, dot_item, arrow_item, equal_item, text_of}
use Rattle.print_meaning.specs.PrintedExpressions.{whole_items}

abbrev pub written_item : Written → Gap → Item
written_item w gap = path_item w.path gap

-- the words of a morphism, parted by spaces
unfoldable pub morph_items : List Written → Gap → List Item
morph_items [] gap = []
morph_items (w ∷ []) gap = written_item w gap ∷ []
morph_items (w ∷ v ∷ ws) gap = written_item w space ∷ morph_items (v ∷ ws) gap

-- an assignment, with the gap behind its dot
abbrev pub assign_items : Gap → Assign → List Item
assign_items gap (IncludeAssign m) = include_item ∷ (morph_items m tight ++ (dot_item gap ∷ []))
assign_items gap (StructAssign t m) = struct_item ∷ written_item t space ∷ assign_item ∷ (morph_items m tight ++ (dot_item gap ∷ []))
assign_items gap (ConstAssign t e) = written_item t space ∷ assign_item ∷ (whole_items e tight ++ (dot_item gap ∷ []))

-- the body of a structure, where it has assignments: in one line
abbrev pub body_items : List Assign → List Item
body_items [] = []
body_items (x ∷ xs) = equal_item ∷ left_brace space ∷ (flat_map (assign_items space) (x ∷ xs) ++ (right_brace tight ∷ []))

-- the gap behind the domain of a structure
abbrev pub body_gap : List Assign → Gap
body_gap [] = tight
body_gap (x ∷ xs) = space

-- the value of a constant, where it has one
abbrev pub value_items : Option Expr → List Item
value_items None = []
value_items (Some e) = equal_item ∷ whole_items e tight

abbrev pub value_gap : Option Expr → Gap
value_gap None = tight
value_gap (Some e) = space

-- a declaration, in one line
abbrev pub decl_items : Decl → List Item
decl_items (IncludeDecl w) = include_item ∷ written_item w tight ∷ dot_item new_line ∷ []
decl_items (StructDecl n d xs) =
    struct_item ∷ written_item n space ∷ colon_item ∷ written_item d (body_gap xs) ∷ (body_items xs ++ (dot_item new_line ∷ []))
decl_items (ConstDecl n c v) = written_item n space ∷ colon_item ∷ (whole_items c (value_gap v) ++ (value_items v ++ (dot_item new_line ∷ [])))

-- a module: its first line, a line for each declaration or assignment, and the closing brace
unfoldable pub module_items : Module → List Item
module_items (SigModule n ds) =
    sig_item ∷ written_item n space ∷ equal_item ∷ left_brace new_line ∷ (flat_map decl_items ds ++ (right_brace tight ∷ dot_item new_line ∷ []))
module_items (ViewModule n d c xs) =
    view_item ∷ written_item n space ∷ colon_item ∷ written_item d space ∷ arrow_item ∷ written_item c space ∷ equal_item ∷ left_brace new_line
    ∷ (flat_map (assign_items new_line) xs ++ (right_brace tight ∷ dot_item new_line ∷ []))

-- the printed text of a module, and of an expression
unfoldable pub module_text : Module → List ℕ
module_text m = text_of (module_items m)

unfoldable pub expr_text : Expr → List ℕ
expr_text e = text_of (whole_items e tight)
