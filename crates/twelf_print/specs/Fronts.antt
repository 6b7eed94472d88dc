-- The parts of a printed module that are written by themselves.
use Rattle.std.specs.Prelude.{ℕ, List, [], ◌∷◌, ◌++◌, codes, flat_map, Option, Some, None}
use Rattle.text_meaning.specs.Tokens.{spelled}
use Rattle.text_meaning.specs.Trees.{Expr, Written, Assign, IncludeAssign, StructAssign, ConstAssign, Decl, IncludeDecl, StructDecl, ConstDecl, Module, SigModule, ViewModule}
use Rattle.print_meaning.specs.PrintedItems.{tight, space, new_line, text_of}
use Rattle.print_meaning.specs.PrintedExpressions.{whole_items}
use Rattle.print_meaning.specs.PrintedModules.{assign_items, decl_items}

-- a path and a space
abbrev pub spaced : Written → List ℕ
spaced w = spelled w.path ++ space

-- words behind a space each
abbrev pub more_words : List Written → List ℕ
more_words [] = []
more_words (w ∷ ws) = (space ++ (spelled w.path ++ tight)) ++ more_words ws

-- the words of a morphism
abbrev pub words_text : List Written → List ℕ
words_text [] = []
words_text (w ∷ ws) = (spelled w.path ++ tight) ++ more_words ws

-- an assignment up to its dot
abbrev pub assign_front : Assign → List ℕ
assign_front (IncludeAssign m) = codes "%include " ++ words_text m
assign_front (StructAssign t m) = ((codes "%struct " ++ spaced t) ++ codes ":= ") ++ words_text m
assign_front (ConstAssign t e) = (spaced t ++ codes ":= ") ++ text_of (whole_items e tight)

abbrev pub assigns_text : List Assign → List ℕ
assigns_text xs = text_of (flat_map (assign_items new_line) xs)

-- a declaration up to its dot
abbrev pub constant_text : Expr → Option Expr → List ℕ
constant_text c None = text_of (whole_items c tight)
constant_text c (Some v) = (text_of (whole_items c space) ++ codes "= ") ++ text_of (whole_items v tight)

abbrev pub structure_text : Written → Written → List Assign → List ℕ
structure_text n d [] = ((codes "%struct " ++ spaced n) ++ codes ": ") ++ (spelled d.path ++ tight)
structure_text n d (x ∷ xs) =
    (((((codes "%struct " ++ spaced n) ++ codes ": ") ++ spaced d) ++ codes "= { ") ++ text_of (flat_map (assign_items space) (x ∷ xs))) ++ codes "}"

abbrev pub decl_front : Decl → List ℕ
decl_front (IncludeDecl w) = codes "%include " ++ (spelled w.path ++ tight)
decl_front (StructDecl n d xs) = structure_text n d xs
decl_front (ConstDecl n c v) = (spaced n ++ codes ": ") ++ constant_text c v

abbrev pub decls_text : List Decl → List ℕ
decls_text ds = text_of (flat_map decl_items ds)

-- a module up to its closing brace
abbrev pub view_front : Written → Written → Written → List Assign → List ℕ
view_front n d c xs =
    ((((((codes "%view " ++ spaced n) ++ codes ": ") ++ spaced d) ++ codes "-> ") ++ spaced c) ++ codes "= {\n") ++ assigns_text xs

abbrev pub module_front : Module → List ℕ
module_front (SigModule n ds) = ((codes "%sig " ++ spaced n) ++ codes "= {\n") ++ decls_text ds
module_front (ViewModule n d c xs) = view_front n d c xs
