-- The items of a module end each before what follows it.
use Rattle.std.proofs.Common.{◌≡◌, ℕ, true, List, [], ◌∷◌, ◌++◌, codes, refl, subst, sym, arith, IsUtf8}
use Rattle.std.specs.Prelude.{Option, Some, None, flat_map}
use Rattle.text_meaning.specs.Tokens.{LeftBrace, RightBrace}
use Rattle.text_meaning.specs.Cut.{ends_row}
use Rattle.text_meaning.specs.Trees.{Expr, Written, Assign, IncludeAssign, StructAssign, ConstAssign, Decl, IncludeDecl, StructDecl, ConstDecl, Module, SigModule, ViewModule}
use Rattle.print_meaning.specs.PrintedItems.{Gap, tight, space, new_line, sig_item, view_item, include_item, struct_item, right_brace, dot_item, arrow_item, equal_item, text_of}
use Rattle.print_meaning.specs.PrintedExpressions.{whole_items}
use Rattle.print_meaning.specs.PrintedModules.{written_item, morph_items, assign_items, body_items, body_gap, value_items, value_gap, decl_items, module_items}
use Rattle.print_laws.proofs.LaidOut.{IsFit, IsLaid, laid_append}
use Rattle.print_laws.proofs.Writable.{IsWritable}
use Rattle.print_laws.proofs.WellWritten.{IsWellWritten, IsWrittenName, AreWrittenWords, IsWrittenAssign, AreWrittenAssigns, IsWrittenValue, IsWrittenDecl, AreWrittenDecls, IsWrittenModule}
use Rattle.print_laws.proofs.LaidExpressions.{IsGap, no_gap, one_space, one_line, low_utf8, row_fit, path_fit, bracket_fit, dot_fit, colon_fit, assign_fit, word_fit, expr_laid}

name_path : (w : Written) → IsWrittenName w → IsWritable w.path
name_path w n = subst IsWritable (sym n.is) n.writable

dot_laid : (gap : Gap) (rest : List ℕ) → IsGap gap → IsLaid (dot_item gap ∷ []) rest
dot_laid gap rest g = (dot_fit gap _ g, tt)

equal_fit : (behind : List ℕ) → IsFit equal_item (32 ∷ behind)
equal_fit behind = row_fit (codes "=" ∷ []) space (32 ∷ behind) refl (low_utf8 (61 ∷ []) (omega arith, tt)) one_space refl

arrow_fit : (behind : List ℕ) → IsFit arrow_item (32 ∷ behind)
arrow_fit behind = row_fit (codes "->" ∷ []) space (32 ∷ behind) refl (low_utf8 (45 ∷ 62 ∷ []) (omega arith, (omega arith, tt))) one_space refl

brace_utf8 : IsUtf8 (123 ∷ [])
brace_utf8 = low_utf8 (123 ∷ []) (omega arith, tt)

closing_utf8 : IsUtf8 (125 ∷ [])
closing_utf8 = low_utf8 (125 ∷ []) (omega arith, tt)

sig_fit : (behind : List ℕ) → IsFit sig_item (32 ∷ behind)
sig_fit behind = word_fit (codes "sig") behind refl (low_utf8 (codes "%sig") (omega arith, (omega arith, (omega arith, (omega arith, tt)))))

view_fit : (behind : List ℕ) → IsFit view_item (32 ∷ behind)
view_fit behind = word_fit (codes "view") behind refl (low_utf8 (codes "%view") (omega arith, (omega arith, (omega arith, (omega arith, (omega arith, tt))))))

include_fit : (behind : List ℕ) → IsFit include_item (32 ∷ behind)
include_fit behind = word_fit (codes "include") behind refl (low_utf8 (codes "%include") (omega arith, (omega arith, (omega arith, (omega arith, (omega arith, (omega arith, (omega arith, (omega arith, tt)))))))))

struct_fit : (behind : List ℕ) → IsFit struct_item (32 ∷ behind)
struct_fit behind = word_fit (codes "struct") behind refl (low_utf8 (codes "%struct") (omega arith, (omega arith, (omega arith, (omega arith, (omega arith, (omega arith, (omega arith, tt))))))))

morph_laid : (ws : List Written) (rest : List ℕ) → AreWrittenWords ws → ends_row (tight ++ rest) ≡ true → IsLaid (morph_items ws tight) rest
unfolding morph_items text_of
morph_laid [] rest w h = tt
morph_laid (v ∷ []) rest w h = (path_fit v.path tight _ w.0 no_gap h, tt)
morph_laid (v ∷ u ∷ ws) rest w h = (path_fit v.path space _ w.0 one_space refl, morph_laid (u ∷ ws) rest w.1 h)

-- before a dot that has a gap of one byte behind it
pub record IsDotGap (gap : Gap) : Type 0 where
  pub is : IsGap gap
  pub ends : (rest : List ℕ) → ends_row (tight ++ (text_of (dot_item gap ∷ []) ++ rest)) ≡ true

pub line_behind : IsDotGap new_line
unfolding text_of
line_behind = record { is = one_line; ends = λ rest. refl }

pub space_behind : IsDotGap space
unfolding text_of
space_behind = record { is = one_space; ends = λ rest. refl }

assign_laid : (gap : Gap) (x : Assign) (rest : List ℕ) → IsDotGap gap → IsWrittenAssign x → IsLaid (assign_items gap x) rest
unfolding text_of
assign_laid gap (IncludeAssign m) rest g w =
    (include_fit _, laid_append (morph_items m tight) (dot_item gap ∷ []) rest (morph_laid m _ w.1 (g.ends rest)) (dot_laid gap rest g.is))
assign_laid gap (StructAssign t m) rest g w = (
  struct_fit _,
  (
    path_fit t.path space _ w.0 one_space refl,
    (
      assign_fit _,
      laid_append (morph_items m tight) (dot_item gap ∷ []) rest (morph_laid m _ w.1.1 (g.ends rest)) (dot_laid gap rest g.is),
    ),
  ),
)
assign_laid gap (ConstAssign t e) rest g w = (
  path_fit t.path space _ w.0 one_space refl,
  (
    assign_fit _,
    laid_append (whole_items e tight) (dot_item gap ∷ []) rest (expr_laid true e tight _ w.1 no_gap (g.ends rest)) (dot_laid gap rest g.is),
  ),
)

assigns_laid : (gap : Gap) (xs : List Assign) (rest : List ℕ) → IsDotGap gap → AreWrittenAssigns xs → IsLaid (flat_map (assign_items gap) xs) rest
assigns_laid gap [] rest g w = tt
assigns_laid gap (x ∷ xs) rest g w =
    laid_append (assign_items gap x) (flat_map (assign_items gap) xs) rest (assign_laid gap x _ g w.0) (assigns_laid gap xs rest g w.1)

body_laid : (xs : List Assign) (rest : List ℕ) → AreWrittenAssigns xs → IsLaid (body_items xs) rest
unfolding text_of
body_laid [] rest w = tt
body_laid (x ∷ xs) rest w = (
  equal_fit _,
  (
    bracket_fit 123 LeftBrace space _ refl brace_utf8 one_space,
    laid_append (flat_map (assign_items space) (x ∷ xs)) (right_brace tight ∷ []) rest (assigns_laid space (x ∷ xs) _ space_behind w)
        (bracket_fit 125 RightBrace tight _ refl closing_utf8 no_gap, tt),
  ),
)

domain_fit : (d : Written) (xs : List Assign) (rest : List ℕ) → IsWrittenName d → IsFit (written_item d (body_gap xs)) (body_gap xs ++ (text_of (body_items xs ++ (dot_item new_line ∷ [])) ++ rest))
unfolding text_of
domain_fit d [] rest w = path_fit d.path tight _ (name_path d w) no_gap refl
domain_fit d (x ∷ xs) rest w = path_fit d.path space _ (name_path d w) one_space refl

class_laid : (c : Expr) (v : Option Expr) (rest : List ℕ) → IsWellWritten c → IsLaid (whole_items c (value_gap v)) (text_of (value_items v ++ (dot_item new_line ∷ [])) ++ rest)
unfolding text_of
class_laid c None rest w = expr_laid true c tight _ w no_gap refl
class_laid c (Some e) rest w = expr_laid true c space _ w one_space refl

value_laid : (v : Option Expr) (rest : List ℕ) → IsWrittenValue v → IsLaid (value_items v) (text_of (dot_item new_line ∷ []) ++ rest)
unfolding text_of
value_laid None rest w = tt
value_laid (Some e) rest w = (equal_fit _, expr_laid true e tight _ w no_gap refl)

decl_laid : (d : Decl) (rest : List ℕ) → IsWrittenDecl d → IsLaid (decl_items d) rest
unfolding text_of
decl_laid (IncludeDecl w) rest n = (include_fit _, (path_fit w.path tight _ (name_path w n) no_gap refl, dot_laid new_line rest one_line))
decl_laid (StructDecl n d xs) rest w = (
  struct_fit _,
  (
    path_fit n.path space _ (name_path n w.0) one_space refl,
    (
      colon_fit _,
      (
        domain_fit d xs rest w.1,
        laid_append (body_items xs) (dot_item new_line ∷ []) rest (body_laid xs _ w.2) (dot_laid new_line rest one_line),
      ),
    ),
  ),
)
decl_laid (ConstDecl n c v) rest w = (
  path_fit n.path space _ (name_path n w.0) one_space refl,
  (
    colon_fit _,
    laid_append (whole_items c (value_gap v)) (value_items v ++ (dot_item new_line ∷ [])) rest (class_laid c v rest w.1)
        (laid_append (value_items v) (dot_item new_line ∷ []) rest (value_laid v rest w.2) (dot_laid new_line rest one_line)),
  ),
)

decls_laid : (ds : List Decl) (rest : List ℕ) → AreWrittenDecls ds → IsLaid (flat_map decl_items ds) rest
decls_laid [] rest w = tt
decls_laid (d ∷ ds) rest w = laid_append (decl_items d) (flat_map decl_items ds) rest (decl_laid d _ w.0) (decls_laid ds rest w.1)

closing_laid : IsLaid (right_brace tight ∷ dot_item new_line ∷ []) []
closing_laid = (bracket_fit 125 RightBrace tight _ refl closing_utf8 no_gap, dot_laid new_line [] one_line)

pub module_laid : (m : Module) → IsWrittenModule m → IsLaid (module_items m) []
unfolding module_items text_of
module_laid (SigModule n ds) w = (
  sig_fit _,
  (
    path_fit n.path space _ (name_path n w.0) one_space refl,
    (
      equal_fit _,
      (
        bracket_fit 123 LeftBrace new_line _ refl brace_utf8 one_line,
        laid_append (flat_map decl_items ds) (right_brace tight ∷ dot_item new_line ∷ []) [] (decls_laid ds _ w.1) closing_laid,
      ),
    ),
  ),
)
module_laid (ViewModule n d c xs) w = (
  view_fit _,
  (
    path_fit n.path space _ (name_path n w.0) one_space refl,
    (
      colon_fit _,
      (
        path_fit d.path space _ (name_path d w.1) one_space refl,
        (
          arrow_fit _,
          (
            path_fit c.path space _ (name_path c w.2) one_space refl,
            (
              equal_fit _,
              (
                bracket_fit 123 LeftBrace new_line _ refl brace_utf8 one_line,
                laid_append (flat_map (assign_items new_line) xs) (right_brace tight ∷ dot_item new_line ∷ []) [] (assigns_laid new_line xs _ line_behind w.3) closing_laid,
              ),
            ),
          ),
        ),
      ),
    ),
  ),
)
