-- The text of a generated module names its parent, and nothing else.
use Rattle.std.proofs.Common.{◌≡◌, ◌⊎◌, ⊎_elim, inl, inr, ℕ, zero, suc, ◌<◌, ◌^◌, ◌%◌, Bool, true, false, not, ◌&&◌, List, [], ◌∷◌, ◌++◌, length, map, flat_map, codes, decimal, Some, None, Option, refl, sym, ap, ap₂, ◌∙◌, subst, arith, append_assoc, append-nil, IsUtf8}
use Rattle.std.specs.Str.{IsAscii}
use Rattle.std.proofs.lemmas.Bool.{and_parts}
use Rattle.std.proofs.lemmas.List.{map-append}
use Rattle.std.proofs.lemmas.Fmt.{IsAscii-decimal_wide}
use Rattle.std.proofs.lemmas.Str.{IsUtf8-from_ascii}
use Rattle.name_meaning.specs.Names.{Name, Path, Text}
use Rattle.name_meaning.specs.Identifiers.{is_run, is_reserved, is_identifier}
use Rattle.list_laws.proofs.Members.{Member}
use Rattle.text_meaning.specs.Trees.{Assign, IncludeAssign, StructAssign, ConstAssign, Decl, IncludeDecl, StructDecl, ConstDecl, TypeExpr, NameExpr, Module, SigModule, ViewModule, Written, first_name}
use Rattle.text_meaning.specs.Tokens.{row_kind, Ident}
use Rattle.text_meaning.specs.Cut.{Tokens, NotUtf8, OpenComment}
use Rattle.text_meaning.specs.UpToSpans.{IsSameModule, bare_assign, bare_decl, bare_module, bare_written, no_span}
use Rattle.text_meaning.specs.Reading.{Answer, ModuleText, ModuleTree, JudgementTree, Read, Reads, spells_module, Syntax, TooDeep, TextSpellsModule, Unsupported}
use Rattle.text_meaning.specs.TextAnswers.{read}
use Rattle.text_meaning.specs.Dependencies.{Dependency, answer_dependencies, assign_dependencies, at_written, decl_dependencies, dependencies, is_own_word, module_dependencies, unless_own, word_dependencies}
use Rattle.text_meaning.specs.Labels.{label_in}
use Rattle.reading_laws.proofs.OneAnswer.{one_reading, one_spelled}
use Rattle.print_meaning.specs.PrintedItems.{text_of, tokens_of}
use Rattle.print_meaning.specs.PrintedExpressions.{expr_items}
use Rattle.print_meaning.specs.PrintedModules.{module_items}
use Rattle.print_laws.proofs.LaidModules.{module_laid}
use Rattle.print_laws.proofs.LaidOut.{laid_utf8, laid_whole}
use Rattle.print_laws.proofs.SpelledModules.{module_at}
use Rattle.print_laws.proofs.WellWritten.{AreWrittenDecls, IsWrittenModule, IsWrittenName}
use Rattle.print_laws.proofs.Writable.{IsWritable}
use Rattle.run_meaning.specs.Generator.{draw_below, module_name, module_text, parent_lines, parent_of, upper_bits}
use Rattle.script_reader.proofs.GeneratedNames.{name_is_identifier}
use Rattle.twelf_reader.specs.Dependencies.{names_in}

-- ---- the module that a generated text spells

abbrev word : Path → Written
word path = record { path = path; span = no_span }

abbrev decls_of_parent : ℕ → List Decl
decls_of_parent parent = IncludeDecl (word (module_name parent ∷ [])) ∷ StructDecl (word (codes "s" ∷ [])) (word (module_name parent ∷ [])) [] ∷ []

abbrev parent_decls : ℕ → ℕ → List Decl
parent_decls start zero = []
parent_decls start (suc before) = decls_of_parent (parent_of start (suc before))

abbrev own_decls : ℕ → List Decl
own_decls revision =
    ConstDecl (word (codes "t" ∷ [])) (TypeExpr no_span) None
    ∷ ConstDecl (word ((codes "c" ++ decimal revision) ∷ [])) (NameExpr no_span (codes "t" ∷ [])) None ∷ []

abbrev generated_module : ℕ → ℕ → ℕ → Module
generated_module start index revision = SigModule (word (module_name index ∷ [])) (parent_decls start index ++ own_decls revision)

-- ---- its names are writable

simple_name : (name : Name) → is_identifier name ≡ true → row_kind (name ∷ []) ≡ Ident (name ∷ []) → IsUtf8 name → IsWritable (name ∷ [])
simple_name name identifier kind utf8 = record {
  runs = ap (λ (b : Bool). b && true) (and_parts (is_run name) (not (is_reserved name)) identifier).0;
  kind = kind;
  utf8 = subst IsUtf8 (sym (append-nil name)) utf8;
}

ascii_more : (byte : ℕ) (bytes : List ℕ) → byte < 128 → IsAscii bytes → IsAscii (byte ∷ bytes)
ascii_more byte bytes low rest zero = low
ascii_more byte bytes low rest (suc i) = rest i

numbered_utf8 : (letter n : ℕ) → letter < 128 → n < 10 ^ 64 → IsUtf8 (letter ∷ decimal n)
numbered_utf8 letter n low few = IsUtf8-from_ascii (letter ∷ decimal n) (ascii_more letter (decimal n) low (IsAscii-decimal_wide n few))

module_writable : (n : ℕ) → n < 10 ^ 64 → IsWritable (module_name n ∷ [])
module_writable n few = simple_name (module_name n) (name_is_identifier n few) refl (numbered_utf8 71 n (omega arith) few)

-- `c` and a number is an identifier as `G` and the number is
constant_is_identifier : (n : ℕ) → n < 10 ^ 64 → is_identifier (codes "c" ++ decimal n) ≡ true
constant_is_identifier n few = name_is_identifier n few

constant_writable : (n : ℕ) → n < 10 ^ 64 → IsWritable ((codes "c" ++ decimal n) ∷ [])
constant_writable n few = simple_name (codes "c" ++ decimal n) (constant_is_identifier n few) refl (numbered_utf8 99 n (omega arith) few)

letter_writable : (letter : ℕ) → letter < 128 → is_identifier (letter ∷ []) ≡ true → row_kind ((letter ∷ []) ∷ []) ≡ Ident ((letter ∷ []) ∷ []) → IsWritable ((letter ∷ []) ∷ [])
letter_writable letter low identifier kind = simple_name (letter ∷ []) identifier kind (IsUtf8-from_ascii (letter ∷ []) (ascii_more letter [] low (λ i. omega arith)))

t_writable : IsWritable (codes "t" ∷ [])
t_writable = letter_writable 116 (omega arith) refl refl

s_writable : IsWritable (codes "s" ∷ [])
s_writable = letter_writable 115 (omega arith) refl refl

named : (name : Name) → IsWritable (name ∷ []) → IsWrittenName (word (name ∷ []))
named name writable = record { name = name; is = refl; writable = writable }

-- ---- the module is well written

draw_less : (start draw bound : ℕ) → draw_below start draw (suc bound) < suc bound
draw_less start draw bound = less (upper_bits start draw)
  where
    less : (bits : ℕ) → bits % suc bound < suc bound
    less bits = omega arith

own_written : (revision : ℕ) → revision < 10 ^ 64 → AreWrittenDecls (own_decls revision)
own_written revision few = (
  (named (codes "t") t_writable, tt, tt),
  (
    (named (codes "c" ++ decimal revision) (constant_writable revision few), t_writable, tt),
    tt,
  ),
)

decls_written : (start index revision : ℕ) → index < 10 ^ 64 → revision < 10 ^ 64 → AreWrittenDecls (parent_decls start index ++ own_decls revision)
decls_written start zero revision few few_revisions = own_written revision few_revisions
decls_written start (suc before) revision few few_revisions =
    let less = draw_less start (suc before) before in
    let parent = module_writable (parent_of start (suc before)) (omega (arith, few, less)) in (
      named (module_name (parent_of start (suc before))) parent,
      (
        (named (codes "s") s_writable, named (module_name (parent_of start (suc before))) parent, tt),
        own_written revision few_revisions,
      ),
    )

generated_written : (start index revision : ℕ) → index < 10 ^ 64 → revision < 10 ^ 64 → IsWrittenModule (generated_module start index revision)
generated_written start index revision few few_revisions = (named (module_name index) (module_writable index few), decls_written start index revision few few_revisions)

-- ---- its printed text is the generated one

-- what is laid out, and what is joined from left to right
joined_first : (a k i b g n f : List ℕ) → a ++ (k ++ ((i ++ []) ++ (b ++ (g ++ ((n ++ []) ++ f))))) ≡ a ++ (k ++ i) ++ b ++ [] ++ g ++ n ++ f
joined_first a k i b g n f = simp (append_assoc, append-nil)

joined_later : (a k i b c p d e g n f : List ℕ)
    → a ++ (k ++ ((i ++ []) ++ (b ++ (c ++ (k ++ ((p ++ []) ++ (d ++ (k ++ ((p ++ []) ++ (e ++ (g ++ ((n ++ []) ++ f))))))))))))
    ≡ a ++ (k ++ i) ++ b ++ (c ++ (k ++ p) ++ d ++ (k ++ p) ++ e) ++ g ++ n ++ f
joined_later a k i b c p d e g n f = simp (append_assoc, append-nil)

-- the text by the lines of the parent, and these lines
text_by : ℕ → ℕ → List ℕ → Text
text_by index revision lines = codes "%sig " ++ module_name index ++ codes " = {\n" ++ lines ++ codes "t : type.\nc" ++ decimal revision ++ codes " : t.\n}.\n"

lines_by : ℕ → List ℕ
lines_by parent = codes "%include " ++ module_name parent ++ codes ".\n%struct s : " ++ module_name parent ++ codes ".\n"

text_is : (start index revision : ℕ) → text_by index revision (parent_lines start index) ≡ module_text start index revision
unfolding text_by
text_is start index revision = refl

lines_are : (start before : ℕ) → lines_by (parent_of start (suc before)) ≡ parent_lines start (suc before)
unfolding lines_by
lines_are start before = refl

first_text : (index revision : ℕ) → text_of (module_items (SigModule (word (module_name index ∷ [])) (own_decls revision))) ≡ text_by index revision []
unfolding text_of module_items expr_items text_by
first_text index revision =
    joined_first (codes "%sig ") (codes "G") (decimal index) (codes " = {\n") (codes "t : type.\nc") (decimal revision) (codes " : t.\n}.\n")

later_text : (index parent revision : ℕ) → text_of (module_items (SigModule (word (module_name index ∷ [])) (decls_of_parent parent ++ own_decls revision))) ≡ text_by index revision (lines_by parent)
unfolding text_of module_items expr_items text_by lines_by
later_text index parent revision =
    joined_later (codes "%sig ") (codes "G") (decimal index) (codes " = {\n") (codes "%include ") (decimal parent) (codes ".\n%struct s : ") (codes ".\n") (codes "t : type.\nc")
    (decimal revision) (codes " : t.\n}.\n")

printed_is_generated : (start index revision : ℕ) → text_of (module_items (generated_module start index revision)) ≡ module_text start index revision
printed_is_generated start zero revision = first_text 0 revision ∙ text_is start 0 revision
printed_is_generated start (suc before) revision =
    later_text (suc before) (parent_of start (suc before)) revision
    ∙ ap (λ (lines : List ℕ). text_by (suc before) revision lines) (lines_are start before) ∙ text_is start (suc before) revision

-- ---- what the text is read as

pub record IsSpelled (text : Text) (given : Module) : Type 0 where
  pub tree : Module
  pub spells : TextSpellsModule text tree
  pub same : IsSameModule tree given

generated_spelled : (start index revision : ℕ) → index < 10 ^ 64 → revision < 10 ^ 64 → IsSpelled (module_text start index revision) (generated_module start index revision)
generated_spelled start index revision few few_revisions =
    let given : Module = generated_module start index revision in
    let written = generated_written start index revision few few_revisions in
    let laid = module_laid given written in
    let at = module_at 0 (length (text_of (module_items given))) given written in
    record {
      tree = at.tree;
      spells = subst (λ text. TextSpellsModule text at.tree) (printed_is_generated start index revision)
          (tokens_of 0 (module_items given), length (text_of (module_items given)), (laid_utf8 (module_items given) [] laid, laid_whole (module_items given) laid), at.spells);
      same = at.same;
    }

-- it is read as a module that it spells, or not as a module
read_only : (text : Text) (tree : Module) → TextSpellsModule text tree → (answer : Answer) → Reads ModuleText text answer
    → (answer_dependencies answer ≡ []) ⊎ (answer_dependencies answer ≡ module_dependencies tree)
read_only text tree spells (Read (ModuleTree other)) (Tokens tokens end, lexed, is) =
    inr
    (ap module_dependencies
    (same (one_spelled ModuleText text (ModuleTree other) (ModuleTree tree) (tokens, end, lexed, is.0) (spells.0, spells.1, spells.2, spells_module spells.3))))
  where
    same : {a b : Module} → ModuleTree a ≡ ModuleTree b → a ≡ b
    same e = cc
read_only text tree spells (Read (ModuleTree other)) (NotUtf8 at, lexed, is) = absurd (cc)
read_only text tree spells (Read (ModuleTree other)) (OpenComment at, lexed, is) = absurd (cc)
read_only text tree spells (Read (JudgementTree judgement)) reads = inl refl
read_only text tree spells (Syntax at) reads = inl refl
read_only text tree spells (TooDeep at) reads = inl refl
read_only text tree spells (Unsupported at) reads = inl refl

-- ---- names of dependencies do not depend on spans

flat_bare : {A : Type 0} (depend : A → List Dependency) (bare : A → A) → ((x : A) → names_in (depend (bare x)) ≡ names_in (depend x)) → (xs : List A)
    → names_in (flat_map depend (map bare xs)) ≡ names_in (flat_map depend xs)
flat_bare depend bare same [] = refl
flat_bare depend bare same (x ∷ xs) =
    map-append (λ (dependency : Dependency). dependency.name) (depend (bare x)) (flat_map depend (map bare xs))
    ∙ ap₂ (λ (front behind : List Name). front ++ behind) (same x) (flat_bare depend bare same xs)
    ∙ sym (map-append (λ (dependency : Dependency). dependency.name) (depend x) (flat_map depend xs))

word_bare : (theory : Option Name) (label : Path) (written : Written) → names_in (word_dependencies theory label (bare_written written)) ≡ names_in (word_dependencies theory label written)
word_bare theory label written = by (is_own_word theory written.path)
  where
    by : (own : Bool) → names_in (unless_own own (at_written label (bare_written written))) ≡ names_in (unless_own own (at_written label written))
    by true = refl
    by false = refl

assign_bare : (theory structure : Option Name) (label : Path) (assign : Assign)
    → names_in (assign_dependencies theory structure label (bare_assign assign)) ≡ names_in (assign_dependencies theory structure label assign)
unfolding bare_assign
assign_bare theory structure label (IncludeAssign words) = flat_bare (word_dependencies theory label) bare_written (word_bare theory label) words
assign_bare theory structure label (StructAssign target words) =
    flat_bare (word_dependencies theory (label_in structure target.path)) bare_written (word_bare theory (label_in structure target.path)) words
assign_bare theory structure label (ConstAssign target value) = refl

decl_bare : (theory : Name) (decl : Decl) → names_in (decl_dependencies theory (bare_decl decl)) ≡ names_in (decl_dependencies theory decl)
unfolding bare_decl
decl_bare theory (IncludeDecl included) = refl
decl_bare theory (StructDecl name domain assigns) =
    ap (λ (names : List Name). first_name domain.path ∷ names)
    (flat_bare (assign_dependencies (Some theory) (Some (first_name name.path)) name.path) bare_assign (assign_bare (Some theory) (Some (first_name name.path)) name.path) assigns)
decl_bare theory (ConstDecl name class value) = refl

module_bare : (given : Module) → names_in (module_dependencies (bare_module given)) ≡ names_in (module_dependencies given)
unfolding bare_module
module_bare (SigModule name decls) = flat_bare (decl_dependencies (first_name name.path)) bare_decl (decl_bare (first_name name.path)) decls
module_bare (ViewModule name domain codomain assigns) =
    ap (λ (names : List Name). first_name domain.path ∷ first_name codomain.path ∷ names)
    (flat_bare (assign_dependencies None None name.path) bare_assign (assign_bare None None name.path) assigns)

same_names : (given other : Module) → IsSameModule given other → names_in (module_dependencies given) ≡ names_in (module_dependencies other)
same_names given other same = sym (module_bare given) ∙ ap (λ (m : Module). names_in (module_dependencies m)) same ∙ module_bare other

-- ---- the dependencies of a generated text

-- this name is that of a module before the one with this index
pub record IsBefore (index : ℕ) (name : Name) : Type 0 where
  pub at : ℕ
  pub less : at < index
  pub is : name ≡ module_name at

parent_before : (start index revision : ℕ) (name : Name) → Member name (names_in (module_dependencies (generated_module start index revision))) → IsBefore index name
parent_before start zero revision name m = absurd m
parent_before start (suc before) revision name m = ⊎_elim (λ e. parent e) (λ n. ⊎_elim (λ e. parent e) (λ none. absurd none) n) m
  where
    parent : name ≡ module_name (parent_of start (suc before)) → IsBefore (suc before) name
    parent e = record { at = parent_of start (suc before); less = draw_less start (suc before) before; is = e }

pub generated_dependencies : (start index revision : ℕ) → index < 10 ^ 64 → revision < 10 ^ 64 → (own name : Name)
    → Member name (dependencies own (module_text start index revision)) → IsBefore index name
unfolding dependencies
generated_dependencies start index revision few few_revisions own name m =
    let text : Text = module_text start index revision in
    let spelled = generated_spelled start index revision few few_revisions in
    ⊎_elim (λ e. absurd (subst (λ (found : List Dependency). Member name (names_in found)) e m))
    (λ e. parent_before start index revision name
    (subst (Member name) (same_names spelled.tree (generated_module start index revision) spelled.same) (subst (λ (found : List Dependency). Member name (names_in found)) e m)))
    (read_only text spelled.tree spelled.spells (read ModuleText text) (one_reading ModuleText text).is_read)
