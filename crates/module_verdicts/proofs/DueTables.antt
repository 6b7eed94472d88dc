-- What is kept of the inclusions of a theory, from one declaration to the next.
use Rattle.std.proofs.Common.{◌≡◌, ◌∙◌, List, Option, None, Result, Ok, Err, sym, ap, subst}
use Rattle.std.specs.Prelude.{OnOk, ⊤}
use Rattle.list_laws.proofs.Answers.{came_by, ok_same}
use Rattle.name_meaning.specs.Names.{Name}
use Rattle.text_meaning.specs.Trees.{Assign, Decl, Expr, IncludeDecl, StructDecl, ConstDecl, Written, first_name}
use Rattle.library_meaning.specs.Faces.{TheoryFace, Environment}
use Rattle.elaborate_meaning.specs.Values.{expand_class}
use Rattle.link_meaning.specs.Refusals.{labelled}
use Rattle.link_meaning.specs.Passes.{link_map}
use Rattle.verdict_meaning.specs.Modules.{declare, declared_value, module_test, scope_in, structure_setting, unused_test}
use Rattle.include_closure.specs.Inclusions.{Knows}
use Rattle.include_closure.specs.declared.inclusions.Inclusions.{Inclusions}
use Rattle.names.specs.declared.included_table.IncludedTable.{IncludedTable}
use Rattle.link_setting.specs.declared.fault.LinkFault.{LinkFault}
use Rattle.module_verdicts.specs.Answers.{Declares}
use Rattle.module_verdicts.specs.DueTables.{FitsDeclaration, FitsIncludes, KnowsNext}

pub no_table : (table : Option IncludedTable) (includes : List Name) (environment : Environment) → table ≡ None → FitsIncludes table includes environment
no_table table includes environment none = λ t some. absurd (let two = sym none ∙ some in cc)

-- What fits before a declaration fits what is included so far.
pub fits_before : (table : Option IncludedTable) (includes : List Name) (environment : Environment) (decl : Decl) → FitsDeclaration table includes environment decl → FitsIncludes table includes environment
fits_before table includes environment (IncludeDecl theory) none = no_table table includes environment none
fits_before table includes environment (ConstDecl name class value) fits = fits
fits_before table includes environment (StructDecl name domain assigns) fits = fits

-- A constant and a structure leave what is included.
constant_keeps : (environment : Environment) (before after : TheoryFace) (name : Written) (class : Expr) (value : Option Expr) → declare environment before (ConstDecl name class value) ≡ Ok after → before.includes ≡ after.includes
constant_keeps environment before after name class value h =
    let unused = came_by (unused_test before name) _ after h in
    let classed = came_by (labelled name.path (expand_class (scope_in environment before) class)) _ after unused.goes in
    let valued = came_by (declared_value (scope_in environment before) name.path classed.item value) _ after classed.goes in
    ap (λ (z : TheoryFace). z.includes) (ok_same valued.goes)

structure_keeps : (environment : Environment) (before after : TheoryFace) (name domain : Written) (assigns : List Assign) → declare environment before (StructDecl name domain assigns) ≡ Ok after → before.includes ≡ after.includes
structure_keeps environment before after name domain assigns h =
    let unused = came_by (unused_test before name) _ after h in
    let known = came_by (module_test environment name.path domain) _ after unused.goes in
    let linked = came_by (link_map (structure_setting environment before name (first_name domain.path)) assigns) _ after known.goes in
    ap (λ (z : TheoryFace). z.includes) (ok_same linked.goes)

-- Behind the declaration the table fits what is included then.
fits_next : (table : Option IncludedTable) (environment : Environment) (before after : TheoryFace) (decl : Decl) → FitsDeclaration table before.includes environment decl → declare environment before decl ≡ Ok after
    → FitsIncludes table after.includes environment
fits_next table environment before after (IncludeDecl theory) none h = no_table table after.includes environment none
fits_next table environment before after (ConstDecl name class value) fits h = subst (λ ns. FitsIncludes table ns environment) (constant_keeps environment before after name class value h) fits
fits_next table environment before after (StructDecl name domain assigns) fits h = subst (λ ns. FitsIncludes table ns environment) (structure_keeps environment before after name domain assigns h) fits

pub fits_behind : (table : Option IncludedTable) (environment : Environment) (before after : TheoryFace) (decl : Decl) (result : Result ⊤ LinkFault) → FitsDeclaration table before.includes environment decl
    → Declares result after (declare environment before decl) → OnOk result (FitsIncludes table after.includes environment)
fits_behind table environment before after decl (Ok done) fits h = fits_next table environment before after decl fits h
fits_behind table environment before after decl (Err fault) fits h = tt

-- So is what is known of the closure.
known_next : (old new : Inclusions) (environment : Environment) (before after : TheoryFace) (decl : Decl) → Knows old before.includes → KnowsNext old new after.includes decl → declare environment before decl ≡ Ok after → Knows new after.includes
known_next old new environment before after (IncludeDecl theory) known next h = next
known_next old new environment before after (ConstDecl name class value) known same h =
    subst (Knows new) (constant_keeps environment before after name class value h) (subst (λ i. Knows i before.includes) (sym same) known)
known_next old new environment before after (StructDecl name domain assigns) known same h =
    subst (Knows new) (structure_keeps environment before after name domain assigns h) (subst (λ i. Knows i before.includes) (sym same) known)

pub known_behind : (old new : Inclusions) (environment : Environment) (before after : TheoryFace) (decl : Decl) (result : Result ⊤ LinkFault) → Knows old before.includes → OnOk result (KnowsNext old new after.includes decl)
    → Declares result after (declare environment before decl) → OnOk result (Knows new after.includes)
known_behind old new environment before after decl (Ok done) known next h = known_next old new environment before after decl known next h
known_behind old new environment before after decl (Err fault) known next h = tt
