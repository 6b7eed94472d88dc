-- What is kept of the inclusions of a theory while its declarations are added: the table of what it includes, and what is known of
-- the closure.
use Rattle.std.specs.Prelude.{◌≡◌, List, Option, None}
use Rattle.std.specs.Option.{ForSome}
use Rattle.name_meaning.specs.Names.{Name}
use Rattle.text_meaning.specs.Trees.{Decl, IncludeDecl, StructDecl, ConstDecl}
use Rattle.library_meaning.specs.Faces.{Environment}
use Rattle.names.specs.IncludedTables.{Tabulates}
use Rattle.names.specs.declared.included_table.IncludedTable.{IncludedTable}
use Rattle.include_closure.specs.Inclusions.{Knows}
use Rattle.include_closure.specs.declared.inclusions.Inclusions.{Inclusions}

-- A table, if there is one, is that of these theories.
abbrev pub FitsIncludes : Option IncludedTable → List Name → Environment → Type 0
FitsIncludes table includes environment = ForSome table (λ t. Tabulates t includes environment)

-- The same before a declaration; before an inclusion, which may bring theories, there is none.
abbrev pub FitsDeclaration : Option IncludedTable → List Name → Environment → Decl → Type 0
FitsDeclaration table includes environment (IncludeDecl theory) = table ≡ None
FitsDeclaration table includes environment (ConstDecl name class value) = FitsIncludes table includes environment
FitsDeclaration table includes environment (StructDecl name domain assigns) = FitsIncludes table includes environment

-- Behind a declaration as much is known of the closure; only behind an inclusion that is of another list.
abbrev pub KnowsNext : Inclusions → Inclusions → List Name → Decl → Type 0
KnowsNext before after includes (IncludeDecl theory) = Knows after includes
KnowsNext before after includes (ConstDecl name class value) = after ≡ before
KnowsNext before after includes (StructDecl name domain assigns) = after ≡ before
