-- The label of a declaration, and of an assignment, by which a verdict names it (this profile).
use Rattle.name_meaning.specs.Names.{Path, Name}
use Rattle.text_meaning.specs.Trees.{Decl, IncludeDecl, StructDecl, ConstDecl}
use Rattle.std.specs.Prelude.{◌∷◌, Option, Some, None}

-- The label of an assignment to a path: the path, behind the name of the structure if the link is one.
abbrev pub label_in : Option Name → Path → Path
label_in None path = path
label_in (Some structure) path = structure ∷ path

-- The declared name, or the included theory's.
abbrev pub label_of : Decl → Path
label_of (IncludeDecl theory) = theory.path
label_of (StructDecl name domain assigns) = name.path
label_of (ConstDecl name class value) = name.path
