-- What declarations make of a theory, one after another, with no order of tests (Rabe and Kohlhase 2013, section 3: theories,
-- inclusions and structures; the rest is this profile).
use Rattle.std.specs.Prelude.{◌≡◌, ◌≢◌, ℕ, List, [], ◌∷◌, slice_get, Option, Some, None, IsSome}
use Rattle.name_meaning.specs.Names.{Name}
use Rattle.lf_meaning.specs.Signatures.{Class, Value, Declaration}
use Rattle.lf_meaning.specs.HeadMaps.{HeadMap}
use Rattle.library_meaning.specs.Faces.{StructureFace, TheoryFace, Environment, theory_of}
use Rattle.library_meaning.specs.Closure.{with_inclusion}
use Rattle.library_meaning.specs.Resolution.{Scope}
use Rattle.text_meaning.specs.Trees.{Expr, Written, Assign, Decl, IncludeDecl, StructDecl, ConstDecl, first_name}
use Rattle.elaborate_meaning.specs.Stands.{StandsClass, StandsValue}
use Rattle.link_meaning.specs.Induced.{with_structure}
use Rattle.link_meaning.specs.LinkMaps.{IsMapOfLink}
use Rattle.verdict_meaning.specs.Modules.{scope_in, structure_setting, with_constant}

-- No own constant of the theory so far has just this name for its path, and no structure has the name.
pub record IsNew (here : TheoryFace) (name : Name) : Type 0 where
  pub constants : (i : ℕ) (declaration : Declaration) → slice_get here.own i ≡ Some declaration → declaration.name.path ≢ name ∷ []
  pub structures : (i : ℕ) (structure : StructureFace) → slice_get here.structures i ≡ Some structure → structure.name ≢ name

-- The written value, if there is one, stands for the value at the class.
abbrev pub StandsIfWritten : Scope → Class → Option Expr → Option Value → Type 0
StandsIfWritten scope class None value = value ≡ None
StandsIfWritten scope class (Some expression) value = (found : Value) × StandsValue scope expression class found × (value ≡ Some found)

-- The theory has one more inclusion, of an accepted theory.
pub record AddsInclusion (environment : Environment) (here : TheoryFace) (included : Name) (next : TheoryFace) : Type 0 where
  pub from : IsSome (theory_of environment included)
  pub is : next ≡ record here { includes = with_inclusion environment here.includes included }

-- The theory has one more constant, with a new name. Its class stands in the theory so far, and so does its value at that
-- class, if it has one.
pub record AddsConstant (environment : Environment) (here : TheoryFace) (name : Name) (written : Expr) (definition : Option Expr) (next : TheoryFace) : Type 0 where
  pub is_new : IsNew here name
  pub class : Class
  pub value : Option Value
  pub class_stands : StandsClass (scope_in environment here) written class
  pub value_stands : StandsIfWritten (scope_in environment here) class definition value
  pub is : next ≡ with_constant here name class value

-- The theory has one more structure, with a new name, from an accepted theory, and the constants that it induces. Its map
-- is that of the link into the theory so far: the assignments have a reading, and the map meets its equations.
pub record AddsStructure (environment : Environment) (here : TheoryFace) (name : Written) (domain : Name) (assigns : List Assign) (next : TheoryFace) : Type 0 where
  pub is_new : IsNew here (first_name name.path)
  pub from : IsSome (theory_of environment domain)
  pub along : HeadMap
  pub map_is : IsMapOfLink (structure_setting environment here name domain) assigns along
  pub is : next ≡ with_structure here (structure_setting environment here name domain) (first_name name.path) along

-- The declaration leads from the theory so far to the next one.
abbrev pub Declares : Environment → TheoryFace → Decl → TheoryFace → Type 0
Declares environment here (IncludeDecl included) next = AddsInclusion environment here (first_name included.path) next
Declares environment here (ConstDecl name class value) next = AddsConstant environment here (first_name name.path) class value next
Declares environment here (StructDecl name domain assigns) next = AddsStructure environment here name (first_name domain.path) assigns next

-- So do the declarations, one after another in the order of the text, each over the theory so far.
abbrev pub DeclaresAll : Environment → TheoryFace → List Decl → TheoryFace → Type 0
DeclaresAll environment here [] face = here ≡ face
DeclaresAll environment here (decl ∷ decls) face = (next : TheoryFace) × Declares environment here decl next × DeclaresAll environment next decls face
