-- The tests of a theory's declarations and of a view, and what they make (Rabe and Kohlhase 2013, section 3: theories and
-- views; the order of tests is this profile).
use Rattle.std.specs.Prelude.{Bool, List, [], ◌∷◌, ◌++◌, ◌||◌, not, is_some, Option, Some, None, Ok, ⊤}
use Rattle.name_meaning.specs.Names.{Name, Path}
use Rattle.lf_meaning.specs.Signatures.{Class, Value}
use Rattle.library_meaning.specs.Faces.{TheoryFace, ViewFace, Known, IsAbsent, IsRefused, IsTheory, IsView, Environment, structure_of}
use Rattle.library_meaning.specs.Closure.{with_inclusion}
use Rattle.library_meaning.specs.Resolution.{Scope, own_at}
use Rattle.text_meaning.specs.Tokens.{Span}
use Rattle.text_meaning.specs.Trees.{Expr, Written, Assign, Decl, IncludeDecl, StructDecl, ConstDecl, first_name}
use Rattle.link_meaning.specs.Below.Rules.{Rule}
use Rattle.answer_meaning.specs.Answers.{◌>>=◌}
use Rattle.link_meaning.specs.Below.Values.{expand_class, expand_value}
use Rattle.link_meaning.specs.Refusals.{Outcome, refused, labelled, demand}
use Rattle.link_meaning.specs.Assignments.{Setting}
use Rattle.link_meaning.specs.Passes.{link_map}
use Rattle.link_meaning.specs.Induced.{with_structure}

-- The module is an accepted theory: else it is absent, refused, or a view.
abbrev pub known_theory : Span → Path → Known → Outcome TheoryFace
known_theory span label IsAbsent = refused span Rule.UnknownModule label
known_theory span label IsRefused = refused span Rule.DependencyRefused label
known_theory span label (IsTheory face) = Ok face
known_theory span label (IsView face) = refused span Rule.WrongModuleKind label

-- The test of a module that is named here.
abbrev pub module_test : Environment → Path → Written → Outcome TheoryFace
module_test environment label written = known_theory written.span label (environment (first_name written.path))

-- The constants of a theory so far, and what it includes.
abbrev pub scope_in : Environment → TheoryFace → Scope
scope_in environment face = record { own = face.own; includes = face.includes; environment = environment }

-- A constant or a structure declared above has the name.
abbrev pub is_used : TheoryFace → Name → Bool
is_used here name = is_some (own_at here.own (name ∷ [])) || is_some (structure_of here.structures name)

-- No constant or structure declared above has the declared name, which is one name.
abbrev pub unused_test : TheoryFace → Written → Outcome ⊤
unused_test here name = demand (not (is_used here (first_name name.path))) name.span Rule.DuplicateName name.path

-- The value of a declaration that has one.
abbrev pub declared_value : Scope → Path → Class → Option Expr → Outcome (Option Value)
declared_value scope label class None = Ok None
declared_value scope label class (Some expression) = do
  value ← labelled label (expand_value scope expression class)
  Ok (Some value)

-- The theory with one more constant.
abbrev pub with_constant : TheoryFace → Name → Class → Option Value → TheoryFace
with_constant here name class value =
    record here { own = here.own ++ record { name = record { theory = here.name; path = name ∷ [] }; class = class; value = value } ∷ [] }

-- A structure of the theory that is being built, over what stands before it.
abbrev pub structure_setting : Environment → TheoryFace → Written → Name → Setting
structure_setting environment here name domain =
    record {
      environment = environment;
      here = Some here;
      domain = domain;
      codomain = here.name;
      scope = scope_in environment here;
      structure = Some (first_name name.path);
      span = name.span;
      label = name.path;
    }

-- The theory with one more declaration.
abbrev pub declare : Environment → TheoryFace → Decl → Outcome TheoryFace
declare environment here (IncludeDecl included) = do
  _ ← module_test environment included.path included
  Ok (record here { includes = with_inclusion environment here.includes (first_name included.path) })
declare environment here (ConstDecl name class value) = do
  _ ← unused_test here name
  class' ← labelled name.path (expand_class (scope_in environment here) class)
  value' ← declared_value (scope_in environment here) name.path class' value
  Ok (with_constant here (first_name name.path) class' value')
declare environment here (StructDecl name domain assigns) = do
  _ ← unused_test here name
  _ ← module_test environment name.path domain
  along ← link_map (structure_setting environment here name (first_name domain.path)) assigns
  Ok (with_structure here (structure_setting environment here name (first_name domain.path)) (first_name name.path) along)

-- The theory with these declarations, in the order of the text.
unfoldable pub declare_all : Environment → TheoryFace → List Decl → Outcome TheoryFace
declare_all environment here [] = Ok here
declare_all environment here (decl ∷ decls) = do
  next ← declare environment here decl
  declare_all environment next decls

-- The theory before its first declaration.
abbrev pub empty_theory : Name → TheoryFace
empty_theory name = record { name = name; own = []; includes = []; structures = [] }

-- A view, the values of which stand in the whole codomain.
abbrev pub view_setting : Environment → Written → Name → TheoryFace → Name → Setting
view_setting environment name domain target codomain =
    record {
      environment = environment;
      here = None;
      domain = domain;
      codomain = codomain;
      scope = scope_in environment target;
      structure = None;
      span = name.span;
      label = name.path;
    }

-- The view with these assignments.
abbrev pub checked_view : Environment → Written → Written → Written → List Assign → Outcome ViewFace
checked_view environment name domain codomain assigns = do
  _ ← module_test environment name.path domain
  target ← module_test environment name.path codomain
  along ← link_map (view_setting environment name (first_name domain.path) target (first_name codomain.path)) assigns
  Ok (record { name = first_name name.path; domain = first_name domain.path; codomain = first_name codomain.path; map = along })
