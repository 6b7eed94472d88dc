-- The steps of the definitions that functions of this crate take.
use Rattle.std.specs.Prelude.{[], ◌∷◌, ◌++◌, Option, Ok}
use Rattle.name_meaning.specs.Names.{Name}
use Rattle.lf_meaning.specs.Signatures.{Declaration}
use Rattle.answer_meaning.specs.Answers.{◌>>=◌}
use Rattle.text_meaning.specs.Trees.{Written, Expr, first_name}
use Rattle.library_meaning.specs.Faces.{TheoryFace}
use Rattle.library_meaning.specs.Resolution.{Scope}
use Rattle.elaborate_meaning.specs.Values.{expand_class}
use Rattle.link_meaning.specs.Refusals.{Outcome, labelled}
use Rattle.verdict_meaning.specs.Modules.{declared_value}

-- The constant that is declared with this class and this value.
abbrev pub constant_answer : Scope → Name → Written → Expr → Option Expr → Outcome Declaration
constant_answer scope theory name class value = do
  class' ← labelled name.path (expand_class scope class)
  value' ← declared_value scope name.path class' value
  Ok (record { name = record { theory = theory; path = first_name name.path ∷ [] }; class = class'; value = value' })

-- The theory with one more declared constant.
abbrev pub with_declaration : TheoryFace → Declaration → TheoryFace
with_declaration here declaration = record here { own = here.own ++ declaration ∷ [] }
