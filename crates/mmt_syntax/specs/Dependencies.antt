-- Which modules a module depends on directly, in the order of the text, with repeats: those of its meaning, without the
-- labels of what names them (this profile).
use Rattle.std.specs.Prelude.{List, map}
use Rattle.name_meaning.specs.Names.{Name}
use Rattle.text_meaning.specs.Tokens.{Span}
use Rattle.text_meaning.specs.Trees.{Module}
use Rattle.text_meaning.specs.Dependencies as meaning

-- a name, and the written path that begins with it
pub record Dependency : Type 0 where
  pub span : Span
  pub name : Name

abbrev pub unlabelled : meaning.Dependency → Dependency
unlabelled d = record { span = d.span; name = d.name }

abbrev pub dependencies : Module → List Dependency
dependencies module_tree = map unlabelled (meaning.module_dependencies module_tree)
