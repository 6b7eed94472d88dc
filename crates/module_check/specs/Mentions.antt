-- Where a module mentions another one, and what is looked for.
use Rattle.std.specs.Prelude.{List, Option, find}
use Rattle.name_meaning.specs.Names.{Name, is_among}
use Rattle.text_meaning.specs.Trees.{first_name}
use Rattle.text_meaning.specs.Labels.{label_in}
use Rattle.text_meaning.specs.Dependencies.{Dependency}
use Rattle.mmt_syntax.specs.Readings.{read_span}
use Rattle.mmt_syntax.specs.DependenciesLeft.{own_name}
use Rattle.module_check.specs.declared.mentions.Mention.{Mention}

-- The dependency that is mentioned.
abbrev pub read_mention : Mention → Dependency
read_mention m = record { span = read_span m.written.now.span; name = first_name m.written.now.path; label = label_in (own_name m.structure) m.label.now }

-- The first dependency of these that has one of the names.
abbrev pub first_among : List Name → List Dependency → Option Dependency
first_among names dependencies = find (λ (dependency : Dependency). is_among names dependency.name) dependencies
