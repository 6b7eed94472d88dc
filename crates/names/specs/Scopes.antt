-- What a scope stands for.
use Rattle.library_meaning.specs.Resolution as resolution
use Rattle.term_trees.specs.Readings.{read_signature}
use Rattle.mmt_interface.specs.Readings.{environment_of}
use Rattle.names.specs.declared.scope.Scope.{Scope}

abbrev pub read_scope : Scope → resolution.Scope
read_scope s = record { own = read_signature s.own.now; includes = s.includes.now; environment = environment_of s.faces.now }
