-- What the values of this crate stand for: scopes, variables, and what is found.
pub use Rattle.names.specs.Scopes.{read_scope}
use Rattle.std.specs.Prelude.{List, map, reverse, Result, Ok, Err}
use Rattle.term_trees.specs.Readings.{read_family, read_declaration}
use Rattle.term_trees.specs.declared.fam.Fam.{Fam}
use Rattle.library_meaning.specs.Resolution as resolution
use Rattle.elaborate_meaning.specs.Locals.{Local, Locals, variables_of}
use Rattle.mmt_syntax.specs.Readings.{read_binder}
use Rattle.mmt_syntax.specs.declared.expr.Binder.{Binder}
use Rattle.names.specs.declared.tabled_scope.TabledScope.{TabledScope}
use Rattle.names.specs.declared.scope.Found.{Found}
use Rattle.names.specs.declared.scope.Found.TheVariants.{Var, Decl}
use Rattle.names.specs.declared.scope.ResolveFault.{ResolveFault}
use Rattle.names.specs.declared.scope.ResolveFault.TheVariants.{Unknown, Ambiguous}

abbrev pub read_tabled : TabledScope → resolution.Scope
read_tabled s = read_scope s.scope

abbrev pub read_local : Binder × Fam → Local
read_local v = record { name = read_binder v.0; family = read_family v.1 }

-- The innermost variable is the last, and is read first.
abbrev pub read_locals : List (Binder × Fam) → Locals
read_locals vars = reverse (map read_local vars)

-- The names of the variables.
abbrev pub read_variables : List (Binder × Fam) → resolution.Variables
read_variables vars = variables_of (read_locals vars)

-- What is found, or why nothing is.
abbrev pub read_resolved : Result Found ResolveFault → resolution.Resolved
read_resolved (Ok (Var index)) = resolution.Variable index
read_resolved (Ok (Decl decl)) = resolution.Declared (read_declaration decl.now)
read_resolved (Err Unknown) = resolution.Unknown
read_resolved (Err Ambiguous) = resolution.Ambiguous
