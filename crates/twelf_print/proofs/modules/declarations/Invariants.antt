use Rattle.std.proofs.Common.{◌≡◌, ◌++◌, take}
use Rattle.mmt_syntax.specs.Readings.{read_decls}
use Rattle.twelf_print.specs.Fronts.{decls_text}
use Rattle.twelf_print.proofs.modules.declarations.Given as goal

-- the declarations so far
abbrev pub invariant-loop-decl : goal.invariant-loop-decl
invariant-loop-decl l = l.out ≡ l.initial.out ++ decls_text (read_decls (take l.decl-index l.decl-items))
