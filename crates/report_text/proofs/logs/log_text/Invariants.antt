use Rattle.std.proofs.Common.{◌≡◌, ◌++◌, ◌+◌, drop}
use Rattle.printing_meaning.specs.EditLines as printed
use Rattle.report_text.proofs.logs.log_text.Given as goal

-- The lines so far, and those that are left.
abbrev pub invariant-loop-before : goal.invariant-loop-before
invariant-loop-before l = l.text ++ printed.entry_lines (l.before + 1) (drop l.before l.log) ≡ l.initial.text ++ printed.entry_lines 1 l.log
