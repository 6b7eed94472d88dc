use Rattle.std.proofs.Common.{◌≡◌, ◌++◌}
use Rattle.folder_load.proofs.loading.add_all.Given as goal

-- The origins so far are added.
abbrev pub invariant-loop-origin : goal.invariant-loop-origin
invariant-loop-origin l = l.origins ≡ l.initial.origins ++ l.yielded
