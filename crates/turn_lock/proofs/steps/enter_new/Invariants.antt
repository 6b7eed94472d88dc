use Rattle.std.proofs.Common.{length, drop}
use Rattle.turn_lock.proofs.steps.enter_new.Given as goal

-- what the value has beyond the entries seen
abbrev pub ghosts-enter : goal.ghosts-enter
ghosts-enter g a = record { added = drop (length a.place.now.me.0.seen) (g.T.Story.entries a.value.now) }
