use Rattle.std.proofs.Common.{◌≡◌, ◌++◌, take}
use Rattle.text_meaning.specs.Tokens.{dotted}
use Rattle.term_text.proofs.constants.path.Given as goal

-- the names so far, each behind a dot
abbrev pub invariant-loop-name : goal.invariant-loop-name
invariant-loop-name l = l.out ≡ l.initial.out ++ dotted (take l.name-index l.others)
