use Rattle.std.proofs.Common.{◌≡◌, length}
use Rattle.text_meaning.specs.Parsing.{Waiting}
use Rattle.twelf_expressions.specs.Left.{left}
use Rattle.twelf_expressions.specs.Frames.{answer_resumed, waiting}
use Rattle.twelf_expressions.proofs.reader.Reader.resume.Given as goal

abbrev pub invariant-rows : goal.invariant-rows
invariant-rows l = record {
  goes : (k : Waiting) → answer_resumed (waiting k l.initial.stack.frames.items) l.initial.whole (left l.initial.self) ≡ answer_resumed (waiting k l.stack.frames.items) l.whole (left l.self);
  same : length (left l.self) ≡ length (left l.initial.self);
}

abbrev pub decreases-rows : goal.decreases-rows
decreases-rows l = length l.stack.frames.items
