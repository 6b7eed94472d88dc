use Rattle.std.proofs.Common.{◌<◌, length, Bool, List, ℕ, subst, arith}
use Rattle.std.specs.declared.option.Option.{Option}
use Rattle.mmt_outside.specs.Bytes.{preceded}
use Rattle.script_reader.specs.Pieces.{MovesFront}
use Rattle.script_reader.proofs.Reading.{ReadsPart, ReadsPart-more, ReadsLine-feed, MovesFront-longer}
use Rattle.script_reader.specs.declared.line.LineEnd.TheVariants.{Feed}
use Rattle.script_reader.proofs.Reading.{line_read}
use Rattle.script_reader.proofs.line.read_line.Goals as goal

pub returns-then-branch-clause-line : goal.returns-then-branch-clause-line
returns-then-branch-clause-line g c =
    ReadsLine-feed (preceded c.args.buffer.now (g.S.Source.left c.args.source.now)) c.refill.new.self c.move_front.new.buffer
    (g.S.Source.left c.refill.new.source) c.args.line.now.items c.loop-buffer.line.items c.move_front.new.line.items c.args.most
    (subst (λ (after : Option (List ℕ)). ReadsPart (preceded c.args.buffer.now (g.S.Source.left c.args.source.now)) after c.args.line.now.items c.loop-buffer.line.items)
    c.in_ok-refill.ensures.bytes c.loop-buffer.invariant.part)
    (subst (λ (whole : Bool). MovesFront c.refill.new.self c.move_front.new.buffer c.loop-buffer.line.items c.move_front.new.line.items whole)
    c.if-branch.true c.in_ok-move_front.ensures.moved)

pub loop-buffer-smaller : goal.loop-buffer-smaller
loop-buffer-smaller g c =
    let longer : length c.loop-buffer.line.items < length c.move_front.new.line.items =
    MovesFront-longer c.refill.new.self c.move_front.new.buffer c.loop-buffer.line.items c.move_front.new.line.items c.in_ok-move_front.field-0
    c.in_ok-move_front.ensures.moved (λ e. grind (arith, c.if-is_empty.ensures, e)) in
    omega arith

pub loop-buffer-preserved : goal.loop-buffer-preserved
loop-buffer-preserved g c = record {
  part = ReadsPart-more (preceded c.args.buffer.now (g.S.Source.left c.args.source.now)) c.refill.new.self c.move_front.new.buffer
      (g.S.Source.left c.refill.new.source) c.args.line.now.items c.loop-buffer.line.items c.move_front.new.line.items
      (subst (λ (after : Option (List ℕ)). ReadsPart (preceded c.args.buffer.now (g.S.Source.left c.args.source.now)) after c.args.line.now.items c.loop-buffer.line.items)
      c.in_ok-refill.ensures.bytes c.loop-buffer.invariant.part)
      (subst (λ (whole : Bool). MovesFront c.refill.new.self c.move_front.new.buffer c.loop-buffer.line.items c.move_front.new.line.items whole)
      c.if-branch.false c.in_ok-move_front.ensures.moved);
  later = omega arith;
}

pub returns-then-branch-clause-left : goal.returns-then-branch-clause-left
returns-then-branch-clause-left g c =
    line_read (preceded c.args.buffer.now (g.S.Source.left c.args.source.now)) (preceded c.move_front.new.buffer (g.S.Source.left c.refill.new.source))
    c.args.line.now.items c.move_front.new.line.items c.args.most Feed (returns-then-branch-clause-line g c)
