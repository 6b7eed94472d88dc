use Rattle.std.proofs.Common.{◌<◌, false, subst, sym, arith}
use Rattle.mmt_outside.specs.Bytes.{preceded}
use Rattle.script_reader.specs.HeldTexts.{Held}
use Rattle.script_reader.specs.Texts.{ReadsPiece}
use Rattle.script_reader.specs.declared.text.TextPiece.{TextPiece}
use Rattle.mmt_outside.proofs.Bytes.{ReadPrefix-none, ReadPrefix-more}
use Rattle.script_reader.proofs.TextSoFar.{HasText, HasText-nil, HasText-line, HasText-part, line_grows, part_grows, has_whole, has_last_short, has_last_long, has_longer}
use Rattle.script_reader.proofs.text.read_text.Goals as goal

pub loop-buffer-init : goal.loop-buffer-init
loop-buffer-init g c = record {
  text = subst (λ (held : Held). HasText (preceded c.args.buffer.now (g.S.Source.left c.args.source.now)) (preceded c.args.buffer.now (g.S.Source.left c.args.source.now)) c.args.line.now c.args.line.now false held) (sym c.new-text.ensures)
      (HasText-nil (preceded c.args.buffer.now (g.S.Source.left c.args.source.now)) c.args.line.now);
  left = ReadPrefix-none (preceded c.args.buffer.now (g.S.Source.left c.args.source.now));
  later = omega arith;
}

pub loop-buffer-preserved-in-Part : goal.loop-buffer-preserved-in-Part
loop-buffer-preserved-in-Part g c = record {
  text = HasText-part (preceded c.args.buffer.now (g.S.Source.left c.args.source.now)) (preceded c.loop-buffer.buffer (g.S.Source.left c.loop-buffer.source))
      (preceded c.read_piece.new.buffer (g.S.Source.left c.read_piece.new.source)) c.args.line.now c.loop-buffer.line c.loop-buffer.is_begun c.loop-buffer.text c.read_piece.new.text c.loop-buffer.invariant.text
      (subst (λ (read : TextPiece). ReadsPiece (preceded c.loop-buffer.buffer (g.S.Source.left c.loop-buffer.source))
      (preceded c.read_piece.new.buffer (g.S.Source.left c.read_piece.new.source)) c.loop-buffer.is_begun c.loop-buffer.text c.read_piece.new.text read)
      c.in-Part.is c.in_ok-read.ensures.piece);
  left = ReadPrefix-more (preceded c.args.buffer.now (g.S.Source.left c.args.source.now)) (preceded c.loop-buffer.buffer (g.S.Source.left c.loop-buffer.source))
      (preceded c.read_piece.new.buffer (g.S.Source.left c.read_piece.new.source)) c.loop-buffer.invariant.left c.read_piece.ensures.left;
  later = omega arith;
}

pub loop-buffer-preserved : goal.loop-buffer-preserved
loop-buffer-preserved g c = record {
  text = rw c.saturating_add.ensures (HasText-line (preceded c.args.buffer.now (g.S.Source.left c.args.source.now)) (preceded c.loop-buffer.buffer (g.S.Source.left c.loop-buffer.source))
      (preceded c.read_piece.new.buffer (g.S.Source.left c.read_piece.new.source)) c.args.line.now c.loop-buffer.line c.loop-buffer.is_begun c.loop-buffer.text c.read_piece.new.text c.loop-buffer.invariant.text
      (subst (λ (read : TextPiece). ReadsPiece (preceded c.loop-buffer.buffer (g.S.Source.left c.loop-buffer.source))
      (preceded c.read_piece.new.buffer (g.S.Source.left c.read_piece.new.source)) c.loop-buffer.is_begun c.loop-buffer.text c.read_piece.new.text read)
      c.in-Line.is c.in_ok-read.ensures.piece));
  left = ReadPrefix-more (preceded c.args.buffer.now (g.S.Source.left c.args.source.now)) (preceded c.loop-buffer.buffer (g.S.Source.left c.loop-buffer.source))
      (preceded c.read_piece.new.buffer (g.S.Source.left c.read_piece.new.source)) c.loop-buffer.invariant.left c.read_piece.ensures.left;
  later = omega arith;
}

pub loop-buffer-smaller-in-Part : goal.loop-buffer-smaller-in-Part
loop-buffer-smaller-in-Part g c =
    let grows : c.loop-buffer.text.total < c.read_piece.new.text.total = part_grows (preceded c.loop-buffer.buffer (g.S.Source.left c.loop-buffer.source)) (preceded c.read_piece.new.buffer (g.S.Source.left c.read_piece.new.source))
    c.loop-buffer.is_begun c.loop-buffer.text c.read_piece.new.text (subst (λ (read : TextPiece). ReadsPiece (preceded c.loop-buffer.buffer (g.S.Source.left c.loop-buffer.source))
    (preceded c.read_piece.new.buffer (g.S.Source.left c.read_piece.new.source)) c.loop-buffer.is_begun c.loop-buffer.text c.read_piece.new.text read)
    c.in-Part.is c.in_ok-read.ensures.piece) (omega arith) in
    omega arith

pub loop-buffer-smaller : goal.loop-buffer-smaller
loop-buffer-smaller g c =
    let grows : c.loop-buffer.text.total < c.read_piece.new.text.total = line_grows (preceded c.loop-buffer.buffer (g.S.Source.left c.loop-buffer.source)) (preceded c.read_piece.new.buffer (g.S.Source.left c.read_piece.new.source))
    c.loop-buffer.is_begun c.loop-buffer.text c.read_piece.new.text (subst (λ (read : TextPiece). ReadsPiece (preceded c.loop-buffer.buffer (g.S.Source.left c.loop-buffer.source))
    (preceded c.read_piece.new.buffer (g.S.Source.left c.read_piece.new.source)) c.loop-buffer.is_begun c.loop-buffer.text c.read_piece.new.text read)
    c.in-Line.is c.in_ok-read.ensures.piece) (omega arith) in
    omega arith

pub returns-in-End-clause-text : goal.returns-in-End-clause-text
returns-in-End-clause-text g c =
    rw (c.saturating_add-in-End.ensures, c.into_kept.ensures.kept) (has_whole (preceded c.args.buffer.now (g.S.Source.left c.args.source.now)) (preceded c.loop-buffer.buffer (g.S.Source.left c.loop-buffer.source))
    (preceded c.read_piece.new.buffer (g.S.Source.left c.read_piece.new.source)) c.args.line.now c.loop-buffer.line c.loop-buffer.is_begun c.loop-buffer.text c.read_piece.new.text c.loop-buffer.invariant.text
    (subst (λ (read : TextPiece). ReadsPiece (preceded c.loop-buffer.buffer (g.S.Source.left c.loop-buffer.source))
    (preceded c.read_piece.new.buffer (g.S.Source.left c.read_piece.new.source)) c.loop-buffer.is_begun c.loop-buffer.text c.read_piece.new.text read)
    c.in-End.is c.in_ok-read.ensures.piece) (omega arith))

pub returns-in-Last-clause-text : goal.returns-in-Last-clause-text
returns-in-Last-clause-text g c =
    has_last_long (preceded c.args.buffer.now (g.S.Source.left c.args.source.now)) (preceded c.loop-buffer.buffer (g.S.Source.left c.loop-buffer.source))
    (preceded c.read_piece.new.buffer (g.S.Source.left c.read_piece.new.source)) c.args.line.now c.loop-buffer.line c.loop-buffer.is_begun c.loop-buffer.text c.read_piece.new.text c.loop-buffer.invariant.text
    (subst (λ (read : TextPiece). ReadsPiece (preceded c.loop-buffer.buffer (g.S.Source.left c.loop-buffer.source))
    (preceded c.read_piece.new.buffer (g.S.Source.left c.read_piece.new.source)) c.loop-buffer.is_begun c.loop-buffer.text c.read_piece.new.text read)
    c.in-Last.is c.in_ok-read.ensures.piece) (omega arith)

pub returns-in-Last-2-clause-text : goal.returns-in-Last-2-clause-text
returns-in-Last-2-clause-text g c =
    has_last_short (preceded c.args.buffer.now (g.S.Source.left c.args.source.now)) (preceded c.loop-buffer.buffer (g.S.Source.left c.loop-buffer.source))
    (preceded c.read_piece.new.buffer (g.S.Source.left c.read_piece.new.source)) c.args.line.now c.loop-buffer.line c.loop-buffer.is_begun c.loop-buffer.text c.read_piece.new.text c.loop-buffer.invariant.text
    (subst (λ (read : TextPiece). ReadsPiece (preceded c.loop-buffer.buffer (g.S.Source.left c.loop-buffer.source))
    (preceded c.read_piece.new.buffer (g.S.Source.left c.read_piece.new.source)) c.loop-buffer.is_begun c.loop-buffer.text c.read_piece.new.text read)
    c.in-Last-2.is c.in_ok-read.ensures.piece) (omega arith)

pub returns-clause-text : goal.returns-clause-text
returns-clause-text g c =
    has_longer (preceded c.args.buffer.now (g.S.Source.left c.args.source.now)) (preceded c.loop-buffer.buffer (g.S.Source.left c.loop-buffer.source)) c.args.line.now c.loop-buffer.line c.loop-buffer.is_begun c.loop-buffer.text c.loop-buffer.invariant.text (omega arith)

pub returns-in_err-read-clause-left : goal.returns-in_err-read-clause-left
returns-in_err-read-clause-left g c =
    ReadPrefix-more (preceded c.args.buffer.now (g.S.Source.left c.args.source.now)) (preceded c.loop-buffer.buffer (g.S.Source.left c.loop-buffer.source))
    (preceded c.read_piece.new.buffer (g.S.Source.left c.read_piece.new.source)) c.loop-buffer.invariant.left c.read_piece.ensures.left

pub returns-in-End-clause-left : goal.returns-in-End-clause-left
returns-in-End-clause-left g c =
    ReadPrefix-more (preceded c.args.buffer.now (g.S.Source.left c.args.source.now)) (preceded c.loop-buffer.buffer (g.S.Source.left c.loop-buffer.source))
    (preceded c.read_piece.new.buffer (g.S.Source.left c.read_piece.new.source)) c.loop-buffer.invariant.left c.read_piece.ensures.left

pub returns-in-Last-clause-left : goal.returns-in-Last-clause-left
returns-in-Last-clause-left g c =
    ReadPrefix-more (preceded c.args.buffer.now (g.S.Source.left c.args.source.now)) (preceded c.loop-buffer.buffer (g.S.Source.left c.loop-buffer.source))
    (preceded c.read_piece.new.buffer (g.S.Source.left c.read_piece.new.source)) c.loop-buffer.invariant.left c.read_piece.ensures.left

pub returns-in-Last-2-clause-left : goal.returns-in-Last-2-clause-left
returns-in-Last-2-clause-left g c =
    ReadPrefix-more (preceded c.args.buffer.now (g.S.Source.left c.args.source.now)) (preceded c.loop-buffer.buffer (g.S.Source.left c.loop-buffer.source))
    (preceded c.read_piece.new.buffer (g.S.Source.left c.read_piece.new.source)) c.loop-buffer.invariant.left c.read_piece.ensures.left
