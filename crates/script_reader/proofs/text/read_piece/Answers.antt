use Rattle.std.proofs.Common.{◌≡◌, List, ℕ, false, true, sym, ap, ◌∙◌, arith}
use Rattle.mmt_outside.specs.Bytes.{preceded}
use Rattle.printing_meaning.specs.ScriptLines.{is_end_line}
use Rattle.script_reader.proofs.TextSoFar.{end_piece}
use Rattle.script_reader.proofs.text.read_piece.Goals as goal

pub returns-then-is_end_line-clause-piece : goal.returns-then-is_end_line-clause-piece
returns-then-is_end_line-clause-piece g c =
    let first : c.args.is_begun ≡ false = grind (arith, c.if-not-is_begun.true) in
    let says : is_end_line c.read_line.new.line.items ≡ true =
    sym (c.is_end_line.ensures ∙ ap (λ (bs : List ℕ). is_end_line bs) c.deref.ensures.value) ∙ c.if-is_end_line.true in
    end_piece (preceded c.args.buffer.now (g.S.Source.left c.args.source.now)) (preceded c.read_line.new.buffer (g.S.Source.left c.read_line.new.source))
    c.args.is_begun c.args.text.now c.clear.new.self.items c.read_line.new.line.items c.in_ok-end.end c.clear.ensures.items c.in_ok-end.ensures.line first says
