use Rattle.std.proofs.Common.{◌≡◌, ℕ, List, subst, sym, ap, ◌∙◌}
use Rattle.std.specs.Prelude.{Some}
use Rattle.mmt_outside.specs.Bytes.{preceded}
use Rattle.printing_meaning.specs.Lines.{content_of}
use Rattle.run_meaning.specs.ScriptCommands as meant
use Rattle.script_reader.specs.Said.{read_said}
use Rattle.script_reader.specs.declared.said.Said.{Said}
use Rattle.script_reader.specs.Answers.{IsFirstLine}
use Rattle.script_reader.specs.declared.next.FirstLine.{FirstLine}
use Rattle.script_reader.proofs.Puts.{missing_answer, put_answer}
use Rattle.mmt_outside.proofs.Bytes.{ReadPrefix-more}
use Rattle.script_reader.proofs.next.next.Goals as goal

pub returns-in-Missing-clause-answer : goal.returns-in-Missing-clause-answer
returns-in-Missing-clause-answer g c =
    let missing = subst (λ (line : FirstLine). IsFirstLine line (preceded c.args.buffer.now (g.S.Source.left c.args.source.now)) (preceded c.first_line.new.buffer (g.S.Source.left c.first_line.new.source)))
    c.in-Missing.is c.in_ok-text.ensures.line in
    missing_answer (preceded c.args.buffer.now (g.S.Source.left c.args.source.now)) (preceded c.first_line.new.buffer (g.S.Source.left c.first_line.new.source)) missing.0 missing.1

pub returns-in-Puts-clause-answer : goal.returns-in-Puts-clause-answer
returns-in-Puts-clause-answer g c =
    let whole = subst (λ (line : FirstLine). IsFirstLine line (preceded c.args.buffer.now (g.S.Source.left c.args.source.now)) (preceded c.first_line.new.buffer (g.S.Source.left c.first_line.new.source)))
    c.in-Whole.is c.in_ok-text.ensures.line in
    let said : Some (meant.Puts c.in-Puts.name) ≡ Some (meant.said_by (content_of c.in-Whole.text.items)) =
    sym (ap (λ (s : Said). read_said s) c.in-Puts.is) ∙ c.in_ok-name.ensures.said ∙ ap (λ (bs : List ℕ). Some (meant.said_by (content_of bs))) c.deref.ensures.value in
    put_answer _ c.in-Puts.name c.in-Whole.text.items (preceded c.args.buffer.now (g.S.Source.left c.args.source.now))
    (preceded c.first_line.new.buffer (g.S.Source.left c.first_line.new.source)) (preceded c.put.new.buffer (g.S.Source.left c.put.new.source))
    c.args.line.now c.saturating_add.result c.put.new.line said c.saturating_add.ensures (whole.0, whole.1) c.put.ensures.answer

pub returns-in-Puts-clause-left : goal.returns-in-Puts-clause-left
returns-in-Puts-clause-left g c =
    ReadPrefix-more (preceded c.args.buffer.now (g.S.Source.left c.args.source.now)) (preceded c.first_line.new.buffer (g.S.Source.left c.first_line.new.source))
    (preceded c.put.new.buffer (g.S.Source.left c.put.new.source)) c.first_line.ensures.left c.put.ensures.left
