use Rattle.std.proofs.Common.{◌≡◌, true, false, cond, sym, ap, ◌∙◌}
use Rattle.name_meaning.specs.Names.{same_name}
use Rattle.edit_log_meaning.specs.Log.{library_of, text_of, edited_name}
use Rattle.edit_log_laws.specs.LogLaws.{left_by}
use Rattle.edit_log_laws.proofs.Libraries.{text_edited}
use Rattle.board_meaning.specs.Events.{library_after}
use Rattle.edit_log.specs.Readings.{read_edit}
use Rattle.verdict_board.proofs.board.Board.text_after.Goals as goal

pub returns-then-eq-clause-text : goal.returns-then-eq-clause-text
returns-then-eq-clause-text g c =
    let e = read_edit c.args.edit.now in
    let same : same_name c.args.name.now (edited_name e) ≡ true = ap (same_name c.args.name.now) (sym c.name.ensures) ∙ sym c.eq.ensures ∙ c.if-eq.true in
    c.put_text.ensures.text ∙ sym (text_edited (library_after c.args.self.now) e c.args.name.now ∙ ap (λ b. cond b (left_by e) (text_of (library_after c.args.self.now) c.args.name.now)) same)

pub returns-clause-text : goal.returns-clause-text
returns-clause-text g c =
    let e = read_edit c.args.edit.now in
    let same : same_name c.args.name.now (edited_name e) ≡ false = ap (same_name c.args.name.now) (sym c.name.ensures) ∙ sym c.eq.ensures ∙ c.if-eq.false in
    c.text.ensures.text ∙ ap (λ log. text_of (library_of log) c.args.name.now) c.self.invariant.logged
    ∙ rw (← c.self.view_is) (sym (text_edited (library_after c.self.inside.history.entries) e c.args.name.now ∙ ap (λ b. cond b (left_by e) (text_of (library_after c.self.inside.history.entries) c.args.name.now)) same))
