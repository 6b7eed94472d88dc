use Rattle.std.proofs.Common.{suc, is_some, true≢false, sym, ap, ◌∙◌}
use Rattle.std.specs.Option.{option_copied}
use Rattle.edit_log_meaning.specs.Log.{Library, text_of}
use Rattle.edit_log_laws.proofs.Libraries.{library_ascending}
use Rattle.board_meaning.specs.Events.{log_of, library_after, version_after}
use Rattle.edit_log.specs.Readings.{read_edit}
use Rattle.verdict_board.specs.Stages.{after_edit_of}
use Rattle.verdict_board.proofs.Edits.{library_edited}
use Rattle.verdict_board.proofs.EditSteps.{ungrounded_present}
use Rattle.verdict_board.proofs.board.Board.ring_stage.Goals as goal

pub unreachable-requires : goal.unreachable-requires
unreachable-requires g c =
    let lib = library_edited c.args.self.now (read_edit c.args.edit.now) 0 (suc (version_after c.args.self.now)) in
    true≢false (sym (ungrounded_present g.S.Subject.subject.dependencies (library_after (after_edit_of c.args.self.now (read_edit c.args.edit.now))) c.args.name.now c.requires.ungrounded)
    ∙ ap (λ (z : Library). is_some (text_of z c.args.name.now)) lib ∙ ap is_some (sym c.text_after.ensures.text ∙ ap option_copied c.in_default.is))

pub cyclic-requires-clause-given : goal.cyclic-requires-clause-given
cyclic-requires-clause-given g c = (
  library_after (after_edit_of c.args.self.now (read_edit c.args.edit.now)),
  record {
    is_library = library_ascending (log_of (after_edit_of c.args.self.now (read_edit c.args.edit.now)));
    has = ap (λ (z : Library). text_of z c.args.name.now) (library_edited c.args.self.now (read_edit c.args.edit.now) 0 (suc (version_after c.args.self.now))) ∙ sym c.in-Some.ensures.text;
    ungrounded = c.requires.ungrounded;
    others = sym c.requires.others;
  },
)

pub returns : goal.returns
returns g c = record {
  ungrounded = c.requires.ungrounded;
  answers = c.in_ok-answer.ensures (library_after (after_edit_of c.args.self.now (read_edit c.args.edit.now)))
      (record {
        is_library = library_ascending (log_of (after_edit_of c.args.self.now (read_edit c.args.edit.now)));
        has = ap (λ (z : Library). text_of z c.args.name.now) (library_edited c.args.self.now (read_edit c.args.edit.now) 0 (suc (version_after c.args.self.now))) ∙ sym c.in-Some.ensures.text;
        ungrounded = c.requires.ungrounded;
        others = sym c.requires.others;
      });
}
