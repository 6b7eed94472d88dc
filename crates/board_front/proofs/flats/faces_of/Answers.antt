use Rattle.std.proofs.Common.{◌≡◌, IfOk, Result, Ok, Option, [], ◌∷◌, ◌++◌, ap, ◌∙◌, subst}
use Rattle.std.specs.Prelude.{option_map}
use Rattle.lf_terms.specs.declared.Memory.{Memory}
use Rattle.name_meaning.specs.Rows.{Rows}
use Rattle.board_meaning.specs.Events.{library_after}
use Rattle.board_meaning.specs.Machine.{answers_reply}
use Rattle.module_graph.specs.Subjects.{read_answers}
use Rattle.verdict_meaning.specs.Rounds.{modules}
use Rattle.mmt_interface.specs.Readings.{read_verdict}
use Rattle.mmt_interface.specs.declared.verdict.Verdict.{Verdict}
use Rattle.module_check.specs.PresentRows.{present_rows}
use Rattle.board_front.specs.Faces.{AreFacesOf}
use Rattle.board_front.proofs.Asked.{asked_told, faces_given, itself_left_out, ok_same}
use Rattle.board_front.proofs.flats.faces_of.Goals as goal

pub unreachable-requires : goal.unreachable-requires
unreachable-requires g c =
    asked_told c.args.pass.now.seen c.answers.new.pass.seen c.args.name.now c.answers.ensures.stays c.requires.grounded c.requires.standing
    (subst (λ (r : Result (Option (Rows (Option Verdict))) Memory). IfOk r (λ answers. option_map (read_answers read_verdict) answers ≡ answers_reply modules c.answers.new.pass.seen c.args.name.now))
    (c.in_ok-answers.was ∙ ap Ok c.in_default.is) c.answers.ensures.answers)

pub returns-clause-faces : goal.returns-clause-faces
returns-clause-faces g c =
    ok_same (AreFacesOf (library_after c.args.pass.now.seen) c.args.name.now c.args.verdict.now) (present_rows c.in-Some.answers ++ (c.args.name.now, c.args.verdict.now) ∷ []) c.faces_with.result c.faces_with.ensures
    (faces_given c.args.pass.now.seen c.answers.new.pass.seen c.args.name.now c.args.verdict.now c.in-Some.answers c.answers.ensures.stays c.requires.told
    (subst (λ (r : Result (Option (Rows (Option Verdict))) Memory). IfOk r (λ answers. option_map (read_answers read_verdict) answers ≡ answers_reply modules c.answers.new.pass.seen c.args.name.now))
    (c.in_ok-answers.was ∙ ap Ok c.in-Some.is) c.answers.ensures.answers))

pub faces_with-requires : goal.faces_with-requires
faces_with-requires g c =
    itself_left_out c.answers.new.pass.seen c.args.name.now c.in-Some.answers
    (subst (λ (r : Result (Option (Rows (Option Verdict))) Memory). IfOk r (λ answers. option_map (read_answers read_verdict) answers ≡ answers_reply modules c.answers.new.pass.seen c.args.name.now))
    (c.in_ok-answers.was ∙ ap Ok c.in-Some.is) c.answers.ensures.answers)
