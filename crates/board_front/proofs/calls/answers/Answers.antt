use Rattle.std.proofs.Common.{refl}
use denote.Exit.{yes}
use denote.Param.Send.{arg_send, arg_sync, param_send, param_sync}
use Rattle.board_meaning.specs.Points.{AsksAnswers}
use Rattle.mmt_interface.specs.Readings.{read_verdict}
use Rattle.board_seats.specs.Replies.{read_question}
use Rattle.module_check.proofs.Crossing.{verdict_row_send, verdict_row_sync}
use Rattle.board_front.proofs.CallPoints.{called_keeps, called_stays, answers_told}
use Rattle.board_front.proofs.calls.answers.Goals as goal

pub answers-requires-send-S-Answer : goal.answers-requires-send-S-Answer
answers-requires-send-S-Answer g c κs within = param_send _ _ (arg_send _ yes _ verdict_row_send)

pub answers-requires-sync-S-Answer : goal.answers-requires-sync-S-Answer
answers-requires-sync-S-Answer g c κs within = param_sync _ _ (arg_sync _ yes _ verdict_row_sync)

pub returns-clause-keeps : goal.returns-clause-keeps
returns-clause-keeps g c = called_keeps c.args.pass.now c.answers.new.pass c.requires.front.first (AsksAnswers c.args.name.now) (read_question read_verdict c.answers.result) c.answers.ensures

pub returns-clause-answers : goal.returns-clause-answers
returns-clause-answers g c = answers_told c.args.pass.now c.answers.new.pass c.requires.front.first c.args.name.now c.answers.result c.answers.ensures

pub returns-clause-stays : goal.returns-clause-stays
returns-clause-stays g c =
    called_stays c.args.pass.now c.answers.new.pass c.requires.front.first (AsksAnswers c.args.name.now) (read_question read_verdict c.answers.result) refl c.answers.ensures
