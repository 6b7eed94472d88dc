use Rattle.std.proofs.Common.{◌≡◌, refl, sym, subst}
use Rattle.std.specs.Prelude.{IfSome, IsNone}
use denote.Exit.{yes}
use denote.Param.Send.{arg_send, arg_sync, param_send, param_sync}
use Rattle.board_front.proofs.Subject.{verdict_row_send, verdict_row_sync}
use Rattle.text_meaning.specs.Dependencies.{dependencies}
use Rattle.worker_crew.specs.Leading.{WasLed}
use Rattle.folder_front.specs.Checked.{IsFolderLed}
use Rattle.mmt_top.proofs.CheckedFolders.{nothing_checked, was_checked}
use Rattle.mmt_top.proofs.folder_session.check_on.Goals as goal

pub lead-led-requires-send-S-Answer : goal.lead-led-requires-send-S-Answer
lead-led-requires-send-S-Answer g c κs within = param_send _ _ (arg_send _ yes _ verdict_row_send)

pub lead-led-requires-sync-S-Answer : goal.lead-led-requires-sync-S-Answer
lead-led-requires-sync-S-Answer g c κs within = param_sync _ _ (arg_sync _ yes _ verdict_row_sync)

pub returns-in-Some-clause-led : goal.returns-in-Some-clause-led
returns-in-Some-clause-led g c =
    was_checked c.in-Some.status c.args.path.now (g.F.Folder.files c.args.folder.now) (g.F.Folder.files c.lead-led.new.input) (g.F.Folder.faults c.args.folder.now) (g.F.Folder.faults c.lead-led.new.input)
    (g.K.Sink.taken c.args.sink.now) (g.K.Sink.taken c.lead-led.new.output) (g.K.Sink.faults c.args.sink.now) (g.K.Sink.faults c.lead-led.new.output) c.lead-led.result.board
    (subst
    (λ end. IfSome end (λ status. WasLed dependencies (IsFolderLed status c.args.path.now (g.F.Folder.files c.args.folder.now) (g.F.Folder.files c.lead-led.new.input) (g.F.Folder.faults c.args.folder.now) (g.F.Folder.faults c.lead-led.new.input) (g.K.Sink.taken c.args.sink.now) (g.K.Sink.taken c.lead-led.new.output) (g.K.Sink.faults c.args.sink.now) (g.K.Sink.faults c.lead-led.new.output)) c.lead-led.result.board))
    c.in-Some.is c.lead-led.ensures.led)

pub returns-in-None-clause-led : goal.returns-in-None-clause-led
returns-in-None-clause-led g c =
    let none = c.lead-led.ensures.none (subst IsNone (sym c.in-None.is) refl) in
    let status = c.unbegun.result.status in
    let board = c.unbegun.result.board in
    subst
    (λ folder. IfSome board (IsFolderLed status c.args.path.now (g.F.Folder.files c.args.folder.now) (g.F.Folder.files folder) (g.F.Folder.faults c.args.folder.now) (g.F.Folder.faults folder) (g.K.Sink.taken c.args.sink.now) (g.K.Sink.taken c.lead-led.new.output) (g.K.Sink.faults c.args.sink.now) (g.K.Sink.faults c.lead-led.new.output)))
    (sym none.1)
    (subst
    (λ sink. IfSome board (IsFolderLed status c.args.path.now (g.F.Folder.files c.args.folder.now) (g.F.Folder.files c.args.folder.now) (g.F.Folder.faults c.args.folder.now) (g.F.Folder.faults c.args.folder.now) (g.K.Sink.taken c.args.sink.now) (g.K.Sink.taken sink) (g.K.Sink.faults c.args.sink.now) (g.K.Sink.faults sink)))
    (sym none.2)
    (nothing_checked status c.args.path.now (g.F.Folder.files c.args.folder.now) (g.F.Folder.faults c.args.folder.now) (g.K.Sink.taken c.args.sink.now) (g.K.Sink.faults c.args.sink.now) board c.unbegun.ensures.status c.unbegun.ensures.board))
