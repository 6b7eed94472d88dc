use denote.Exit.{yes}
use denote.Param.Send.{arg_send, arg_sync, param_send, param_sync}
use Rattle.board_front.proofs.Subject.{verdict_row_send, verdict_row_sync}
use Rattle.std.specs.Prelude.{None}
use Rattle.command_words_meaning.specs.WordLists.{CheckFolder}
use Rattle.run_status.proofs.Taking.{TookOn-none}
use Rattle.mmt_top.proofs.CheckedFolders.{nothing_left, nothing_listed, says_left, says_printed, says_took}
use Rattle.mmt_top.proofs.ToldTyping.{tells_typed}
use Rattle.mmt_top.proofs.folder_session.check_folder.Goals as goal

pub new-requires-send-S-Answer : goal.new-requires-send-S-Answer
new-requires-send-S-Answer g c κs = param_send _ _ (arg_send _ yes _ verdict_row_send)

pub new-requires-sync-S-Answer : goal.new-requires-sync-S-Answer
new-requires-sync-S-Answer g c κs = param_sync _ _ (arg_sync _ yes _ verdict_row_sync)

pub returns-in_default-clause-output : goal.returns-in_default-clause-output
returns-in_default-clause-output g c = nothing_listed c.args.path.now (g.K.Sink.taken c.args.sink.now) (g.F.Folder.files c.args.folder.now)

pub returns-in_default-clause-leaves : goal.returns-in_default-clause-leaves
returns-in_default-clause-leaves g c = nothing_left (g.F.Folder.files c.args.folder.now)

pub returns-in_default-clause-typed : goal.returns-in_default-clause-typed
returns-in_default-clause-typed g c = tells_typed (CheckFolder c.args.path.now) None (g.F.Folder.files c.args.folder.now)

pub returns-clause-output : goal.returns-clause-output
returns-clause-output g c =
    says_printed c.check_on.result.status c.args.path.now (g.F.Folder.files c.args.folder.now) (g.F.Folder.files c.check_on.new.folder) (g.F.Folder.faults c.args.folder.now) (g.F.Folder.faults c.check_on.new.folder)
    (g.K.Sink.taken c.args.sink.now) (g.K.Sink.taken c.check_on.new.sink) (g.K.Sink.faults c.args.sink.now) (g.K.Sink.faults c.check_on.new.sink) c.check_on.result.board c.check_on.ensures.some c.check_on.ensures.led

pub returns-clause-leaves : goal.returns-clause-leaves
returns-clause-leaves g c =
    says_left c.check_on.result.status c.args.path.now (g.F.Folder.files c.args.folder.now) (g.F.Folder.files c.check_on.new.folder) (g.F.Folder.faults c.args.folder.now) (g.F.Folder.faults c.check_on.new.folder)
    (g.K.Sink.taken c.args.sink.now) (g.K.Sink.taken c.check_on.new.sink) (g.K.Sink.faults c.args.sink.now) (g.K.Sink.faults c.check_on.new.sink) c.check_on.result.board c.check_on.ensures.some c.check_on.ensures.led

pub returns-clause-typed : goal.returns-clause-typed
returns-clause-typed g c = tells_typed (CheckFolder c.args.path.now) None (g.F.Folder.files c.args.folder.now)

pub returns-in_default-clause-took : goal.returns-in_default-clause-took
returns-in_default-clause-took g c = TookOn-none (g.K.Sink.taken c.args.sink.now)

pub returns-clause-took : goal.returns-clause-took
returns-clause-took g c =
    says_took c.check_on.result.status c.args.path.now (g.F.Folder.files c.args.folder.now) (g.F.Folder.files c.check_on.new.folder) (g.F.Folder.faults c.args.folder.now) (g.F.Folder.faults c.check_on.new.folder)
    (g.K.Sink.taken c.args.sink.now) (g.K.Sink.taken c.check_on.new.sink) (g.K.Sink.faults c.args.sink.now) (g.K.Sink.faults c.check_on.new.sink) c.check_on.result.board c.check_on.ensures.some c.check_on.ensures.led
