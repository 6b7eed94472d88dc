use Rattle.std.proofs.lemmas.Result.{err_from_is_err_and}
use Rattle.run_status.proofs.Taking.{TookOn-none}
use Rattle.folder_front.specs.Stops.{by_folder}
use Rattle.folder_front.specs.declared.stop.Stop.TheVariants.{Memory}
use Rattle.folder_front.proofs.Ended.{all_made, printed_folder, prints_on, prints_whole, unedited_ends, unloaded_ends}
use Rattle.folder_front.proofs.Results.{ends_error}
use Rattle.folder_front.proofs.front.check.Goals as goal

pub returns-in_err-loaded-clause-ends : goal.returns-in_err-loaded-clause-ends
returns-in_err-loaded-clause-ends g c =
    let files = g.F.Folder.files c.args.folder.now in
    let before = g.K.Sink.taken c.args.sink.now in
    let p = err_from_is_err_and c.from_residual.result c.from_residual.ensures.1 in
    let fault = c.in_err-loaded.field-0.0 in
    ends_error c.from_residual.result p.0 (by_folder fault) files c.args.path.now before before c.args.pass.now.seen p.1 p.2
    (unloaded_ends files c.args.path.now fault before c.args.pass.now.seen c.requires.empty)

pub returns-in_err-log-clause-ends : goal.returns-in_err-log-clause-ends
returns-in_err-log-clause-ends g c =
    let files = g.F.Folder.files c.args.folder.now in
    let before = g.K.Sink.taken c.args.sink.now in
    let p = err_from_is_err_and c.from_residual-in_err-log.result c.from_residual-in_err-log.ensures.1 in
    ends_error c.from_residual-in_err-log.result p.0 Memory files c.args.path.now before before c.make_edits.new.pass.seen p.1 p.2
    (unedited_ends files c.args.path.now c.in_ok-loaded.loaded before c.make_edits.new.pass.seen c.in_ok-loaded.ensures.loaded c.in_err-log.ensures.so_far)

pub returns-in_err-sheet-clause-ends : goal.returns-in_err-sheet-clause-ends
returns-in_err-sheet-clause-ends g c =
    let files = g.F.Folder.files c.args.folder.now in
    let before = g.K.Sink.taken c.args.sink.now in
    let history = c.make_edits.new.pass.seen in
    let p = err_from_is_err_and c.from_residual-in_err-sheet.result c.from_residual-in_err-sheet.ensures.1 in
    ends_error c.from_residual-in_err-sheet.result p.0 Memory files c.args.path.now before before history p.1 p.2
    (unedited_ends files c.args.path.now c.in_ok-loaded.loaded before history c.in_ok-loaded.ensures.loaded
    (all_made c.in_ok-loaded.loaded.log c.in_ok-log.log history c.in_ok-log.ensures.made c.in_ok-log.ensures.front))

pub returns-clause-ends : goal.returns-clause-ends
returns-clause-ends g c =
    printed_folder c.args.path.now c.in_ok-loaded.loaded c.in_ok-log.log (g.K.Sink.taken c.args.sink.now) (g.K.Sink.taken c.print.new.sink)
    c.make_edits.new.pass.seen c.print.new.pass.seen c.in_ok-log.ensures.made c.in_ok-log.ensures.front c.print.ensures.stays
    (g.F.Folder.files c.args.folder.now) c.in_ok-sheet.sheet c.print.result c.in_ok-loaded.ensures.loaded c.in_ok-sheet.ensures c.print.ensures.prints

pub returns-clause-whole : goal.returns-clause-whole
returns-clause-whole g c =
    prints_whole c.print.result (g.K.Sink.taken c.args.sink.now) (g.K.Sink.taken c.print.new.sink) c.in_ok-sheet.sheet c.print.new.pass.seen c.print.ensures.prints

pub returns-in_err-loaded-clause-took : goal.returns-in_err-loaded-clause-took
returns-in_err-loaded-clause-took g c = TookOn-none (g.K.Sink.taken c.args.sink.now)

pub returns-in_err-log-clause-took : goal.returns-in_err-log-clause-took
returns-in_err-log-clause-took g c = TookOn-none (g.K.Sink.taken c.args.sink.now)

pub returns-in_err-sheet-clause-took : goal.returns-in_err-sheet-clause-took
returns-in_err-sheet-clause-took g c = TookOn-none (g.K.Sink.taken c.args.sink.now)

pub returns-clause-took : goal.returns-clause-took
returns-clause-took g c =
    prints_on c.print.result (g.K.Sink.taken c.args.sink.now) (g.K.Sink.taken c.print.new.sink) c.in_ok-sheet.sheet c.print.new.pass.seen c.print.ensures.prints
