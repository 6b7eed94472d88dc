use Rattle.std.proofs.Common.{sym, ap, ◌∙◌}
use Rattle.folder_front.specs.Stops.{status_by}
use Rattle.folder_front.proofs.Led.{led_by}
use Rattle.folder_front.proofs.front.lead_check.Goals as goal

pub returns-in-Ok-clause-led : goal.returns-in-Ok-clause-led
returns-in-Ok-clause-led g c =
    let front = c.check-checked in
    led_by front.result c.args.path.now (g.F.Folder.files c.args.folder.now) (g.F.Folder.files front.new.folder) (g.F.Folder.faults c.args.folder.now) (g.F.Folder.faults front.new.folder)
    (g.K.Sink.taken c.args.sink.now) (g.K.Sink.taken front.new.sink) (g.K.Sink.faults c.args.sink.now) (g.K.Sink.faults front.new.sink) front.new.pass.seen c.close.new.pass.seen
    c.close.ensures.stays c.close.ensures.closed front.ensures.whole front.ensures.flush front.ensures.read front.ensures.write front.ensures.folder_later front.ensures.sink_later front.ensures.same front.ensures.took
    c.in-Ok.status (sym (ap status_by c.in-Ok.is)) front.ensures.ends

pub returns-in-Err-clause-led : goal.returns-in-Err-clause-led
returns-in-Err-clause-led g c =
    let front = c.check-checked in
    led_by front.result c.args.path.now (g.F.Folder.files c.args.folder.now) (g.F.Folder.files front.new.folder) (g.F.Folder.faults c.args.folder.now) (g.F.Folder.faults front.new.folder)
    (g.K.Sink.taken c.args.sink.now) (g.K.Sink.taken front.new.sink) (g.K.Sink.faults c.args.sink.now) (g.K.Sink.faults front.new.sink) front.new.pass.seen c.close.new.pass.seen
    c.close.ensures.stays c.close.ensures.closed front.ensures.whole front.ensures.flush front.ensures.read front.ensures.write front.ensures.folder_later front.ensures.sink_later front.ensures.same front.ensures.took
    c.status.result (c.status.ensures ∙ sym (ap status_by c.in-Err.is)) front.ensures.ends
