use Rattle.run_status.specs.declared.status.Status.TheVariants.{ScriptFault}
use Rattle.run_status.proofs.Taking.{TookOn-part}
use Rattle.mmt_top.proofs.Outside.{sink_failed, sink_flushed}
use Rattle.mmt_top.proofs.speak.write_fault.Goals as goal

pub returns-in-Ok-clause-sink : goal.returns-in-Ok-clause-sink
returns-in-Ok-clause-sink g c =
    sink_flushed ScriptFault (g.K.Sink.taken c.args.sink.now) (g.K.Sink.taken c.write_last.new.sink) c.args.line.now (g.K.Sink.faults c.args.sink.now) (g.K.Sink.faults c.write_last.new.sink)
    (λ e. cc) c.in-Ok.ensures.all c.write_last.ensures.cause.later

pub returns-in-Err-clause-sink : goal.returns-in-Err-clause-sink
returns-in-Err-clause-sink g c =
    sink_failed (g.K.Sink.taken c.args.sink.now) (g.K.Sink.taken c.write_last.new.sink) (g.K.Sink.faults c.args.sink.now) (g.K.Sink.faults c.write_last.new.sink)
    (TookOn-part (g.K.Sink.taken c.args.sink.now) (g.K.Sink.taken c.write_last.new.sink) c.args.line.now c.in-Err.ensures.failed) c.in-Err.ensures.cause.failed c.write_last.ensures.cause.later
