use Rattle.std.proofs.Common.{refl}
use Rattle.script_reader.specs.Commands.{read_command}
use Rattle.run_status.proofs.Taking.{TookOn-part, TookOn-whole}
use Rattle.mmt_top.proofs.Outside.{sink_failed, sink_goes_on, sink_untouched}
use Rattle.mmt_top.proofs.Spoken.{command_map}
use Rattle.mmt_top.proofs.speak.speak.Goals as goal

pub returns-in_default-clause-spoken : goal.returns-in_default-clause-spoken
returns-in_default-clause-spoken g c = command_map (read_command c.args.command) (λ spoken may. (refl, may)) c.in_default.ensures.answers

pub returns-in_default-clause-sink : goal.returns-in_default-clause-sink
returns-in_default-clause-sink g c = sink_untouched (g.K.Sink.taken c.args.sink.now) (g.K.Sink.faults c.args.sink.now)

pub returns-in-Ok-write_all-clause-sink : goal.returns-in-Ok-write_all-clause-sink
returns-in-Ok-write_all-clause-sink g c =
    sink_goes_on (g.K.Sink.taken c.args.sink.now) (g.K.Sink.taken c.write_all.new.sink) (g.K.Sink.faults c.args.sink.now) (g.K.Sink.faults c.write_all.new.sink)
    (TookOn-whole (g.K.Sink.taken c.args.sink.now) (g.K.Sink.taken c.write_all.new.sink) c.as_slice.result.now c.in-Ok-write_all.ensures.all) c.write_all.ensures.cause.later

pub returns-clause-sink : goal.returns-clause-sink
returns-clause-sink g c =
    sink_failed (g.K.Sink.taken c.args.sink.now) (g.K.Sink.taken c.write_all.new.sink) (g.K.Sink.faults c.args.sink.now) (g.K.Sink.faults c.write_all.new.sink)
    (TookOn-part (g.K.Sink.taken c.args.sink.now) (g.K.Sink.taken c.write_all.new.sink) c.as_slice.result.now c.in-Err.ensures.failed) c.in-Err.ensures.cause.failed c.write_all.ensures.cause.later
