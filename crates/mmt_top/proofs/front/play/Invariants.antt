use Rattle.std.proofs.Common.{◌≡◌, ◌≤◌, false}
use Rattle.mmt_outside.specs.Bytes.{ReadPrefix}
use Rattle.script_reader.specs.Reading.{to_come}
use Rattle.board_seats.specs.Seats.{Keeps}
use Rattle.board_front.specs.Staying.{IsFront}
use Rattle.run_status.specs.Taking.{TookOn}
use Rattle.mmt_top.proofs.Sessions.{Played, start}
use Rattle.mmt_top.proofs.front.play.Given as goal

abbrev pub invariant-loop : goal.invariant-loop
invariant-loop g l = record {
  keeps : Keeps l.fn.pass l.pass;
  front : IsFront l.log l.pass.seen;
  played : Played (g.K.Sink.taken l.fn.sink) (g.K.Sink.taken l.sink) (to_come start (g.S.Source.left l.fn.source)) (to_come l.script (g.S.Source.left l.source))
      l.fn.pass.seen l.pass.seen start l.script;
  left : ReadPrefix (to_come start (g.S.Source.left l.fn.source)) (to_come l.script (g.S.Source.left l.source));
  fresh : l.script.is_spent ≡ false;
  source_later : g.S.Source.faults l.fn.source ≤ g.S.Source.faults l.source;
  sink_later : g.K.Sink.faults l.fn.sink ≤ g.K.Sink.faults l.sink;
  took : TookOn (g.K.Sink.taken l.fn.sink) (g.K.Sink.taken l.sink);
}
