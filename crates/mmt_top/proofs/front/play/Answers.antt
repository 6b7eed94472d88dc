use Rattle.std.proofs.Common.{◌≡◌, ℕ, List, [], refl, sym, ap, subst, arith}
use Rattle.std.specs.Prelude.{Option, Some, IfSome}
use Rattle.script_reader.specs.Reading.{Reading, to_come}
use Rattle.board_front.proofs.Histories.{keeps_on}
use Rattle.run_status.specs.declared.status.Status.{Status}
use Rattle.run_status.proofs.Taking.{TookOn-more, TookOn-none}
use Rattle.mmt_top.specs.Session.{TurnTells}
use Rattle.mmt_outside.specs.Bytes.{ReadPrefix}
use Rattle.mmt_outside.proofs.Bytes.{preceded-nil, ReadPrefix-more, ReadPrefix-none}
use Rattle.mmt_top.proofs.Outside.{sink_more, source_more}
use Rattle.mmt_top.proofs.Sessions.{ended_whole, start, played_more, played_end, played_done, played_start}
use Rattle.mmt_top.proofs.Led.{empty_legal}
use Rattle.generator_front.proofs.GivenEdits.{empty_front}
use Rattle.mmt_top.proofs.front.play.Goals as goal

pub returns-in-Some-turn-clause-ends : goal.returns-in-Some-turn-clause-ends
returns-in-Some-turn-clause-ends g c =
    ended_whole c.in-Some-turn.status (g.K.Sink.taken c.args.sink.now) (g.K.Sink.taken c.turn.new.sink) (g.S.Source.left c.args.source.now) c.args.pass.now.seen c.turn.new.pass.seen c.requires.empty
    (played_end c.in-Some-turn.status (g.K.Sink.taken c.args.sink.now) (g.K.Sink.taken c.loop.sink) (g.K.Sink.taken c.turn.new.sink)
    (to_come start (g.S.Source.left c.args.source.now)) (to_come c.loop.script (g.S.Source.left c.loop.source)) (to_come c.turn.new.script (g.S.Source.left c.turn.new.source))
    c.args.pass.now.seen c.loop.pass.seen c.turn.new.pass.seen start c.loop.script c.turn.new.script c.loop.invariant.played c.in-Some-turn.ensures.tells)

pub returns-in-Some-turn-clause-read_all : goal.returns-in-Some-turn-clause-read_all
returns-in-Some-turn-clause-read_all g c = λ done.
    subst (λ (come : Option (List ℕ)). IfSome come (λ bytes. g.S.Source.left c.turn.new.source ≡ Some [])) (preceded-nil (g.S.Source.left c.args.source.now))
    (played_done (g.K.Sink.taken c.args.sink.now) (g.K.Sink.taken c.loop.sink) (g.K.Sink.taken c.turn.new.sink)
    (to_come start (g.S.Source.left c.args.source.now)) (to_come c.loop.script (g.S.Source.left c.loop.source)) c.turn.new.script.buffered (g.S.Source.left c.turn.new.source)
    c.args.pass.now.seen c.loop.pass.seen c.turn.new.pass.seen start c.loop.script c.turn.new.script c.loop.invariant.played
    (subst (λ (status : Status). IfSome (to_come c.loop.script (g.S.Source.left c.loop.source)) (λ bytes. TurnTells (Some status) (g.K.Sink.taken c.loop.sink) (g.K.Sink.taken c.turn.new.sink)
    bytes (to_come c.turn.new.script (g.S.Source.left c.turn.new.source)) c.loop.pass.seen c.turn.new.pass.seen c.loop.script c.turn.new.script))
    done c.in-Some-turn.ensures.tells))

pub returns-in-Some-turn-clause-left : goal.returns-in-Some-turn-clause-left
returns-in-Some-turn-clause-left g c =
    subst (λ (come : Option (List ℕ)). ReadPrefix come (g.S.Source.left c.turn.new.source)) (preceded-nil (g.S.Source.left c.args.source.now))
    (ReadPrefix-more (to_come start (g.S.Source.left c.args.source.now)) (to_come c.loop.script (g.S.Source.left c.loop.source)) (g.S.Source.left c.turn.new.source) c.loop.invariant.left
    (ReadPrefix-more (to_come c.loop.script (g.S.Source.left c.loop.source)) (to_come c.turn.new.script (g.S.Source.left c.turn.new.source)) (g.S.Source.left c.turn.new.source) c.turn.ensures.left
    (record { piece = c.turn.new.script.buffered; read = refl })))

pub returns-in-Some-turn-clause-source : goal.returns-in-Some-turn-clause-source
returns-in-Some-turn-clause-source g c =
    source_more (Some c.in-Some-turn.status) (g.S.Source.faults c.args.source.now) (g.S.Source.faults c.loop.source) (g.S.Source.faults c.turn.new.source) c.loop.invariant.source_later c.in-Some-turn.ensures.source

pub returns-in-Some-turn-clause-sink : goal.returns-in-Some-turn-clause-sink
returns-in-Some-turn-clause-sink g c =
    sink_more (Some c.in-Some-turn.status) (g.K.Sink.taken c.args.sink.now) (g.K.Sink.taken c.loop.sink) (g.K.Sink.taken c.turn.new.sink)
    (g.K.Sink.faults c.args.sink.now) (g.K.Sink.faults c.loop.sink) (g.K.Sink.faults c.turn.new.sink) c.loop.invariant.took c.loop.invariant.sink_later c.in-Some-turn.ensures.sink

pub loop-preserved : goal.loop-preserved
loop-preserved g c = record {
  keeps = keeps_on c.args.pass.now c.loop.pass c.turn.new.pass c.loop.invariant.keeps c.turn.ensures.keeps;
  front = c.in_default.ensures.front refl;
  played = played_more (g.K.Sink.taken c.args.sink.now) (g.K.Sink.taken c.loop.sink) (g.K.Sink.taken c.turn.new.sink)
      (to_come start (g.S.Source.left c.args.source.now)) (to_come c.loop.script (g.S.Source.left c.loop.source)) (to_come c.turn.new.script (g.S.Source.left c.turn.new.source))
      c.args.pass.now.seen c.loop.pass.seen c.turn.new.pass.seen start c.loop.script c.turn.new.script c.loop.invariant.played c.in_default.ensures.tells;
  left = ReadPrefix-more (to_come start (g.S.Source.left c.args.source.now)) (to_come c.loop.script (g.S.Source.left c.loop.source)) (to_come c.turn.new.script (g.S.Source.left c.turn.new.source))
      c.loop.invariant.left c.turn.ensures.left;
  fresh = c.in_default.ensures.on refl;
  source_later = (let so_far = c.loop.invariant.source_later in let later = c.turn.ensures.source.later in omega (arith, so_far, later));
  sink_later = (let so_far = c.loop.invariant.sink_later in let later = c.turn.ensures.sink.later in omega (arith, so_far, later));
  took = TookOn-more (g.K.Sink.taken c.args.sink.now) (g.K.Sink.taken c.loop.sink) (g.K.Sink.taken c.turn.new.sink) c.loop.invariant.took c.turn.ensures.sink.took;
}

pub loop-init : goal.loop-init
loop-init g c = record {
  keeps = refl;
  front = empty_front c.new-log.result c.args.pass.now.seen c.new-log.ensures c.requires.empty;
  played = played_start (g.K.Sink.taken c.args.sink.now) (g.S.Source.left c.args.source.now) c.args.pass.now.seen c.new-script.result (empty_legal c.args.pass.now.seen c.requires.empty) c.new-script.ensures;
  left = subst (λ (script : Reading). ReadPrefix (to_come start (g.S.Source.left c.args.source.now)) (to_come script (g.S.Source.left c.args.source.now))) (sym c.new-script.ensures)
      (ReadPrefix-none (to_come start (g.S.Source.left c.args.source.now)));
  fresh = ap (λ (reading : Reading). reading.is_spent) c.new-script.ensures;
  source_later = omega arith;
  sink_later = omega arith;
  took = TookOn-none (g.K.Sink.taken c.args.sink.now);
}
