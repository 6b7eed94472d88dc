use Rattle.board_front.proofs.Histories.{keeps_on}
use Rattle.mmt_top.proofs.Sessions.{ended_later}
use Rattle.mmt_top.proofs.front.lead.Goals as goal

pub returns-clause-keeps : goal.returns-clause-keeps
returns-clause-keeps g c = keeps_on c.args.pass.now c.play-status.new.pass c.close.new.pass c.play-status.ensures.keeps c.close.ensures.keeps

pub returns-clause-led : goal.returns-clause-led
returns-clause-led g c = record {
  legal = c.close.ensures.stays.legal;
  closed = c.close.ensures.closed;
  ends = ended_later c.play-status.result (g.K.Sink.taken c.args.sink.now) (g.K.Sink.taken c.play-status.new.sink) (g.S.Source.left c.args.source.now) c.play-status.new.pass.seen c.close.new.pass.seen c.close.ensures.stays c.play-status.ensures.ends;
  read_all = c.play-status.ensures.read_all;
  part_read = c.play-status.ensures.left;
  answers = c.play-status.ensures.status;
  source = c.play-status.ensures.source;
  sink = c.play-status.ensures.sink;
}
