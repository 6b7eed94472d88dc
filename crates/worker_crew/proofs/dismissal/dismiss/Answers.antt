use Rattle.std.proofs.Common.{length, sym, ap, ◌∙◌, subst}
use Rattle.std.proofs.lemmas.List.{map-id}
use Rattle.std.proofs.lemmas.Iterator.Adapters.{YieldsList-from_vec}
use Rattle.std.proofs.lemmas.Iterator.Consumers.{YieldsList-turn, YieldsList-end}
use Rattle.board_meaning.specs.Points.{number_of}
use Rattle.turn_meaning.specs.Passes.{IsIdleOf, Joins}
use Rattle.worker_crew.specs.TakenIn.{TakesIn}
use Rattle.worker_crew.proofs.Joined.{takes_in_none, takes_in_one, is_idle, worker_at, log_is_known, all_joined}
use Rattle.worker_crew.proofs.dismissal.dismiss.Goals.{After-drop-worker-iterator}
use Rattle.worker_crew.proofs.dismissal.dismiss.Given.{Over}
use Rattle.worker_crew.proofs.dismissal.dismiss.Goals as goal

pub loop-worker-init : goal.loop-worker-init
loop-worker-init g c = takes_in_none g.S.Subject.subject.dependencies c.args.first.now c.requires.legal

pub join-requires-clause-pass : goal.join-requires-clause-pass
join-requires-clause-pass g c κs within =
    is_idle g.S.Subject.subject.dependencies c.args.first.now c.args.board.now c.loop-worker.yielded c.loop-worker.first c.requires.first.0 c.loop-worker.invariant

pub join-requires-clause-other : goal.join-requires-clause-other
join-requires-clause-other g c κs within =
    let gives = c.into_iter-worker-iterator.ensures.into_iter_gives in
    let all = YieldsList-from_vec {s = c.into_iter-worker-iterator.result} c.args.crew (gives.0 ∙ c.crew.view_is) (gives.1 ∙ c.crew.inside.workers.ok.0 ∙ ap length c.crew.view_is) in
    let at = YieldsList-turn all c.loop-worker.yielded c.loop-worker.worker-iterator c.loop-worker.yielded_by c.next.result c.next.new.self c.in-Some.worker c.in-Some.is c.next.ensures.steps in
    let w = worker_at g.S.Subject.subject.dependencies c.args.board.now c.args.crew (length c.loop-worker.yielded) c.in-Some.worker c.requires.workers at in
    let same = ap (λ v. v.pass) c.worker.view_is in (
      subst (IsIdleOf c.args.board.now) (sym same) w.idle,
      λ e. w.number (sym (ap (λ p. p.number) same) ∙ e),
    )

pub loop-worker-preserved : goal.loop-worker-preserved
loop-worker-preserved g c =
    let gives = c.into_iter-worker-iterator.ensures.into_iter_gives in
    let all = YieldsList-from_vec {s = c.into_iter-worker-iterator.result} c.args.crew (gives.0 ∙ c.crew.view_is) (gives.1 ∙ c.crew.inside.workers.ok.0 ∙ ap length c.crew.view_is) in
    let at = YieldsList-turn all c.loop-worker.yielded c.loop-worker.worker-iterator c.loop-worker.yielded_by c.next.result c.next.new.self c.in-Some.worker c.in-Some.is c.next.ensures.steps in
    let w = worker_at g.S.Subject.subject.dependencies c.args.board.now c.args.crew (length c.loop-worker.yielded) c.in-Some.worker c.requires.workers at in
    takes_in_one g.S.Subject.subject.dependencies c.args.first.now c.args.board.now c.loop-worker.yielded c.loop-worker.first c.in-Some.worker c.join.new.pass c.loop-worker.invariant w
    (subst (λ p. Joins number_of c.loop-worker.first p c.join.new.pass) (ap (λ v. v.pass) c.worker.view_is) c.join.ensures.joins)

taken_in : (g : Over) (c : After-drop-worker-iterator g) → TakesIn g.S.Subject.subject.dependencies c.args.first.now c.args.crew c.loop-worker.first
taken_in g c =
    let gives = c.into_iter-worker-iterator.ensures.into_iter_gives in
    let all = YieldsList-from_vec {s = c.into_iter-worker-iterator.result} c.args.crew (gives.0 ∙ c.crew.view_is) (gives.1 ∙ c.crew.inside.workers.ok.0 ∙ ap length c.crew.view_is) in
    let at = YieldsList-end all c.loop-worker.yielded c.loop-worker.worker-iterator c.loop-worker.yielded_by c.next.result c.next.new.self c.in-None.is c.next.ensures.steps in
    subst (λ z. TakesIn g.S.Subject.subject.dependencies c.args.first.now z c.loop-worker.first) (sym (map-id c.loop-worker.yielded) ∙ at.0) c.loop-worker.invariant

pub returns-clause-takes_in : goal.returns-clause-takes_in
returns-clause-takes_in g c = taken_in g c

pub returns-clause-log : goal.returns-clause-log
returns-clause-log g c = log_is_known g.S.Subject.subject.dependencies c.args.first.now c.args.crew c.loop-worker.first (taken_in g c) c.requires.first.1

pub returns-clause-all : goal.returns-clause-all
returns-clause-all g c = all_joined g.S.Subject.subject.dependencies c.args.first.now c.args.crew c.loop-worker.first (taken_in g c)
