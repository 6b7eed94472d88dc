use Rattle.std.proofs.Common.{◌+◌, Bool, MatchBool, subst}
use borrow.Author.Count.{below_more}
use Rattle.verdict_board.specs.PlaceSets.{NoneBefore}
use Rattle.verdict_board.specs.Readiness.{IsReadyAt, IsUnreadyAt}
use Rattle.verdict_board.proofs.Parking.{none_ready_before}
use Rattle.verdict_board.proofs.candidates.first_ready.Goals as goal

pub loop-place-init : goal.loop-place-init
loop-place-init g c =
    record {
      kept = c.requires.kept;
      before = none_ready_before c.args.stages.now c.args.graph.now (λ list. list.items) c.args.candidates.now.candidate c.args.candidates.now.parked.items c.requires.kept c.begin-place.result c.begin-place.ensures;
      left = c.begin-place.ensures;
    }

pub loop-place-preserved : goal.loop-place-preserved
loop-place-preserved g c =
    record {
      kept = c.in_ok-look.ensures.kept;
      before = below_more (IsUnreadyAt c.args.stages.now c.args.graph.now) c.loop-place.place c.loop-place.invariant.before
          (subst (λ (b : Bool). MatchBool b (IsReadyAt c.args.stages.now c.args.graph.now c.loop-place.place) (IsUnreadyAt c.args.stages.now c.args.graph.now c.loop-place.place)) c.if-branch.false c.in_ok-look.ensures.ready);
      left = subst (λ (b : Bool). MatchBool b (NoneBefore c.loop-place.place c.look.new.self.candidate) (NoneBefore (c.loop-place.place + 1) c.look.new.self.candidate)) c.if-branch.false (c.in_ok-look.ensures.left c.loop-place.invariant.left);
    }
