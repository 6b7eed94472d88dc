use Rattle.std.proofs.Common.{◌≡◌, Bool, true, false, MatchBool, sym, ap, ◌∙◌, length, arith, true≢false}
use Rattle.board_meaning.specs.Machine.{ReleaseCall, after_call}
use Rattle.verdict_board.specs.Stages.{IsCurrent}
use Rattle.verdict_board.proofs.Calls.{release_after}
use Rattle.verdict_board.proofs.Transitions.{kept_release, kept_release_current, some_opened}
use Rattle.verdict_board.proofs.Ends.{here_at, here_release, entries_fit, current_present}
use Rattle.verdict_board.proofs.board.Board.release.Goals as goal

yes : (P Q : Type 0) (b : Bool) → b ≡ true → MatchBool b P Q → P
yes P Q true h m = m
yes P Q false h m = absurd (true≢false (sym h))

no : (P Q : Type 0) (b : Bool) → b ≡ false → MatchBool b P Q → Q
no P Q true h m = absurd (true≢false h)
no P Q false h m = m

pub overflow_add-self : goal.overflow_add-self
overflow_add-self g c =
    let v = c.version-version.ensures.version ∙ ap length c.self.invariant.logged in
    let at = here_at g.S.Subject.subject g.S.Subject.meaning c.self.inside.history.entries c.args.self.now c.self.view_is c.args.pass _ c.args.job c.job.view_is c.requires.job in
    let open' = here_release g.S.Subject.subject g.S.Subject.meaning c.self.inside.history.entries c.args.self.now c.self.view_is c.args.pass _ c.args.job c.job.view_is c.requires.job c.requires.may in
    let some = some_opened g.S.Subject.subject g.S.Subject.meaning c.self.inside.history.entries c.self.inside.log c.self.inside.graph c.self.inside.stages c.self.inside.closed c.self.inside.opened c.self.inside.entries c.self.inside.installed c.self.invariant c.args.pass c.version-version.result v c.job.inside.name c.job.inside.claim at open'.0 open'.1 in
    omega (arith, entries_fit g.S.Subject.subject g.S.Subject.meaning c.self.inside.history.entries c.self.inside.log c.self.inside.graph c.self.inside.stages c.self.inside.closed c.self.inside.opened c.self.inside.entries c.self.inside.installed c.self.invariant some)

pub overflow_sub-self : goal.overflow_sub-self
overflow_sub-self g c =
    let v = c.version-version.ensures.version ∙ ap length c.self.invariant.logged in
    let at = here_at g.S.Subject.subject g.S.Subject.meaning c.self.inside.history.entries c.args.self.now c.self.view_is c.args.pass _ c.args.job c.job.view_is c.requires.job in
    let open' = here_release g.S.Subject.subject g.S.Subject.meaning c.self.inside.history.entries c.args.self.now c.self.view_is c.args.pass _ c.args.job c.job.view_is c.requires.job c.requires.may in
    let some = some_opened g.S.Subject.subject g.S.Subject.meaning c.self.inside.history.entries c.self.inside.log c.self.inside.graph c.self.inside.stages c.self.inside.closed c.self.inside.opened c.self.inside.entries c.self.inside.installed c.self.invariant c.args.pass c.version-version.result v c.job.inside.name c.job.inside.claim at open'.0 open'.1 in
    omega (arith, some)

pub wait-requires : goal.wait-requires
wait-requires g c =
    record {
      there = current_present g.S.Subject.subject g.S.Subject.meaning c.self.inside.history.entries c.self.inside.log c.self.inside.graph c.self.inside.stages c.self.inside.closed c.self.inside.opened c.self.inside.entries c.self.inside.installed c.self.invariant c.job.inside.name c.job.inside.claim
          (rw c.self.view_is (yes (IsCurrent g.S.Subject.subject.dependencies c.args.self.now c.job.inside.name c.job.inside.claim) (IsCurrent g.S.Subject.subject.dependencies c.args.self.now c.job.inside.name c.job.inside.claim → ⊥) c.is_current-current.result c.if-current.true c.is_current-current.ensures));
      kept = (c.self.inside.graph, c.self.invariant.candidates_all);
    }

pub invariant_of-self : goal.invariant_of-self
invariant_of-self g c =
    let v = c.version-version.ensures.version ∙ ap length c.self.invariant.logged in
    let at = here_at g.S.Subject.subject g.S.Subject.meaning c.self.inside.history.entries c.args.self.now c.self.view_is c.args.pass _ c.args.job c.job.view_is c.requires.job in
    let open' = here_release g.S.Subject.subject g.S.Subject.meaning c.self.inside.history.entries c.args.self.now c.self.view_is c.args.pass _ c.args.job c.job.view_is c.requires.job c.requires.may in
    let kept = rw c.wait.ensures.stages at c.wait.ensures.kept c.self.inside.graph c.self.invariant.candidates_all in
    rw (c.noted-self-inside.ensures, c.wait.ensures.stages)
    (kept_release_current g.S.Subject.subject g.S.Subject.meaning c.self.inside.history.entries c.self.inside.log c.self.inside.graph c.self.inside.stages c.self.inside.closed c.self.inside.opened c.self.inside.entries c.self.inside.installed c.self.invariant c.args.pass c.version-version.result v c.job.inside.name c.job.inside.claim at open'.0 open'.1 c.wait.new.candidates kept
    (rw c.self.view_is (yes (IsCurrent g.S.Subject.subject.dependencies c.args.self.now c.job.inside.name c.job.inside.claim) (IsCurrent g.S.Subject.subject.dependencies c.args.self.now c.job.inside.name c.job.inside.claim → ⊥) c.is_current-current.result c.if-current.true c.is_current-current.ensures)))

pub invariant_of-self-else-current : goal.invariant_of-self-else-current
invariant_of-self-else-current g c =
    let v = c.version-version.ensures.version ∙ ap length c.self.invariant.logged in
    let at = here_at g.S.Subject.subject g.S.Subject.meaning c.self.inside.history.entries c.args.self.now c.self.view_is c.args.pass _ c.args.job c.job.view_is c.requires.job in
    let open' = here_release g.S.Subject.subject g.S.Subject.meaning c.self.inside.history.entries c.args.self.now c.self.view_is c.args.pass _ c.args.job c.job.view_is c.requires.job c.requires.may in
    rw c.noted-self-inside.ensures
    (kept_release g.S.Subject.subject g.S.Subject.meaning c.self.inside.history.entries c.self.inside.log c.self.inside.graph c.self.inside.stages c.self.inside.closed c.self.inside.opened c.self.inside.entries c.self.inside.installed c.self.invariant c.args.pass c.version-version.result v c.job.inside.name c.job.inside.claim at open'.0 open'.1
    (rw c.self.view_is (no (IsCurrent g.S.Subject.subject.dependencies c.args.self.now c.job.inside.name c.job.inside.claim) (IsCurrent g.S.Subject.subject.dependencies c.args.self.now c.job.inside.name c.job.inside.claim → ⊥) c.is_current-current.result c.if-current.false c.is_current-current.ensures)))

pub returns-then-current : goal.returns-then-current
returns-then-current g c =
    let v = c.version-version.ensures.version ∙ ap length c.self.invariant.logged in
    record {
      history = c.noted-self-inside.ensures
          ∙ sym (release_after g.S.Subject.subject.dependencies c.self.inside.history.entries c.args.pass c.version-version.result c.job.inside.claim v)
          ∙ (λ i. after_call g.S.Subject.subject.dependencies (c.self.view_is i) c.args.pass (ReleaseCall (c.job.view_is i).claim));
    }

pub returns : goal.returns
returns g c =
    let v = c.version-version.ensures.version ∙ ap length c.self.invariant.logged in
    record {
      history = c.noted-self-inside.ensures
          ∙ sym (release_after g.S.Subject.subject.dependencies c.self.inside.history.entries c.args.pass c.version-version.result c.job.inside.claim v)
          ∙ (λ i. after_call g.S.Subject.subject.dependencies (c.self.view_is i) c.args.pass (ReleaseCall (c.job.view_is i).claim));
    }
