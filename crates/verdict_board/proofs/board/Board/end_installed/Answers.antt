use Rattle.std.proofs.Common.{refl, sym, ap, ◌∙◌, length, arith}
use Rattle.board_meaning.specs.Machine.{InstallCall, after_call}
use Rattle.verdict_board.proofs.Calls.{install_after}
use Rattle.verdict_board.proofs.Transitions.{kept_install, some_opened}
use Rattle.verdict_board.proofs.Ends.{here_at, here_install, here_names, here_answer, here_reply, entries_fit, installed_fits, claimed_present}
use Rattle.verdict_board.proofs.board.Board.end_installed.Goals as goal

pub stand-requires : goal.stand-requires
stand-requires g c =
    record {
      there = claimed_present g.S.Subject.subject g.S.Subject.meaning c.self.inside.history.entries c.self.inside.log c.self.inside.graph c.self.inside.stages c.self.inside.closed c.self.inside.opened c.self.inside.entries c.self.inside.installed c.self.invariant
          c.job.inside.name c.job.inside.claim (here_at g.S.Subject.subject g.S.Subject.meaning c.self.inside.history.entries c.args.self.now c.self.view_is c.args.pass _ c.args.job c.job.view_is c.requires.job)
          (here_reply g.S.Subject.subject g.S.Subject.meaning c.self.inside.history.entries c.args.self.now c.self.view_is c.args.pass _ c.args.job c.job.view_is c.requires.job c.requires.unchanged);
      waits_not = refl;
      stands = refl;
      kept = (c.self.inside.graph, c.self.invariant.candidates_all);
    }

pub overflow_add-self : goal.overflow_add-self
overflow_add-self g c =
    let v = c.version-version.ensures.version ∙ ap length c.self.invariant.logged in
    let at = here_at g.S.Subject.subject g.S.Subject.meaning c.self.inside.history.entries c.args.self.now c.self.view_is c.args.pass _ c.args.job c.job.view_is c.requires.job in
    let open' = here_install g.S.Subject.subject g.S.Subject.meaning c.self.inside.history.entries c.args.self.now c.self.view_is c.args.pass _ c.args.job c.job.view_is c.requires.job c.requires.may in
    let some = some_opened g.S.Subject.subject g.S.Subject.meaning c.self.inside.history.entries c.self.inside.log c.self.inside.graph c.self.inside.stages c.self.inside.closed c.self.inside.opened c.self.inside.entries c.self.inside.installed c.self.invariant c.args.pass c.version-version.result v c.job.inside.name c.job.inside.claim at open'.0 open'.1 in
    omega (arith, some, entries_fit g.S.Subject.subject g.S.Subject.meaning c.self.inside.history.entries c.self.inside.log c.self.inside.graph c.self.inside.stages c.self.inside.closed c.self.inside.opened c.self.inside.entries c.self.inside.installed c.self.invariant some)

pub overflow_sub-self : goal.overflow_sub-self
overflow_sub-self g c =
    let v = c.version-version.ensures.version ∙ ap length c.self.invariant.logged in
    let at = here_at g.S.Subject.subject g.S.Subject.meaning c.self.inside.history.entries c.args.self.now c.self.view_is c.args.pass _ c.args.job c.job.view_is c.requires.job in
    let open' = here_install g.S.Subject.subject g.S.Subject.meaning c.self.inside.history.entries c.args.self.now c.self.view_is c.args.pass _ c.args.job c.job.view_is c.requires.job c.requires.may in
    let some = some_opened g.S.Subject.subject g.S.Subject.meaning c.self.inside.history.entries c.self.inside.log c.self.inside.graph c.self.inside.stages c.self.inside.closed c.self.inside.opened c.self.inside.entries c.self.inside.installed c.self.invariant c.args.pass c.version-version.result v c.job.inside.name c.job.inside.claim at open'.0 open'.1 in
    omega (arith, some)

pub overflow_add-self-2 : goal.overflow_add-self-2
overflow_add-self-2 g c =
    let v = c.version-version.ensures.version ∙ ap length c.self.invariant.logged in
    let at = here_at g.S.Subject.subject g.S.Subject.meaning c.self.inside.history.entries c.args.self.now c.self.view_is c.args.pass _ c.args.job c.job.view_is c.requires.job in
    let open' = here_install g.S.Subject.subject g.S.Subject.meaning c.self.inside.history.entries c.args.self.now c.self.view_is c.args.pass _ c.args.job c.job.view_is c.requires.job c.requires.may in
    let some = some_opened g.S.Subject.subject g.S.Subject.meaning c.self.inside.history.entries c.self.inside.log c.self.inside.graph c.self.inside.stages c.self.inside.closed c.self.inside.opened c.self.inside.entries c.self.inside.installed c.self.invariant c.args.pass c.version-version.result v c.job.inside.name c.job.inside.claim at open'.0 open'.1 in
    omega (arith, installed_fits g.S.Subject.subject g.S.Subject.meaning c.self.inside.history.entries c.self.inside.log c.self.inside.graph c.self.inside.stages c.self.inside.closed c.self.inside.opened c.self.inside.entries c.self.inside.installed c.self.invariant some)

pub invariant_of-self : goal.invariant_of-self
invariant_of-self g c =
    let v = c.version-version.ensures.version ∙ ap length c.self.invariant.logged in
    let at = here_at g.S.Subject.subject g.S.Subject.meaning c.self.inside.history.entries c.args.self.now c.self.view_is c.args.pass _ c.args.job c.job.view_is c.requires.job in
    let open' = here_install g.S.Subject.subject g.S.Subject.meaning c.self.inside.history.entries c.args.self.now c.self.view_is c.args.pass _ c.args.job c.job.view_is c.requires.job c.requires.may in
    let some = some_opened g.S.Subject.subject g.S.Subject.meaning c.self.inside.history.entries c.self.inside.log c.self.inside.graph c.self.inside.stages c.self.inside.closed c.self.inside.opened c.self.inside.entries c.self.inside.installed c.self.invariant c.args.pass c.version-version.result v c.job.inside.name c.job.inside.claim at open'.0 open'.1 in
    let r = here_reply g.S.Subject.subject g.S.Subject.meaning c.self.inside.history.entries c.args.self.now c.self.view_is c.args.pass _ c.args.job c.job.view_is c.requires.job c.requires.unchanged in
    let kept = rw c.stand.ensures.stages at c.stand.ensures.kept c.self.inside.graph c.self.invariant.candidates_all in
    rw (c.noted-self-inside.ensures, c.stand.ensures.stages)
    (kept_install g.S.Subject.subject g.S.Subject.meaning c.self.inside.history.entries c.self.inside.log c.self.inside.graph c.self.inside.stages c.self.inside.closed c.self.inside.opened c.self.inside.entries c.self.inside.installed c.self.invariant c.args.pass c.version-version.result v c.job.inside.name c.job.inside.claim at open'.0 open'.1 c.job.inside.names c.args.verdict c.stand.new.candidates kept r
    (c.job.invariant.1 ∙ here_names g.S.Subject.subject g.S.Subject.meaning c.self.inside.history.entries c.args.self.now c.self.view_is c.args.pass _ c.args.job c.job.view_is c.requires.job)
    (here_answer g.S.Subject.subject g.S.Subject.meaning c.self.inside.history.entries c.args.self.now c.self.view_is c.args.pass _ c.args.job c.job.view_is c.requires.job c.self.invariant.legal (g.met.S.Subject g.world.𝓛 g.world.𝓜 g.world.𝓡 ((λ s x. x), (λ x. x), (λ x. x), λ x. x)).lawful.reach c.args.verdict c.requires.verdict r))

pub returns : goal.returns
returns g c =
    let v = c.version-version.ensures.version ∙ ap length c.self.invariant.logged in
    record {
      history = c.noted-self-inside.ensures
          ∙ sym (install_after g.S.Subject.subject.dependencies c.self.inside.history.entries c.args.pass c.version-version.result c.job.inside.claim (here_reply g.S.Subject.subject g.S.Subject.meaning c.self.inside.history.entries c.args.self.now c.self.view_is c.args.pass _ c.args.job c.job.view_is c.requires.job c.requires.unchanged) v)
          ∙ (λ i. after_call g.S.Subject.subject.dependencies (c.self.view_is i) c.args.pass (InstallCall (c.job.view_is i).claim));
    }
