use Rattle.std.proofs.Common.{◌≡◌, Some, slice_get, subst, sym, ap, ◌∙◌, length, arith}
use Rattle.board_meaning.specs.Machine.{Job, IsStale, InstallCall, install_reply, after_call}
use Rattle.verdict_board.proofs.Calls.{stale_after}
use Rattle.verdict_board.proofs.Transitions.{kept_stale, some_opened}
use Rattle.verdict_board.proofs.Ends.{here_at, here_install, here_stale, entries_fit, got_same}
use Rattle.verdict_board.proofs.board.Board.end_stale.Goals as goal

pub overflow_add-self : goal.overflow_add-self
overflow_add-self g c =
    let v = c.version.ensures.version ∙ ap length c.self.invariant.logged in
    let at = here_at g.S.Subject.subject g.S.Subject.meaning c.self.inside.history.entries c.args.self.now c.self.view_is c.args.pass _ c.args.job c.job.view_is c.requires.job in
    let open' = here_install g.S.Subject.subject g.S.Subject.meaning c.self.inside.history.entries c.args.self.now c.self.view_is c.args.pass _ c.args.job c.job.view_is c.requires.job c.requires.may in
    let some = some_opened g.S.Subject.subject g.S.Subject.meaning c.self.inside.history.entries c.self.inside.log c.self.inside.graph c.self.inside.stages c.self.inside.closed c.self.inside.opened c.self.inside.entries c.self.inside.installed c.self.invariant c.args.pass c.version.result v c.job.inside.name c.job.inside.claim at open'.0 open'.1 in
    omega (arith, some, entries_fit g.S.Subject.subject g.S.Subject.meaning c.self.inside.history.entries c.self.inside.log c.self.inside.graph c.self.inside.stages c.self.inside.closed c.self.inside.opened c.self.inside.entries c.self.inside.installed c.self.invariant some)

pub overflow_sub-self : goal.overflow_sub-self
overflow_sub-self g c =
    let v = c.version.ensures.version ∙ ap length c.self.invariant.logged in
    let at = here_at g.S.Subject.subject g.S.Subject.meaning c.self.inside.history.entries c.args.self.now c.self.view_is c.args.pass _ c.args.job c.job.view_is c.requires.job in
    let open' = here_install g.S.Subject.subject g.S.Subject.meaning c.self.inside.history.entries c.args.self.now c.self.view_is c.args.pass _ c.args.job c.job.view_is c.requires.job c.requires.may in
    let some = some_opened g.S.Subject.subject g.S.Subject.meaning c.self.inside.history.entries c.self.inside.log c.self.inside.graph c.self.inside.stages c.self.inside.closed c.self.inside.opened c.self.inside.entries c.self.inside.installed c.self.invariant c.args.pass c.version.result v c.job.inside.name c.job.inside.claim at open'.0 open'.1 in
    omega (arith, some)

pub invariant_of-self : goal.invariant_of-self
invariant_of-self g c =
    let v = c.version.ensures.version ∙ ap length c.self.invariant.logged in
    let at = here_at g.S.Subject.subject g.S.Subject.meaning c.self.inside.history.entries c.args.self.now c.self.view_is c.args.pass _ c.args.job c.job.view_is c.requires.job in
    let open' = here_install g.S.Subject.subject g.S.Subject.meaning c.self.inside.history.entries c.args.self.now c.self.view_is c.args.pass _ c.args.job c.job.view_is c.requires.job c.requires.may in
    let some = some_opened g.S.Subject.subject g.S.Subject.meaning c.self.inside.history.entries c.self.inside.log c.self.inside.graph c.self.inside.stages c.self.inside.closed c.self.inside.opened c.self.inside.entries c.self.inside.installed c.self.invariant c.args.pass c.version.result v c.job.inside.name c.job.inside.claim at open'.0 open'.1 in
    let list = c.into_vec-items.ensures in
    let found = subst (λ (z : Job g.row.S-Answer.Denot). slice_get z.inputs c.args.place ≡ Some c.requires.changed.input) (sym c.job.view_is) c.requires.changed.at in
    let here = got_same c.job.inside.inputs c.args.place c.remove-name.result c.requires.changed.input found (rw (← list) c.remove-name.ensures.value) in
    let r = here_stale g.S.Subject.subject g.S.Subject.meaning c.self.inside.history.entries c.args.self.now c.self.view_is c.args.pass _ c.args.job c.job.view_is c.requires.job c.args.place c.args.newer (record { name = c.remove-name.result.name; stamp = c.remove-name.result.stamp }) here c.requires.changed in
    rw c.with-self-inside.ensures
    (kept_stale g.S.Subject.subject g.S.Subject.meaning c.self.inside.history.entries c.self.inside.log c.self.inside.graph c.self.inside.stages c.self.inside.closed c.self.inside.opened c.self.inside.entries c.self.inside.installed c.self.invariant c.args.pass c.version.result v c.job.inside.name c.job.inside.claim at open'.0 open'.1 c.remove-name.result.name c.args.newer r)

pub returns-clause-reply : goal.returns-clause-reply
returns-clause-reply g c =
    let list = c.into_vec-items.ensures in
    let found = subst (λ (z : Job g.row.S-Answer.Denot). slice_get z.inputs c.args.place ≡ Some c.requires.changed.input) (sym c.job.view_is) c.requires.changed.at in
    let here = got_same c.job.inside.inputs c.args.place c.remove-name.result c.requires.changed.input found (rw (← list) c.remove-name.ensures.value) in
    let r = here_stale g.S.Subject.subject g.S.Subject.meaning c.self.inside.history.entries c.args.self.now c.self.view_is c.args.pass _ c.args.job c.job.view_is c.requires.job c.args.place c.args.newer (record { name = c.remove-name.result.name; stamp = c.remove-name.result.stamp }) here c.requires.changed in
    let same : c.in-Stale.name ≡ c.remove-name.result.name = cc in
    let new : c.in-Stale.newer ≡ c.args.newer = cc in
    (λ i. IsStale (same i) (new i)) ∙ sym r ∙ (λ i. install_reply g.S.Subject.subject.dependencies (c.self.view_is i) (c.job.view_is i).claim)

pub returns-clause-history : goal.returns-clause-history
returns-clause-history g c =
    let v = c.version.ensures.version ∙ ap length c.self.invariant.logged in
    let list = c.into_vec-items.ensures in
    let found = subst (λ (z : Job g.row.S-Answer.Denot). slice_get z.inputs c.args.place ≡ Some c.requires.changed.input) (sym c.job.view_is) c.requires.changed.at in
    let here = got_same c.job.inside.inputs c.args.place c.remove-name.result c.requires.changed.input found (rw (← list) c.remove-name.ensures.value) in
    let r = here_stale g.S.Subject.subject g.S.Subject.meaning c.self.inside.history.entries c.args.self.now c.self.view_is c.args.pass _ c.args.job c.job.view_is c.requires.job c.args.place c.args.newer (record { name = c.remove-name.result.name; stamp = c.remove-name.result.stamp }) here c.requires.changed in
    c.with-self-inside.ensures
    ∙ sym (stale_after g.S.Subject.subject.dependencies c.self.inside.history.entries c.args.pass c.version.result c.job.inside.claim c.remove-name.result.name c.args.newer r v)
    ∙ (λ i. after_call g.S.Subject.subject.dependencies (c.self.view_is i) c.args.pass (InstallCall (c.job.view_is i).claim))
