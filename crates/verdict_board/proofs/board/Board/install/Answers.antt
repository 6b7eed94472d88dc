use Rattle.std.proofs.Common.{refl, sym, ap, ◌∙◌}
use Rattle.board_meaning.specs.Claims.{first_changed}
use Rattle.board_laws.proofs.Claiming.{unedited_installed}
use Rattle.verdict_board.specs.Stages.{IsCurrent}
use Rattle.verdict_board.proofs.Ends.{here_installed}
use Rattle.verdict_board.proofs.board.Board.install.Goals as goal

pub end_installed-requires-clause-unchanged : goal.end_installed-requires-clause-unchanged
end_installed-requires-clause-unchanged g c κs b =
    let current : IsCurrent g.S.Subject.subject.dependencies c.args.self.now c.job.inside.name c.job.inside.claim = rw c.if-is_current.true at c.is_current.ensures in
    rw (← c.job.view_is) (unedited_installed g.S.Subject.subject.dependencies c.args.self.now c.job.inside.claim c.job.inside.name current.claimed current.unedited)

pub returns-then-is_current-clause-reply : goal.returns-then-is_current-clause-reply
returns-then-is_current-clause-reply g c =
    let current : IsCurrent g.S.Subject.subject.dependencies c.args.self.now c.job.inside.name c.job.inside.claim = rw c.if-is_current.true at c.is_current.ensures in
    rw (← c.job.view_is) (sym (unedited_installed g.S.Subject.subject.dependencies c.args.self.now c.job.inside.claim c.job.inside.name current.claimed current.unedited))

pub end_installed-requires-in-None-clause-unchanged : goal.end_installed-requires-in-None-clause-unchanged
end_installed-requires-in-None-clause-unchanged g c κs b =
    here_installed g.S.Subject.subject g.S.Subject.meaning c.args.self.now c.args.self.now refl c.args.pass c.args.job c.args.job refl c.requires.job (ap (first_changed c.args.self.now) (sym c.inputs.ensures) ∙ c.in-None.ensures)

pub returns-in-None-clause-reply : goal.returns-in-None-clause-reply
returns-in-None-clause-reply g c =
    sym (here_installed g.S.Subject.subject g.S.Subject.meaning c.args.self.now c.args.self.now refl c.args.pass c.args.job c.args.job refl c.requires.job (ap (first_changed c.args.self.now) (sym c.inputs.ensures) ∙ c.in-None.ensures))
