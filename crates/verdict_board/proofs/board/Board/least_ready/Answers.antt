use Rattle.std.proofs.Common.{Some, sym, ap, ◌∙◌, arith}
use Rattle.list_laws.proofs.Places.{place_within}
use Rattle.name_meaning.specs.Rows.{row_names}
use Rattle.verdict_board.proofs.Parking.{named_at, names_long}
use Rattle.verdict_board.proofs.Ready.{closed_unready, least_told, none_told}
use Rattle.verdict_board.proofs.board.Board.least_ready.Goals as goal
use Rattle.verdict_board.proofs.board.Board.least_ready.Goals.{in-Ok-Some+in_ok-copy-in-Ok-Some, in-Ok-None, in-Err}

pub returns-then-self-clause-least : goal.returns-then-self-clause-least
returns-then-self-clause-least g c =
    rw (← c.self.view_is) (closed_unready g.S.Subject.subject g.S.Subject.meaning c.self.inside.history.entries c.self.invariant.legal (sym c.self.invariant.closed_is ∙ c.if-self.true))

pub row_at-requires : goal.row_at-requires
row_at-requires g c =
    let found = rw c.in-Ok-Some.field-0-is at c.in-Ok-Some.ensures.found in
    let within = place_within (row_names c.self.inside.stages) c.in-Ok-Some.place found.ready.0 found.ready.1 in
    let long = names_long c.self.inside.stages in
    omega (arith, within, long)

pub returns-clause-least : goal.returns-clause-least
returns-clause-least g c =
    elim c.match-first_ready.branch [
      | in-Ok-Some+in_ok-copy-in-Ok-Some w ↦
          let found = rw w.in-Ok-Some.field-0-is at w.in-Ok-Some.ensures.found in
          rw w.result-is (ap Some w.in_ok-copy-in-Ok-Some.ensures
          ∙ rw (← c.self.view_is) (least_told g.S.Subject.subject g.S.Subject.meaning c.self.inside.history.entries c.self.invariant.legal c.self.inside.stages c.self.invariant.staged c.self.inside.graph c.self.invariant.holds
          (sym c.self.invariant.closed_is ∙ c.if-self.false) w.in-Ok-Some.place w.row_at.result.0.now (named_at c.self.inside.stages w.in-Ok-Some.place w.row_at.result.0.now w.row_at.result.1.now w.row_at.ensures) found))
      | in-Ok-None w ↦
          let found = rw w.in-Ok-None.field-0-is at w.in-Ok-None.ensures.found in
          rw w.result-is (rw (← c.self.view_is) (none_told g.S.Subject.subject g.S.Subject.meaning c.self.inside.history.entries c.self.invariant.legal c.self.inside.stages c.self.invariant.staged c.self.inside.graph c.self.invariant.holds
          (sym c.self.invariant.closed_is ∙ c.if-self.false) found))
      | in-Err w ↦ rw w.result-is tt
    ]
