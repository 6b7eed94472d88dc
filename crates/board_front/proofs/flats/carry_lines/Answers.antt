use Rattle.std.proofs.Common.{◌≡◌, ℕ, List, IfOk, sym, ◌∙◌, subst}
use Rattle.board_meaning.specs.Events.{log_of}
use Rattle.board_front.proofs.Accepts.{accepted_told, carry_is, grounded_told, none_accepted, nothing_is}
use Rattle.board_front.proofs.Asked.{always_ok}
use Rattle.board_front.proofs.Standing.{still_if_grounded}
use Rattle.board_front.proofs.flats.carry_lines.Goals as goal

pub faces_of-requires-clause-grounded : goal.faces_of-requires-clause-grounded
faces_of-requires-clause-grounded g c =
    grounded_told (log_of c.told.new.pass.seen) c.args.view.now c.in_ok-told.told c.accepted.result c.in-Some.verdict c.in_ok-told.ensures.told c.accepted.ensures c.in-Some.is

pub faces_of-requires-clause-standing : goal.faces_of-requires-clause-standing
faces_of-requires-clause-standing g c =
    c.in_ok-told.ensures.stands
    (grounded_told (log_of c.told.new.pass.seen) c.args.view.now c.in_ok-told.told c.accepted.result c.in-Some.verdict c.in_ok-told.ensures.told c.accepted.ensures c.in-Some.is)

pub returns-in-Some-clause-line : goal.returns-in-Some-clause-line
returns-in-Some-clause-line g c =
    let a = accepted_told (log_of c.told.new.pass.seen) c.args.view.now c.in_ok-told.told c.accepted.result c.in-Some.verdict c.in_ok-told.ensures.told c.accepted.ensures c.in-Some.is in
    subst (λ (text : List ℕ). IfOk c.carried_line.result (λ line. line ≡ text))
    (carry_is c.args.log.now c.told.new.pass.seen (c.requires.front.logged ∙ sym c.told.ensures.stays.logged) c.args.view.now c.version.result c.version.ensures.version
    c.in-Some.verdict.now c.in_ok-faces-in-Some.faces c.args.judgement.now a.0 c.in_ok-faces-in-Some.ensures.faces)
    c.carried_line.ensures

pub returns-in-Some-clause-stands : goal.returns-in-Some-clause-stands
returns-in-Some-clause-stands g c =
    always_ok c.carried_line.result (still_if_grounded c.told.new.pass.seen c.faces_of.new.pass.seen c.args.view.now c.faces_of.ensures.stays c.in_ok-told.ensures.stands)

pub returns-clause-line : goal.returns-clause-line
returns-clause-line g c =
    subst (λ (text : List ℕ). IfOk c.carried_nowhere.result (λ line. line ≡ text))
    (nothing_is c.args.log.now c.told.new.pass.seen (c.requires.front.logged ∙ sym c.told.ensures.stays.logged) c.args.view.now c.version-in-None.result c.version-in-None.ensures.version
    c.in_ok-told.told c.args.judgement.now c.in_ok-told.ensures.told
    (none_accepted c.args.log.now c.args.view.now c.in_ok-told.told c.accepted.result c.accepted.ensures c.in-None.is))
    c.carried_nowhere.ensures
