use Rattle.std.proofs.Common.{◌≡◌, ℕ, List, IfOk, sym, ◌∙◌, subst}
use Rattle.edit_log_meaning.specs.Log.{Log}
use Rattle.board_meaning.specs.Events.{library_after, log_of}
use Rattle.board_front.specs.Told.{IsToldOf}
use Rattle.board_front.proofs.Accepts.{accepted_told, flat_is, grounded_told, none_accepted}
use Rattle.board_front.proofs.Asked.{always_ok}
use Rattle.board_front.proofs.FlatTexts.{accepted_there, unaccepted_flat}
use Rattle.board_front.proofs.Standing.{still_if_grounded}
use Rattle.board_front.proofs.flats.flat_lines.Goals as goal

pub faces_of-requires-clause-grounded : goal.faces_of-requires-clause-grounded
faces_of-requires-clause-grounded g c =
    grounded_told (log_of c.told.new.pass.seen) c.args.name.now c.in_ok-told.told c.accepted.result c.in-Some.verdict c.in_ok-told.ensures.told c.accepted.ensures c.in-Some.is

pub faces_of-requires-clause-standing : goal.faces_of-requires-clause-standing
faces_of-requires-clause-standing g c =
    c.in_ok-told.ensures.stands
    (grounded_told (log_of c.told.new.pass.seen) c.args.name.now c.in_ok-told.told c.accepted.result c.in-Some.verdict c.in_ok-told.ensures.told c.accepted.ensures c.in-Some.is)

pub flat_text-requires : goal.flat_text-requires
flat_text-requires g c =
    let a = accepted_told (log_of c.told.new.pass.seen) c.args.name.now c.in_ok-told.told c.accepted.result c.in-Some.verdict c.in_ok-told.ensures.told c.accepted.ensures c.in-Some.is in
    accepted_there (library_after c.told.new.pass.seen) c.args.name.now c.in-Some.verdict.now c.in_ok-faces-in-Some.faces a.0 c.in_ok-faces-in-Some.ensures.faces a.1

pub returns-in-Some-clause-lines : goal.returns-in-Some-clause-lines
returns-in-Some-clause-lines g c =
    let a = accepted_told (log_of c.told.new.pass.seen) c.args.name.now c.in_ok-told.told c.accepted.result c.in-Some.verdict c.in_ok-told.ensures.told c.accepted.ensures c.in-Some.is in
    subst (λ (text : List ℕ). IfOk c.flat_text.result (λ lines. lines ≡ text))
    (flat_is c.args.log.now c.told.new.pass.seen (c.requires.front.logged ∙ sym c.told.ensures.stays.logged) c.args.name.now c.version.result c.version.ensures.version
    c.in-Some.verdict.now c.in_ok-faces-in-Some.faces a.0 c.in_ok-faces-in-Some.ensures.faces a.1)
    c.flat_text.ensures

pub returns-in-Some-clause-stands : goal.returns-in-Some-clause-stands
returns-in-Some-clause-stands g c =
    always_ok c.flat_text.result (still_if_grounded c.told.new.pass.seen c.faces_of.new.pass.seen c.args.name.now c.faces_of.ensures.stays c.in_ok-told.ensures.stands)

pub returns-clause-lines : goal.returns-clause-lines
returns-clause-lines g c =
    subst (λ (text : List ℕ). IfOk c.line.result (λ lines. lines ≡ text))
    (unaccepted_flat c.args.log.now c.args.name.now c.in_ok-told.told
    (subst (λ (log : Log). IsToldOf log c.args.name.now c.in_ok-told.told) (sym (c.requires.front.logged ∙ sym c.told.ensures.stays.logged)) c.in_ok-told.ensures.told)
    (none_accepted c.args.log.now c.args.name.now c.in_ok-told.told c.accepted.result c.accepted.ensures c.in-None.is))
    c.line.ensures
