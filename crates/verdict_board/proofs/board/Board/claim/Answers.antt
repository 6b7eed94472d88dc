use Rattle.std.proofs.Common.{◌≡◌, Option, Some, IfSome, sym, ap, ◌∙◌, length, subst, arith}
use Rattle.edit_log_meaning.specs.Log.{library_of, text_of}
use Rattle.board_meaning.specs.Claims.{input_names}
use Rattle.board_meaning.specs.Ready.{least_ready}
use Rattle.name_meaning.specs.Names.{Text}
use Rattle.verdict_board.specs.Readings.{IsShort, read_inputs}
use Rattle.verdict_board.proofs.Calls.{none_claimed, claim_after}
use Rattle.verdict_board.proofs.Transitions.{kept_claim}
use Rattle.verdict_board.proofs.Reports.{staged_present}
use Rattle.verdict_board.proofs.Handing.{names_of_inputs, least_known, least_present, least_rests, text_not_missing, job_told, job_given}
use Rattle.verdict_board.proofs.board.Board.claim.Goals as goal

pub returns-in_default-clause-history : goal.returns-in_default-clause-history
returns-in_default-clause-history g c =
    let none = sym c.in_ok-name.ensures.least ∙ c.in_default.is in
    c.in_ok-name.ensures.unchanged ∙ sym (none_claimed g.S.Subject.subject.dependencies c.args.self.now c.args.pass none)

pub reach_of-requires-clause-present : goal.reach_of-requires-clause-present
reach_of-requires-clause-present g c κs b =
    let same = c.self.view_is ∙ c.in_ok-name.ensures.unchanged in
    let least = ap (least_ready g.S.Subject.subject.dependencies) same ∙ sym c.in_ok-name.ensures.least ∙ c.in-Some.is in
    rw (← c.self.view_is) (least_present g.S.Subject.subject c.self.inside.history.entries c.self.invariant.legal c.in-Some.name least)

pub reach_of-requires-clause-rests : goal.reach_of-requires-clause-rests
reach_of-requires-clause-rests g c κs b =
    let same = c.self.view_is ∙ c.in_ok-name.ensures.unchanged in
    let least = ap (least_ready g.S.Subject.subject.dependencies) same ∙ sym c.in_ok-name.ensures.least ∙ c.in-Some.is in
    rw (← c.self.view_is) (λ d m p. least_rests g.S.Subject.subject c.self.inside.history.entries c.self.invariant.legal c.in-Some.name least d m p)

pub answers_among-requires-clause-reached : goal.answers_among-requires-clause-reached
answers_among-requires-clause-reached g c κs b =
    c.get-2.ensures ∙ c.in_ok-names.ensures

pub answers_among-requires-clause-known : goal.answers_among-requires-clause-known
answers_among-requires-clause-known g c κs b =
    let same = c.self.view_is ∙ c.in_ok-name.ensures.unchanged in
    let least = ap (least_ready g.S.Subject.subject.dependencies) same ∙ sym c.in_ok-name.ensures.least ∙ c.in-Some.is in
    rw (← c.self.view_is) (least_known g.S.Subject.subject c.self.inside.history.entries c.self.invariant.legal c.in-Some.name least c.get-2.result.now (rw c.self.view_is (c.get-2.ensures ∙ c.in_ok-names.ensures)))

pub unreachable-requires : goal.unreachable-requires
unreachable-requires g c =
    let same = c.self.view_is ∙ c.in_ok-name.ensures.unchanged in
    let least = ap (least_ready g.S.Subject.subject.dependencies) same ∙ sym c.in_ok-name.ensures.least ∙ c.in-Some.is in
    text_not_missing g.S.Subject.subject c.self.inside.history.entries c.self.invariant.legal c.in-Some.name least
    (sym c.in_default-2.is ∙ c.in_ok-text.ensures.text ∙ ap (λ log. text_of (library_of log) c.in-Some.name) c.self.invariant.logged)

pub replace-requires : goal.replace-requires
replace-requires g c =
    let same = c.self.view_is ∙ c.in_ok-name.ensures.unchanged in
    let least = ap (least_ready g.S.Subject.subject.dependencies) same ∙ sym c.in_ok-name.ensures.least ∙ c.in-Some.is in
    staged_present g.S.Subject.subject g.S.Subject.meaning c.self.inside.history.entries c.self.invariant.legal c.self.inside.stages c.self.invariant.staged c.in-Some.name ∙ least_present g.S.Subject.subject c.self.inside.history.entries c.self.invariant.legal c.in-Some.name least

short_of : (o : Option Text) (text : Text) → o ≡ Some text → IfSome o (λ t. IsShort t) → IsShort text
short_of o text e h = subst (λ (z : Option Text). IfSome z (λ t. IsShort t)) e h

pub invariant_of-result : goal.invariant_of-result
invariant_of-result g c = (
  short_of c.in_ok-text.field-0 c.in-Some-2.text c.in-Some-2.is c.in_ok-text.ensures.short,
  sym (ap input_names c.in_ok-inputs.ensures ∙ names_of_inputs c.least_ready.new.self c.get.result.now ∙ c.get.ensures),
)

pub invariant_of-self : goal.invariant_of-self
invariant_of-self g c =
    let same = c.self.view_is ∙ c.in_ok-name.ensures.unchanged in
    let least = ap (least_ready g.S.Subject.subject.dependencies) same ∙ sym c.in_ok-name.ensures.least ∙ c.in-Some.is in
    let v = c.version-version.ensures.version ∙ ap length c.self.invariant.logged in
    let few = c.if-self-ge-MOST.false in
    let less = c.if-self-ge-MOST-2.false in
    rw (c.noted-self-inside.ensures, c.replace.ensures, c.in_ok-claimed.ensures)
    (kept_claim g.S.Subject.subject g.S.Subject.meaning c.self.inside.history.entries c.self.inside.log c.self.inside.graph c.self.inside.stages c.self.inside.closed c.self.inside.opened c.self.inside.entries c.self.inside.installed c.self.invariant c.args.pass c.version-version.result v c.in-Some.name c.in_ok-kept.kept least (rw c.self.view_is (c.in_ok-kept.ensures ∙ c.in_ok-names.ensures)) (omega (arith, few)) (omega (arith, less)))

pub returns-clause-job : goal.returns-clause-job
returns-clause-job g c =
    let same = c.self.view_is ∙ c.in_ok-name.ensures.unchanged in
    let least = ap (least_ready g.S.Subject.subject.dependencies) same ∙ sym c.in_ok-name.ensures.least ∙ c.in-Some.is in
    let text = sym c.in-Some-2.is ∙ c.in_ok-text.ensures.text ∙ ap (λ log. text_of (library_of log) c.in-Some.name) c.self.invariant.logged in
    rw (← same) (job_told g.S.Subject.subject c.self.inside.history.entries c.self.invariant.legal c.in-Some.name least g.S.Subject.meaning c.in-Some-2.text c.self.inside.entries c.get.result.now (read_inputs c.in_ok-inputs.inputs) c.in_ok-answers.answers text c.self.invariant.counted (rw c.self.view_is (c.get.ensures ∙ c.in_ok-names.ensures))
    (rw c.self.view_is c.in_ok-inputs.ensures) (rw c.self.view_is c.in_ok-answers.ensures))

pub returns-clause-given : goal.returns-clause-given
returns-clause-given g c =
    let same = c.self.view_is ∙ c.in_ok-name.ensures.unchanged in
    let least = ap (least_ready g.S.Subject.subject.dependencies) same ∙ sym c.in_ok-name.ensures.least ∙ c.in-Some.is in
    let text = sym c.in-Some-2.is ∙ c.in_ok-text.ensures.text ∙ ap (λ log. text_of (library_of log) c.in-Some.name) c.self.invariant.logged in
    rw (← same) (job_given g.S.Subject.subject c.self.inside.history.entries c.self.invariant.legal c.in-Some.name least g.S.Subject.meaning c.in-Some-2.text c.self.inside.entries c.get.result.now (read_inputs c.in_ok-inputs.inputs) c.in_ok-answers.answers text c.self.invariant.counted (rw c.self.view_is (c.get.ensures ∙ c.in_ok-names.ensures))
    (rw c.self.view_is c.in_ok-inputs.ensures) (rw c.self.view_is c.in_ok-answers.ensures))

pub returns-clause-history : goal.returns-clause-history
returns-clause-history g c =
    let same = c.self.view_is ∙ c.in_ok-name.ensures.unchanged in
    let least = ap (least_ready g.S.Subject.subject.dependencies) same ∙ sym c.in_ok-name.ensures.least ∙ c.in-Some.is in
    let v = c.version-version.ensures.version ∙ ap length c.self.invariant.logged in
    rw (← same, c.noted-self-inside.ensures, c.in_ok-claimed.ensures) (sym (claim_after g.S.Subject.subject.dependencies c.self.inside.history.entries c.args.pass c.version-version.result c.in-Some.name least v))
