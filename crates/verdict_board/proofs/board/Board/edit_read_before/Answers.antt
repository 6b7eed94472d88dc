use Rattle.std.proofs.Common.{◌≡◌, false, ◌∷◌, ◌++◌, [], suc, Err, sym, ap, ◌∙◌, subst, arith}
use Rattle.name_meaning.specs.Names.{Name}
use Rattle.edit_log_meaning.specs.Log.{Log, edited}
use Rattle.edit_log_meaning.specs.Append.{Made, append_answer}
use Rattle.edit_log_laws.proofs.Limits.{made_short}
use Rattle.module_graph_meaning.specs.Walks.{is_ungrounded}
use Rattle.module_graph_meaning.specs.Graphs.{Graph, HoldsDependencies}
use Rattle.board_meaning.specs.Events.{EditMade, History, log_of, library_after, version_after}
use Rattle.edit_log.specs.Readings.{read_edit, read_edited, IsAnswer}
use Rattle.verdict_board.specs.Entries.{entry}
use Rattle.verdict_board.specs.Stages.{AreStages, after_edit_of}
use Rattle.verdict_board.specs.Tables.{IsChange}
use Rattle.verdict_board.proofs.Tables.{changed_holds, changed_sound}
use Rattle.verdict_board.proofs.Falls.{changed_staged, changed_tables, inputs_sorted}
use Rattle.verdict_board.proofs.Calls.{edit_after}
use Rattle.verdict_board.proofs.Edits.{kept_edit}
use Rattle.verdict_board.proofs.EditSteps.{unmade_after, appended_made, made_version}
use Rattle.verdict_board.proofs.board.Board.edit_read_before.Goals as goal

pub returns-in_default : goal.returns-in_default
returns-in_default g c =
    let e = read_edit c.args.edit in
    let reply : append_answer (log_of c.self.inside.history.entries) e ≡ read_edited c.in_ok-answer.answer = ap (λ log. append_answer log e) (sym c.self.invariant.logged) ∙ c.in_ok-answer.ensures.answer in
    record {
      answer = rw (← c.self.view_is) reply;
      history = rw (← c.self.view_is) (unmade_after g.S.Subject.subject.dependencies c.self.inside.history.entries c.args.pass e c.in_ok-answer.answer c.in_default.not-Made reply);
      unchanged = tt;
    }

pub next-requires-clause-short : goal.next-requires-clause-short
next-requires-clause-short g c κs b =
    made_short c.self.inside.log (read_edit c.args.edit) c.in-Made.version (c.in_ok-answer.ensures.answer ∙ ap read_edited c.in-Made.is)

pub make_edit-requires-clause-sorted : goal.make_edit-requires-clause-sorted
make_edit-requires-clause-sorted g c =
    let lawful = (g.met.S.Subject g.world.𝓛 g.world.𝓜 g.world.𝓡 ((λ s x. x), (λ x. x), (λ x. x), λ x. x)).lawful in
    inputs_sorted g.S.Subject.subject g.S.Subject.meaning c.self.inside.history.entries c.self.invariant.legal lawful.reach c.self.inside.stages c.self.invariant.staged

pub make_edit-requires-clause-kept : goal.make_edit-requires-clause-kept
make_edit-requires-clause-kept g c = c.self.invariant.candidates_all

pub make_edit-requires-clause-tables : goal.make_edit-requires-clause-tables
make_edit-requires-clause-tables g c =
    let e = read_edit c.args.edit in
    let H = c.self.inside.history.entries in
    let lawful = (g.met.S.Subject g.world.𝓛 g.world.𝓜 g.world.𝓡 ((λ s x. x), (λ x. x), (λ x. x), λ x. x)).lawful in
    let change : IsChange g.S.Subject.subject g.S.Subject.meaning H e c.in_ok-next.next.change = rw c.self.view_is c.in_ok-next.ensures.change in
    changed_tables g.S.Subject.subject g.S.Subject.meaning H c.self.invariant.legal lawful.reach c.self.inside.stages c.self.invariant.staged e c.in_ok-next.next.change change

pub returns-in-Err-clause-answer : goal.returns-in-Err-clause-answer
returns-in-Err-clause-answer g c =
    rw (← c.self.view_is) (subst (λ (log : Log). IsAnswer (Err c.in-Err.fault) (append_answer log (read_edit c.args.edit))) c.self.invariant.logged c.in-Err.ensures.answer)

pub returns-in-Err-clause-unchanged : goal.returns-in-Err-clause-unchanged
returns-in-Err-clause-unchanged g c = c.self.view_is

pub invariant_of-self-2 : goal.invariant_of-self-2
invariant_of-self-2 g c =
    let S = g.S.Subject.subject in
    let M = g.S.Subject.meaning in
    let e = read_edit c.args.edit in
    let H = c.self.inside.history.entries in
    let made : append_answer c.self.inside.log e ≡ Made c.in-Made.version = c.in_ok-answer.ensures.answer ∙ ap read_edited c.in-Made.is in
    let reply : append_answer (log_of H) e ≡ Made c.in-Made.version = ap (λ log. append_answer log e) (sym c.self.invariant.logged) ∙ made in
    let v : c.in-Made.version ≡ suc (version_after H) = made_version (log_of H) e c.in-Made.version reply in
    let lawful = (g.met.S.Subject g.world.𝓛 g.world.𝓜 g.world.𝓡 ((λ s x. x), (λ x. x), (λ x. x), λ x. x)).lawful in
    let change : IsChange S M H e c.in_ok-next.next.change = rw c.self.view_is c.in_ok-next.ensures.change in
    let next = changed_staged S M H c.self.invariant.legal lawful.reach c.self.inside.stages c.self.invariant.staged e c.in_ok-next.next.change change in
    let stages = subst (λ (z : History). AreStages S M z c.make_edit.new.stages)
    (λ i. H ++ entry (sym c.requires.front i) (sym v i) (EditMade e) ∷ [])
    (subst (AreStages S M (after_edit_of H e)) (sym c.in-Ok.ensures.stages) next) in
    let holds : HoldsDependencies c.make_edit.new.graph S.dependencies (edited (library_after H) e) =
    subst (λ (graph : Graph). HoldsDependencies graph S.dependencies (edited (library_after H) e)) (sym c.in-Ok.ensures.graph) (changed_holds S M H c.self.inside.graph c.self.invariant.holds e c.in_ok-next.next.change change) in
    let sound : c.rings-rings.result ≡ false → (name : Name) → is_ungrounded S.dependencies (edited (library_after H) e) name ≡ false =
    λ r. changed_sound S M H c.self.inside.graph c.self.invariant.holds e c.in_ok-next.next.change change (sym c.rings-rings.ensures ∙ r) in
    let few = c.if-self-ge-MOST.false in
    let less = c.if-self-ge-MOST-2.false in
    let noted : c.in_ok-next.next.history.entries ≡ H ++ entry c.args.pass c.in-Made.version (EditMade e) ∷ [] = rw c.self.view_is c.in_ok-next.ensures.history in
    rw noted
    (kept_edit S M H c.self.inside.log c.self.inside.graph c.self.inside.stages c.self.inside.closed c.self.inside.opened c.self.inside.entries c.self.inside.installed c.self.invariant e c.args.pass c.in-Made.version c.in-Made.version c.make_edit.new.log c.make_edit.new.graph c.make_edit.new.stages c.make_edit.new.candidates c.rings-rings.result c.in-Ok.ensures.kept sound c.requires.front reply v
    (c.in-Ok.ensures.log ∙ appended_made c.self.inside.log e c.in-Made.version made) holds stages (omega (arith, few)) (omega (arith, less)))

pub returns-clause-history : goal.returns-clause-history
returns-clause-history g c =
    let e = read_edit c.args.edit in
    let H = c.self.inside.history.entries in
    let made : append_answer c.self.inside.log e ≡ Made c.in-Made.version = c.in_ok-answer.ensures.answer ∙ ap read_edited c.in-Made.is in
    let reply : append_answer (log_of H) e ≡ Made c.in-Made.version = ap (λ log. append_answer log e) (sym c.self.invariant.logged) ∙ made in
    let v : c.in-Made.version ≡ suc (version_after H) = made_version (log_of H) e c.in-Made.version reply in
    let noted : c.in_ok-next.next.history.entries ≡ H ++ entry c.args.pass c.in-Made.version (EditMade e) ∷ [] = rw c.self.view_is c.in_ok-next.ensures.history in
    noted ∙ rw (← c.self.view_is) (sym (edit_after g.S.Subject.subject.dependencies H c.args.pass c.in-Made.version e c.in-Made.version reply v))
