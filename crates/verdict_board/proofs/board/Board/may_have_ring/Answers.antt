use Rattle.std.proofs.Common.{◌≡◌, false, Bool, sym, subst}
use Rattle.name_meaning.specs.Names.{Name, is_among}
use Rattle.edit_log_meaning.specs.Log.{edited}
use Rattle.list_laws.proofs.Members.{Member}
use Rattle.module_graph_meaning.specs.Graphs.{HoldsDependencies}
use Rattle.module_graph_meaning.specs.Reach.{reach}
use Rattle.module_graph_meaning.specs.Walks.{is_ungrounded}
use Rattle.board_meaning.specs.Events.{library_after}
use Rattle.edit_log.specs.declared.edit.Edit as code
use Rattle.edit_log.specs.Readings.{read_edit}
use Rattle.verdict_board.specs.Tables.{AreDependencies}
use Rattle.verdict_board.proofs.EditSteps.{if_ok}
use Rattle.verdict_board.proofs.Rings.{none_put, none_dropped}
use Rattle.verdict_board.proofs.board.Board.may_have_ring.Goals as goal

pub returns-in-Put : goal.returns-in-Put
returns-in-Put g c =
    let D = g.S.Subject.subject.dependencies in
    let L = library_after c.args.self.now in
    let row : c.args.dependencies.now ≡ D c.in-Put.name c.in-Put.text = subst (λ (edit : code.Edit). AreDependencies D (read_edit edit) c.args.dependencies.now) c.in-Put.is c.requires in
    let holds : HoldsDependencies c.self.inside.graph D L = rw (← c.self.view_is) c.self.invariant.holds in
    let sound : (x : Name) → is_ungrounded D L x ≡ false = rw (← c.self.view_is) (c.self.invariant.sound c.if-self.false) in
    if_ok (λ (may : Bool). may ≡ false → (from : Name) → Member from c.args.dependencies.now → is_among (reach D L from) c.in-Put.name ≡ false)
    (λ (may : Bool). may ≡ false → (name : Name) → is_ungrounded D (edited L (read_edit c.args.edit.now)) name ≡ false) c.may_reach.result
    (λ may apart h. subst (λ (edit : code.Edit). (name : Name) → is_ungrounded D (edited L (read_edit edit)) name ≡ false) (sym c.in-Put.is)
    (none_put D L c.in-Put.name c.in-Put.text c.self.inside.graph holds sound (λ d m. apart h d (subst (Member d) (sym row) m))))
    c.may_reach.ensures

pub returns-in-Drop : goal.returns-in-Drop
returns-in-Drop g c =
    let D = g.S.Subject.subject.dependencies in
    let L = library_after c.args.self.now in
    let sound : (x : Name) → is_ungrounded D L x ≡ false = rw (← c.self.view_is) (c.self.invariant.sound c.if-self.false) in
    λ h. subst (λ (edit : code.Edit). (name : Name) → is_ungrounded D (edited L (read_edit edit)) name ≡ false) (sym c.in-Drop.is) (none_dropped D L c.in-Drop.name sound)
