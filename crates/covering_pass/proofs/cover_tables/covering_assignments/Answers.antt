use Rattle.std.proofs.Common.{◌≡◌, ◌∙◌, List, filter_map, sym, ap, ap₂}
use Rattle.std.proofs.lemmas.List.{take_all}
use Rattle.link_meaning.specs.Assignments.{is_or_includes}
use Rattle.link_meaning.specs.Coverings.{cover_by, cover_if}
use Rattle.term_trees.specs.Readings.{read_map}
use Rattle.mmt_syntax.specs.Readings.{read_span}
use Rattle.mmt_interface.specs.Readings.{environment_of}
use Rattle.link_setting.specs.Readings.{read_assigned, read_all_assigned}
use Rattle.covering_pass.specs.CoverTables.{cover_of, covers_in}
use Rattle.covering_pass.specs.declared.cover_tables.Cover.{Cover}
use Rattle.link_setting.specs.declared.assigned.Assigned.{Assigned}
use Rattle.covering_pass.proofs.CoverLists.{one_more_covers, no_more_covers}
use Rattle.covering_pass.proofs.cover_tables.covering_assignments.Goals as goal
use Rattle.covering_pass.proofs.cover_tables.covering_assignments.Goals.{in-Covering+in_ok-new+in_ok-push, in_default}

pub loop-item-init : goal.loop-item-init
loop-item-init c = λ theory. ap (λ (cs : List Cover). covers_in cs theory) c.new-covers.ensures.items

pub loop-item-preserved : goal.loop-item-preserved
loop-item-preserved c = λ theory.
    let environment = environment_of c.args.faces.now in
    let assigned = c.args.assigned.now in
    let i = c.loop-item.item-index in
    let item = c.item-item.result in
    elim c.match-item.branch [
      | in-Covering+in_ok-new+in_ok-push w ↦
          let cover = w.in_ok-new.field-0 in
          let made = w.in_ok-new.ensures in
          let by = w.in-Covering.by in
          let told : cover_of theory cover ≡ cover_by environment theory (read_assigned item) =
          ap (λ b. cover_if b (read_span cover.first) (read_map cover.map.now)) (made.theories theory)
          ∙ ap₂ (λ first along. cover_if (is_or_includes environment by.domain theory) (read_span first) (read_map along)) made.first made.map
          ∙ ap (λ (a : Assigned). cover_by environment theory (read_assigned a)) (sym w.in-Covering.is) in
          ap (λ (cs : List Cover). covers_in cs theory) (ap (λ z. z.items) w.covers-is ∙ w.in_ok-push.ensures.items)
          ∙ one_more_covers theory environment assigned i item c.loop-item-test.true c.item-item.is c.loop-item.covers.items cover told (c.loop-item.invariant theory)
      | in_default w ↦
          ap (λ (cs : List Cover). covers_in cs theory) (ap (λ z. z.items) w.covers-is)
          ∙ no_more_covers theory environment assigned i item c.loop-item-test.true c.item-item.is c.loop-item.covers.items w.in_default.not-Covering (c.loop-item.invariant theory)
    ]

pub returns : goal.returns
returns c = λ theory.
    c.loop-item.invariant theory
    ∙ ap (λ (xs : List Assigned). filter_map (cover_by (environment_of c.args.faces.now) theory) (read_all_assigned xs)) (take_all c.loop-item.item-index c.args.assigned.now c.loop-item-test.false)
