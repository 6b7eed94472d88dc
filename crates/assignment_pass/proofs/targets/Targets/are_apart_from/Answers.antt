use Rattle.std.proofs.Common.{◌≡◌, ◌+◌, ◌<◌, ◌≤◌, ℕ, Bool, true, false, not, suc, length, Option, Some, None, is_some, is_none, take, refl, sym, ap, ◌∙◌, subst, arith}
use Rattle.std.specs.List.{list_any}
use Rattle.link_meaning.specs.Assignments.{is_free}
use Rattle.list_laws.proofs.Places.{take_length}
use Rattle.link_setting.specs.PathTrees.{go_on, place_along, steps_of}
use Rattle.link_setting.proofs.Beginnings.{begins_before}
use Rattle.link_setting.proofs.PathTrees.{along_next}
use Rattle.assignment_pass.specs.Steps.{earlier_targets}
use Rattle.assignment_pass.proofs.MarkedTargets.{apart_more, free_nowhere, none_shorter, not_free}
use Rattle.assignment_pass.proofs.targets.Targets.are_apart_from.Goals as goal

pub loop-name-init : goal.loop-name-init
loop-name-init c = record { at = refl; apart = none_shorter c.as_slice-name-items.result.now (earlier_targets c.args.self.now) }

pub returns-then-has_end : goal.returns-then-has_end
returns-then-has_end c =
    not_free c.args.self.now c.requires c.as_slice-name-items.result.now c.loop-name.name-index c.loop-name.at c.loop-name.invariant.at (sym c.has_end.ensures ∙ c.if-has_end.true)
    ∙ ap (is_free (earlier_targets c.args.self.now)) c.as_slice-name-items.ensures.names

pub loop-name-preserved : goal.loop-name-preserved
loop-name-preserved c =
    let names = c.as_slice-name-items.result.now in
    let steps = steps_of c.args.self.now.tree in
    let i = c.loop-name.name-index in
    let within = c.loop-name-test.true in
    let plus : suc i ≡ i + 1 = omega arith in
    record {
      at = along_next steps names i c.name-item.result within c.name-item.is ∙ ap (λ o. go_on steps o c.name-item.result) c.loop-name.invariant.at ∙ sym c.next-at.ensures;
      apart = ap (λ n. list_any (begins_before n names) (earlier_targets c.args.self.now)) (sym plus)
          ∙ apart_more c.args.self.now c.requires names i c.loop-name.at (omega (arith, within)) c.loop-name.invariant.at (sym c.has_end.ensures ∙ c.if-has_end.false) c.loop-name.invariant.apart;
    }

told : (none : Bool) (at : Option ℕ) → is_some at ≡ not none → none ≡ is_none at
told true None h = refl
told false (Some place) h = refl
told true (Some place) h = absurd (cc)
told false None h = absurd (cc)

pub returns : goal.returns
returns c =
    let names = c.as_slice-name-items.result.now in
    let all : c.loop-name.name-index ≡ length names = omega (arith, c.loop-name-test.false, c.loop-name.auto.name-index-end) in
    told c.is_none.result c.loop-name.at c.is_none.ensures
    ∙ free_nowhere c.args.self.now c.requires names c.loop-name.at c.as_slice-name-items.ensures.some
    (ap (place_along (steps_of c.args.self.now.tree)) (sym (take_length names)) ∙ ap (λ n. place_along (steps_of c.args.self.now.tree) (take n names)) (sym all) ∙ c.loop-name.invariant.at)
    (ap (λ n. list_any (begins_before n names) (earlier_targets c.args.self.now)) (sym all) ∙ c.loop-name.invariant.apart)
    ∙ ap (is_free (earlier_targets c.args.self.now)) c.as_slice-name-items.ensures.names
