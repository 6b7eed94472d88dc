use Rattle.std.proofs.Common.{◌≡◌, ◌+◌, suc, length, take, refl, sym, ap, ap₂, ◌∙◌, arith}
use Rattle.list_laws.proofs.Places.{take_length}
use Rattle.link_setting.specs.PathTrees.{go_on, place_along, steps_of}
use Rattle.link_setting.proofs.PathTrees.{along_next}
use Rattle.link_passes.specs.Targets.{earlier_of, first_that, number_along, reaches, shares_before}
use Rattle.link_passes.proofs.PathsReached.{all_before, next_before, none_before}
use Rattle.link_passes.proofs.targets.Targets.first.Goals as goal

pub loop-name-init : goal.loop-name-init
loop-name-init c = record { at = refl; first = λ items numbered. sym (none_before c.as_slice-name-items.result.now items) }

pub loop-name-preserved : goal.loop-name-preserved
loop-name-preserved c =
    let names = c.as_slice-name-items.result.now in
    let steps = steps_of c.args.self.now.tree in
    let i = c.loop-name.name-index in
    let within = c.loop-name-test.true in
    let plus : suc i ≡ i + 1 = omega arith in
    record {
      at = along_next steps names i c.name-item.result within c.name-item.is ∙ ap (λ o. go_on steps o c.name-item.result) c.loop-name.invariant.at ∙ sym c.next-at.ensures;
      first = λ items numbered.
          c.earlier-first.ensures
          ∙ ap₂ earlier_of (c.loop-name.invariant.first items numbered)
          (c.number_of.ensures ∙ ap (number_along c.args.self.now.shared.entries) (sym c.loop-name.invariant.at) ∙ numbered.shared.first (take i names))
          ∙ sym (next_before names i items (omega (arith, within))) ∙ ap (λ n. first_that (shares_before n names) items) plus;
    }

pub returns : goal.returns
returns c = λ items numbered.
    let names = c.as_slice-name-items.result.now in
    let steps = steps_of c.args.self.now.tree in
    let all : c.loop-name.name-index ≡ length names = omega (arith, c.loop-name-test.false, c.loop-name.auto.name-index-end) in
    let at = ap (place_along steps) (sym (take_length names)) ∙ ap (λ n. place_along steps (take n names)) (sym all) ∙ c.loop-name.invariant.at in
    c.earlier.ensures
    ∙ ap₂ earlier_of (c.loop-name.invariant.first items numbered ∙ ap (λ n. first_that (shares_before n names) items) all)
    (c.number_of-2.ensures ∙ ap (number_along c.args.self.now.given.entries) (sym at) ∙ numbered.given.first names)
    ∙ sym (all_before names items) ∙ ap (λ path. first_that (reaches path) items) c.as_slice-name-items.ensures.names
