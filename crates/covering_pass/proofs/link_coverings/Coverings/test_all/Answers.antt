use Rattle.std.proofs.Common.{◌∙◌, ◌+◌, drop, sym, ap}
use Rattle.std.proofs.lemmas.List.{drop_all}
use Rattle.std.proofs.lemmas.Result.{err_from_is_err_and}
use Rattle.link_meaning.specs.Refusals.{each}
use Rattle.link_meaning.specs.Coverings.{covered_test}
use Rattle.covering_pass.specs.CoverTables.{assigned_of, setting_of}
use Rattle.link_setting.proofs.Refusing.{refuses_first}
use Rattle.covering_pass.proofs.AllCovered.{next_item, each_first, each_one}
use Rattle.covering_pass.proofs.link_coverings.Coverings.test_all.Goals as goal

pub returns-in_err-test : goal.returns-in_err-test
returns-in_err-test c =
    let test = covered_test (setting_of c.args.self.now.covers) (assigned_of c.args.self.now.covers) in
    let theories = c.args.theories.now in
    let i = c.loop-theory.theory-index in
    let theory = c.theory-item.result in
    let whole = each_first test theory (drop (i + 1) theories) ∙ sym (next_item (each test) theories i theory c.loop-theory-test.true c.theory-item.is) ∙ c.loop-theory.invariant in
    let p = err_from_is_err_and c.from_residual.result c.from_residual.ensures.1 in
    rw (p.1, p.2) (refuses_first c.in_err-test.field-0.0 (test theory) _ _ whole c.in_err-test.ensures)

pub loop-theory-preserved : goal.loop-theory-preserved
loop-theory-preserved c =
    let test = covered_test (setting_of c.args.self.now.covers) (assigned_of c.args.self.now.covers) in
    let theories = c.args.theories.now in
    let i = c.loop-theory.theory-index in
    let theory = c.theory-item.result in
    each_one test theory (drop (i + 1) theories) tt c.in_ok-test.ensures ∙ sym (next_item (each test) theories i theory c.loop-theory-test.true c.theory-item.is) ∙ c.loop-theory.invariant

pub returns : goal.returns
returns c =
    let test = covered_test (setting_of c.args.self.now.covers) (assigned_of c.args.self.now.covers) in
    sym c.loop-theory.invariant ∙ ap (each test) (drop_all c.loop-theory.theory-index c.args.theories.now c.loop-theory-test.false)
