use Rattle.std.proofs.Common.{[]}
use Rattle.std.proofs.lemmas.Result.{err_from_is_err_and}
use Rattle.link_meaning.specs.Coverings.{covered_tests}
use Rattle.link_meaning.specs.CoveringMaps.{cover_all, included_part}
use Rattle.term_trees.specs.Readings.{read_map}
use Rattle.covering_pass.specs.CoverTables.{assigned_of, setting_of}
use Rattle.link_setting.proofs.Refusing.{links_same, refuses_first}
use Rattle.covering_pass.proofs.AllCovered.{tests_first, tests_passed}
use Rattle.covering_pass.proofs.coverings.tested_images.Goals as goal

pub returns-in_err-test_domain : goal.returns-in_err-test_domain
returns-in_err-test_domain c =
    let setting = setting_of c.args.coverings.now.covers in
    let assigned = assigned_of c.args.coverings.now.covers in
    let p = err_from_is_err_and c.from_residual.result c.from_residual.ensures.1 in
    rw (p.1, p.2) (refuses_first c.in_err-test_domain.field-0.0 (covered_tests setting assigned) _ _ (tests_first setting assigned) c.in_err-test_domain.ensures)

pub returns : goal.returns
returns c =
    let setting = setting_of c.args.coverings.now.covers in
    let assigned = assigned_of c.args.coverings.now.covers in
    links_same read_map c.shared_images.result (cover_all setting assigned [] (included_part setting)) _ (tests_passed setting assigned tt c.in_ok-test_domain.ensures) c.shared_images.ensures
