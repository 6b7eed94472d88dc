use Rattle.std.proofs.Common.{◌∙◌, sym, ap}
use Rattle.library_meaning.specs.Faces.{includes_of}
use Rattle.link_meaning.specs.Refusals.{each}
use Rattle.link_meaning.specs.Coverings.{covered_test, covered_tests}
use Rattle.covering_pass.specs.CoverTables.{assigned_of, setting_of}
use Rattle.link_setting.proofs.Refusing.{links_same}
use Rattle.covering_pass.proofs.link_coverings.Coverings.test_domain.Goals as goal

pub returns-in-Some : goal.returns-in-Some
unfolding covered_tests
returns-in-Some c =
    let test = covered_test (setting_of c.args.self.now.covers) (assigned_of c.args.self.now.covers) in
    links_same (λ _. tt) c.test_all.result (each test c.as_slice.result.now) _ (ap (each test) (c.as_slice.ensures ∙ ap includes_of c.in-Some.ensures.meaning)) c.test_all.ensures

pub returns-in-None : goal.returns-in-None
unfolding covered_tests
returns-in-None c =
    let test = covered_test (setting_of c.args.self.now.covers) (assigned_of c.args.self.now.covers) in
    ap (λ o. each test (includes_of o)) (sym c.in-None.ensures.meaning)
