use Rattle.std.proofs.Common.{◌∙◌, ◌+◌, ◌&&◌, Bool, drop, sym, ap}
use Rattle.std.specs.List.{list_all}
use Rattle.std.proofs.lemmas.List.{drop_all}
use Rattle.name_meaning.specs.Names.{Name}
use Rattle.link_meaning.specs.Coverings.{identity_covers}
use Rattle.covering_pass.specs.CoverTables.{assigned_of, setting_of}
use Rattle.covering_pass.proofs.AllCovered.{next_item}
use Rattle.covering_pass.proofs.identity.all_by_identity.Goals as goal

pub returns-then-not-identity_covers : goal.returns-then-not-identity_covers
returns-then-not-identity_covers c =
    let test : Name → Bool = identity_covers (setting_of c.args.covers.now) (assigned_of c.args.covers.now) in
    let theories = c.args.theories.now in
    let i = c.loop-theory.theory-index in
    let theory = c.theory-item.result in
    ap (λ b. b && list_all test (drop (i + 1) theories)) (sym (sym c.identity_covers.ensures ∙ c.if-not-identity_covers.true))
    ∙ sym (next_item (list_all test) theories i theory c.loop-theory-test.true c.theory-item.is)
    ∙ c.loop-theory.invariant

pub loop-theory-preserved : goal.loop-theory-preserved
loop-theory-preserved c =
    let test : Name → Bool = identity_covers (setting_of c.args.covers.now) (assigned_of c.args.covers.now) in
    let theories = c.args.theories.now in
    let i = c.loop-theory.theory-index in
    let theory = c.theory-item.result in
    ap (λ b. b && list_all test (drop (i + 1) theories)) (sym (sym c.identity_covers.ensures ∙ c.if-not-identity_covers.false))
    ∙ sym (next_item (list_all test) theories i theory c.loop-theory-test.true c.theory-item.is)
    ∙ c.loop-theory.invariant

pub returns : goal.returns
returns c =
    let test : Name → Bool = identity_covers (setting_of c.args.covers.now) (assigned_of c.args.covers.now) in
    sym (ap (list_all test) (drop_all c.loop-theory.theory-index c.args.theories.now c.loop-theory-test.false)) ∙ c.loop-theory.invariant
