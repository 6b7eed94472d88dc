use Rattle.std.proofs.Common.{ap, ◌∙◌, sym}
use Rattle.std.specs.Option.{option_map}
use Rattle.term_trees.specs.Readings.{read_declaration}
use Rattle.lf_check.proofs.Declarations.{declared_before, not_before, not_declared}
use Rattle.lf_terms.proofs.Lookup.{copied_read}
use Rattle.lf_check.proofs.environment.Environment.declaration.Goals as goal

pub returns-in-Some : goal.returns-in-Some
returns-in-Some c =
    let environment = c.args.self.now in
    copied_read read_declaration c.at.result ∙ ap (option_map read_declaration) c.at.ensures.item ∙ declared_before environment.sig.now c.args.name.now environment.count c.in-Some.place (sym c.in-Some.ensures.index) c.if-place-self.true

pub returns-in-Some-2 : goal.returns-in-Some-2
returns-in-Some-2 c =
    let environment = c.args.self.now in
    not_before environment.sig.now c.args.name.now environment.count c.in-Some.place (sym c.in-Some.ensures.index) c.if-place-self.false

pub returns-in-None : goal.returns-in-None
returns-in-None c =
    let environment = c.args.self.now in
    not_declared environment.sig.now c.args.name.now environment.count (sym c.in-None.ensures.index)
