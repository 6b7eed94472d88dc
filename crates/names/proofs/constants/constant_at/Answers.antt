use Rattle.std.proofs.Common.{◌≡◌, ◌∙◌, Some, sym, ap}
use Rattle.std.specs.Prelude.{slice_get}
use Rattle.std.specs.Option.{option_copied, option_map}
use Rattle.library_meaning.specs.Faces.{own_part}
use Rattle.library_meaning.specs.Resolution.{Declared, own_at}
use Rattle.mmt_interface.specs.Readings.{environment_of}
use Rattle.term_trees.specs.Readings.{read_declaration}
use Rattle.names.proofs.IncludedPlaces.{lent_at, none_at, only_at, place_there, several_at}
use Rattle.names.proofs.constants.constant_at.Goals as goal

pub returns-in_default : goal.returns-in_default
returns-in_default c = sym (none_at (environment_of c.args.scope.now.faces.now) c.args.written.now c.args.scope.now.includes.now (sym c.in_default.is ∙ c.requires))

pub returns-in_default-only : goal.returns-in_default-only
returns-in_default-only c =
    sym (several_at (environment_of c.args.scope.now.faces.now) c.args.written.now c.args.scope.now.includes.now (sym (c.in-Some.is ∙ ap (λ o. Some o) c.in_default-only.is) ∙ c.requires))

pub unreachable-requires : goal.unreachable-requires
unreachable-requires c =
    let index = c.in-Some-only.index in
    let there = place_there (environment_of c.args.scope.now.faces.now) c.args.written.now c.args.scope.now.includes.now index (sym (c.in-Some.is ∙ ap (λ o. Some o) c.in-Some-only.is) ∙ c.requires) in
    let found = sym (ap option_copied c.in_default-get.is) ∙ lent_at c.as_slice.result.now index c.get.result c.get.ensures.lookup.3 ∙ ap (λ names. slice_get names index) c.as_slice.ensures ∙ there.1 in
    absurd (cc)

pub unreachable-requires-in-None : goal.unreachable-requires-in-None
unreachable-requires-in-None c =
    let environment = environment_of c.args.scope.now.faces.now in
    let includes = c.args.scope.now.includes.now in
    let path = c.args.written.now in
    let index = c.in-Some-only.index in
    let theory = c.in-Some-get.theory.now in
    let here = sym (c.in-Some.is ∙ ap (λ o. Some o) c.in-Some-only.is) ∙ c.requires in
    let there : slice_get includes index ≡ Some theory = sym (ap option_copied (sym c.in-Some-get.is) ∙ lent_at c.as_slice.result.now index c.get.result c.get.ensures.lookup.3 ∙ ap (λ names. slice_get names index) c.as_slice.ensures) in
    let found = only_at environment path includes index theory _ here there (c.constant_of.ensures ∙ ap (own_at (own_part environment theory)) c.as_slice-2.ensures.names) in
    let none = sym (ap (option_map (λ decl. read_declaration decl.now)) c.in-None.is) ∙ found.1 in
    absurd (cc)

pub returns : goal.returns
returns c =
    let environment = environment_of c.args.scope.now.faces.now in
    let includes = c.args.scope.now.includes.now in
    let path = c.args.written.now in
    let index = c.in-Some-only.index in
    let theory = c.in-Some-get.theory.now in
    let here = sym (c.in-Some.is ∙ ap (λ o. Some o) c.in-Some-only.is) ∙ c.requires in
    let there : slice_get includes index ≡ Some theory = sym (ap option_copied (sym c.in-Some-get.is) ∙ lent_at c.as_slice.result.now index c.get.result c.get.ensures.lookup.3 ∙ ap (λ names. slice_get names index) c.as_slice.ensures) in
    let found = only_at environment path includes index theory _ here there (c.constant_of.ensures ∙ ap (own_at (own_part environment theory)) c.as_slice-2.ensures.names) in
    let one = sym (ap (option_map (λ decl. read_declaration decl.now)) c.in-Some-constant_of.is) ∙ found.1 in
    let same : read_declaration c.in-Some-constant_of.decl.now ≡ found.0 = cc in
    ap (λ d. Declared d) same ∙ sym found.2
