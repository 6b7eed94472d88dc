-- The face of a view whose tests are passed.
use Rattle.std.proofs.Common.{◌≡◌, Option, Some, None, Ok, refl, sym, true≢false}
use Rattle.std.specs.Prelude.{IsSome}
use Rattle.name_meaning.specs.Names.{Path}
use Rattle.text_meaning.specs.Tokens.{Span}
use Rattle.text_meaning.specs.Trees.{first_name}
use Rattle.lf_meaning.specs.HeadMaps.{HeadMap}
use Rattle.library_meaning.specs.Faces.{Known, IsAbsent, IsRefused, IsTheory, IsView, Environment, theory_face, theory_of}
use Rattle.link_meaning.specs.Passes.{link_map}
use Rattle.verdict_meaning.specs.Modules.{known_theory, module_test, checked_view}
use Rattle.list_laws.proofs.Answers.{goes_by}
use Rattle.mmt_syntax.specs.Readings.{read_assigns, read_written}
use Rattle.mmt_syntax.specs.declared.module.ViewDecl.{ViewDecl}
use Rattle.view_check.specs.Answers.{theory_or_empty, setting_of, face_with}

passes : (span : Span) (label : Path) (known : Known) → IsSome (theory_face known) → known_theory span label known ≡ Ok (theory_or_empty (theory_face known))
passes span label IsAbsent h = absurd (true≢false (sym h))
passes span label IsRefused h = absurd (true≢false (sym h))
passes span label (IsTheory face) h = refl
passes span label (IsView face) h = absurd (true≢false (sym h))

pub checked_face : (environment : Environment) (view : ViewDecl) (along : HeadMap) → IsSome (theory_of environment (first_name view.domain.path))
    → IsSome (theory_of environment (first_name view.codomain.path)) → link_map (setting_of environment view) (read_assigns view.assigns) ≡ Ok along
    → checked_view environment (read_written view.name) (read_written view.domain) (read_written view.codomain) (read_assigns view.assigns) ≡ Ok (face_with view along)
checked_face environment view along domain codomain linked =
    let from = read_written view.domain in
    let to = read_written view.codomain in
    let label = (read_written view.name).path in
    goes_by (module_test environment label from) _ (theory_or_empty (theory_of environment (first_name from.path))) (face_with view along) (passes from.span label (environment (first_name from.path)) domain)
    (goes_by (module_test environment label to) _ (theory_or_empty (theory_of environment (first_name to.path))) (face_with view along) (passes to.span label (environment (first_name to.path)) codomain)
    (goes_by (link_map (setting_of environment view) (read_assigns view.assigns)) _ along (face_with view along) linked refl))
