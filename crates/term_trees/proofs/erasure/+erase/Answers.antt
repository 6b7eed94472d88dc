-- The head of an atomic family with arguments is that of the family without them.
use Rattle.std.proofs.Common.{ap, ◌∙◌, sym}
use Rattle.lf_meaning.specs.Terms.{FamilyCon, Base}
use Rattle.lf_meaning.specs.Erasure as meaning
use Rattle.lf_term_laws.proofs.Spines.{head_constant_applied}
use Rattle.term_trees.specs.Readings.{read_arguments, read_constant, read_family}
use Rattle.term_trees.proofs.ReadingEquations.{read_family_at, read_simple_base}
use Rattle.term_trees.proofs.erasure.+erase.Goals as goal

pub returns-in_ok-copy-in-At : goal.returns-in_ok-copy-in-At
returns-in_ok-copy-in-At t c =
    let head = c.in-At.head in
    let ms = read_arguments c.in-At.spine in
    let left = read_simple_base c.in_ok-copy-in-At.field-0 in
    let erased = ap meaning.erase (ap read_family c.in-At.is ∙ read_family_at head c.in-At.spine) in
    left ∙ ap (λ q. Base (read_constant q)) c.in_ok-copy-in-At.ensures ∙ ap Base (sym (head_constant_applied (FamilyCon (read_constant head)) ms)) ∙ sym erased
