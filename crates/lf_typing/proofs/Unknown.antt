-- Defined and undeclared constants are no constants of the judgements.
use Rattle.std.proofs.Common.{◌≡◌, None, ap, ◌∙◌}
use Rattle.lf_meaning.specs.Signatures.{undefined_class, declared_class, class_of}
use Rattle.list_laws.proofs.Options.{clash}
use Rattle.lf_typing.specs.TypingLaws.{DefinedIsNoConstant, UndeclaredIsNoConstant}

pub defined_is_no_constant : DefinedIsNoConstant
defined_is_no_constant sig context c d v found valued =
    let unknown : class_of sig c ≡ None = ap declared_class found ∙ ap (λ o. undefined_class o d.class) valued in
    ((λ a h. clash (class_of sig c) unknown h), (λ k h. clash (class_of sig c) unknown h))

pub undeclared_is_no_constant : UndeclaredIsNoConstant
undeclared_is_no_constant sig context c found =
    let unknown : class_of sig c ≡ None = ap declared_class found in
    ((λ a h. clash (class_of sig c) unknown h), (λ k h. clash (class_of sig c) unknown h))
