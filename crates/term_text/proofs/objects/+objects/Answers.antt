use Rattle.std.specs.Prelude.{OnOk, codes}
use Rattle.std.proofs.Common.{◌≡◌, ◌++◌, append_assoc, sym, ap, ap₂, ◌∙◌, subst}
use Rattle.printing_meaning.specs.Constants.{variable_text}
use Rattle.printing_meaning.specs.PrintedTerms.{atomic_text, object_text}
use Rattle.term_trees.specs.Readings.{read_arguments, read_head, read_object}
use Rattle.term_text.specs.Arguments.{arguments_text}
use Rattle.term_text.specs.Readings.{read_seen}
use Rattle.term_text.proofs.Written.{lambda_text, applied_text}
use Rattle.term_text.proofs.objects.+objects.Goals as goal

pub object-returns-in_ok-binder-in-Lam : goal.object-returns-in_ok-binder-in-Lam
object-returns-in_ok-binder-in-Lam t c =
    let seen = read_seen c.args.seen.now in
    let out = c.args.out.now in
    let inner = c.in_ok-inner-in-Lam.inner in
    let front = codes "[" ++ variable_text seen inner ++ codes "] " in
    let text = object_text seen inner (read_object c.deref.result.now) in
    let same =
    ap₂ (λ n o. (codes "[" ++ variable_text seen n ++ codes "] ") ++ object_text seen n (read_object o)) c.in_ok-inner-in-Lam.ensures c.deref.ensures
    ∙ sym (lambda_text seen c.args.depth c.args.term.now c.in-Lam.body c.in-Lam.is) in
    subst (λ z. OnOk c.object.result (c.object.new.out ≡ z)) (ap (λ z. z ++ text) c.in_ok-binder-in-Lam.ensures ∙ append_assoc out front text ∙ ap (λ z. out ++ z) same) c.object.ensures

pub object-returns-in_ok-write_head-in-At : goal.object-returns-in_ok-write_head-in-At
object-returns-in_ok-write_head-in-At t c =
    let seen = read_seen c.args.seen.now in
    let out = c.args.out.now in
    let at = c.in-At in
    let head = atomic_text seen c.args.depth (read_head at.head) in
    let rest = arguments_text seen c.args.depth (read_arguments at.spine) in
    let same = sym (applied_text seen c.args.depth c.args.term.now at.head at.spine at.is) in
    subst (λ z. OnOk c.arguments.result (c.arguments.new.out ≡ z)) (ap (λ z. z ++ rest) c.in_ok-write_head-in-At.ensures ∙ append_assoc out head rest ∙ ap (λ z. out ++ z) same) c.arguments.ensures
