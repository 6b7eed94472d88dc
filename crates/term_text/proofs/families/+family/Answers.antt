use Rattle.std.specs.Prelude.{OnOk}
use Rattle.std.proofs.Common.{◌≡◌, ◌++◌, append_assoc, sym, ap, ap₂, ◌∙◌, subst}
use Rattle.printing_meaning.specs.Constants.{constant_text, variable_text}
use Rattle.printing_meaning.specs.PrintedTerms.{is_product, product_text, family_text, family_uses}
use Rattle.term_trees.specs.Readings.{read_arguments, read_constant, read_family}
use Rattle.term_text.specs.Arguments.{arguments_text}
use Rattle.term_text.specs.Products.{back_text, front_text}
use Rattle.term_text.specs.Readings.{read_seen}
use Rattle.term_text.proofs.Written.{product_chain, pi_text, family_applied_text}
use Rattle.term_text.proofs.families.+family.Goals as goal

pub returns-in_ok-close-in-Pi : goal.returns-in_ok-close-in-Pi
returns-in_ok-close-in-Pi t c =
    let seen = read_seen c.args.seen.now in
    let out = c.args.out.now in
    let depth = c.args.depth in
    let pi = c.in-Pi in
    let inner = c.in_ok-inner-in-Pi.inner in
    let used = c.in_ok-is_used-in-Pi.is_used in
    let variable = variable_text seen inner in
    let bracketed = is_product (read_family pi.domain.value) in
    let domain = family_text seen depth (read_family pi.domain.value) in
    let body = family_text seen inner (read_family c.deref-in-Pi-4.result.now) in
    let first = c.in_ok-open-in-Pi.ensures ∙ ap (λ a. out ++ front_text used variable (is_product (read_family a))) c.deref-in-Pi.ensures in
    let second = c.in_ok-family-in-Pi.ensures ∙ ap (λ a. c.open.new.out ++ family_text seen depth (read_family a)) c.deref-in-Pi-2.ensures in
    let third = c.in_ok-close-in-Pi.ensures ∙ ap (λ a. c.family.new.out ++ back_text used (is_product (read_family a))) c.deref-in-Pi-3.ensures in
    let whole = product_chain out c.open.new.out c.family.new.out c.close.new.out used variable bracketed domain body first second third in
    let is_used = c.in_ok-is_used-in-Pi.ensures ∙ ap (λ a. family_uses 0 (read_family a)) c.deref.ensures in
    let same =
    ap (λ u. out ++ product_text u variable bracketed domain body) is_used
    ∙ ap₂ (λ n a. out ++ product_text (family_uses 0 (read_family pi.body.value)) (variable_text seen n) bracketed domain (family_text seen n (read_family a))) c.in_ok-inner-in-Pi.ensures c.deref-in-Pi-4.ensures
    ∙ ap (λ z. out ++ z) (sym (pi_text seen depth c.args.term.now pi.domain pi.body pi.is)) in
    subst (λ z. OnOk c.family-in-Pi.result (c.family-in-Pi.new.out ≡ z)) (whole ∙ same) c.family-in-Pi.ensures

pub returns-in_ok-constant-in-At : goal.returns-in_ok-constant-in-At
returns-in_ok-constant-in-At t c =
    let seen = read_seen c.args.seen.now in
    let out = c.args.out.now in
    let at = c.in-At in
    let head = constant_text seen (read_constant at.head) in
    let rest = arguments_text seen c.args.depth (read_arguments at.spine) in
    let same = sym (family_applied_text seen c.args.depth c.args.term.now at.head at.spine at.is) in
    subst (λ z. OnOk c.arguments.result (c.arguments.new.out ≡ z)) (ap (λ z. z ++ rest) c.in_ok-constant-in-At.ensures ∙ append_assoc out head rest ∙ ap (λ z. out ++ z) same) c.arguments.ensures
