use Rattle.std.specs.Prelude.{OnOk}
use Rattle.std.proofs.Common.{◌≡◌, ◌++◌, sym, ap, ap₂, ◌∙◌, subst}
use Rattle.printing_meaning.specs.Constants.{variable_text}
use Rattle.printing_meaning.specs.PrintedTerms.{is_product, product_text, family_text, kind_text, kind_uses}
use Rattle.term_trees.specs.Readings.{read_family, read_kind}
use Rattle.term_text.specs.Products.{back_text, front_text}
use Rattle.term_text.specs.Readings.{read_seen}
use Rattle.term_text.proofs.Written.{product_chain, kind_pi_text, type_text}
use Rattle.term_text.proofs.families.+kind.Goals as goal

pub returns-in_ok-close-in-Pi : goal.returns-in_ok-close-in-Pi
returns-in_ok-close-in-Pi t c =
    let seen = read_seen c.args.seen.now in
    let out = c.args.out.now in
    let depth = c.args.depth in
    let pi = c.in-Pi in
    let inner = c.in_ok-inner-in-Pi.inner in
    let used = c.in_ok-is_used-in-Pi.is_used in
    let variable = variable_text seen inner in
    let bracketed = is_product (read_family pi.domain.value) in
    let domain = family_text seen depth (read_family pi.domain.value) in
    let body = kind_text seen inner (read_kind c.deref-in-Pi-4.result.now) in
    let first = c.in_ok-open-in-Pi.ensures ∙ ap (λ a. out ++ front_text used variable (is_product (read_family a))) c.deref-in-Pi.ensures in
    let second = c.in_ok-family-in-Pi.ensures ∙ ap (λ a. c.open.new.out ++ family_text seen depth (read_family a)) c.deref-in-Pi-2.ensures in
    let third = c.in_ok-close-in-Pi.ensures ∙ ap (λ a. c.family.new.out ++ back_text used (is_product (read_family a))) c.deref-in-Pi-3.ensures in
    let whole = product_chain out c.open.new.out c.family.new.out c.close.new.out used variable bracketed domain body first second third in
    let is_used = c.in_ok-is_used-in-Pi.ensures ∙ ap (λ a. kind_uses 0 (read_kind a)) c.deref.ensures in
    let same =
    ap (λ u. out ++ product_text u variable bracketed domain body) is_used
    ∙ ap₂ (λ n a. out ++ product_text (kind_uses 0 (read_kind pi.body.value)) (variable_text seen n) bracketed domain (kind_text seen n (read_kind a))) c.in_ok-inner-in-Pi.ensures c.deref-in-Pi-4.ensures
    ∙ ap (λ z. out ++ z) (sym (kind_pi_text seen depth c.args.term.now pi.domain pi.body pi.is)) in
    subst (λ z. OnOk c.kind.result (c.kind.new.out ≡ z)) (whole ∙ same) c.kind.ensures

pub returns-in-Ty : goal.returns-in-Ty
returns-in-Ty t c = subst (λ z. OnOk c.extend.result (c.extend.new.self ≡ c.args.out.now ++ z)) (sym (type_text (read_seen c.args.seen.now) c.args.depth c.args.term.now c.in-Ty.is)) c.extend.ensures.ok
