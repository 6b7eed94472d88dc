use Rattle.std.proofs.Common.{◌∙◌, append_assoc, sym, ap, ◌++◌, ◌∷◌, [], take, slice_index_or}
use Rattle.text_meaning.specs.Tokens.{dotted}
use Rattle.std.proofs.lemmas.List.{append-nil, take_all}
use Rattle.list_laws.proofs.Lists.{written_then}
use Rattle.printing_meaning.specs.Constants.{path_text}
use Rattle.term_text.proofs.Paths.{dotted_next, no_names, path_is}
use Rattle.term_text.proofs.constants.path.Goals as goal

pub loop-name-preserved : goal.loop-name-preserved
loop-name-preserved c =
    let names = c.in-Some.others.now in
    let i = c.loop-name.name-index in
    let same = c.as_bytes-in-loop-name.ensures.value ∙ c.as_str-in-loop-name.ensures.text in
    let one = written_then c.loop-name.out (46 ∷ []) c.as_bytes-in-loop-name.result.now c.in_ok-extend-2.ensures.ok c.in_ok-extend-3.ensures.ok in
    written_then c.extend.new.self (dotted (take i names)) (46 ∷ c.as_bytes-in-loop-name.result.now) c.loop-name.invariant one
    ∙ ap (λ text. c.extend.new.self ++ text) (sym (dotted_next names i c.as_bytes-in-loop-name.result.now (same ∙ c.name-item.is ∙ ap (λ n. slice_index_or names i n) (sym same)) c.loop-name-test.true))

pub returns : goal.returns
returns c =
    let others = c.in-Some.others.now in
    let first = c.as_bytes.result.now in
    let same = c.as_bytes.ensures.value ∙ c.as_str.ensures.text in
    let all = ap dotted (take_all c.loop-name.name-index others c.loop-name-test.false) in
    let whole = sym c.in-Some.ensures.cases.0 in
    c.loop-name.invariant ∙ ap (λ z. c.extend.new.self ++ z) all ∙ ap (λ z. z ++ dotted others) c.in_ok-extend.ensures.ok ∙ append_assoc c.args.out.now first (dotted others)
    ∙ ap (λ z. c.args.out.now ++ (z ++ dotted others)) same ∙ ap (λ z. c.args.out.now ++ z) (sym (path_is c.in-Some.first.now others)) ∙ ap (λ names. c.args.out.now ++ path_text names) whole

pub returns-in_default : goal.returns-in_default
returns-in_default c = sym (ap (λ z. c.args.out.now ++ z) (no_names c.args.names.now c.in_default.ensures.cases) ∙ append-nil c.args.out.now)
