use Rattle.std.proofs.Common.{◌∙◌, sym, ap, ◌++◌, ◌∷◌, [], take, slice_index_or}
use Rattle.list_laws.proofs.Lists.{written_then}
use Rattle.text_meaning.specs.Tokens.{dotted}
use Rattle.twelf_print.proofs.Texts.{dotted_next}
use Rattle.twelf_print.proofs.paths.names.Goals as goal

pub loop-name-preserved : goal.loop-name-preserved
loop-name-preserved c =
    let names = c.in-Some.others.now in
    let i = c.loop-name.name-index in
    let same = c.as_bytes-in-loop-name.ensures.value ∙ c.as_str-in-loop-name.ensures.text in
    let one = written_then c.loop-name.out (46 ∷ []) c.as_bytes-in-loop-name.result.now c.in_ok-extend-2.ensures.ok c.in_ok-extend-3.ensures.ok in
    written_then c.extend.new.self (dotted (take i names)) (46 ∷ c.as_bytes-in-loop-name.result.now) c.loop-name.invariant one
    ∙ ap (λ text. c.extend.new.self ++ text) (sym (dotted_next names i c.as_bytes-in-loop-name.result.now (same ∙ c.name-item.is ∙ ap (λ n. slice_index_or names i n) (sym same)) c.loop-name-test.true))
