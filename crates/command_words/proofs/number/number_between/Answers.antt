use Rattle.std.proofs.Common.{◌≡◌, true, sym, ◌∙◌, arith}
use Rattle.printing_meaning.specs.Numbers.{is_number}
use Rattle.command_words.proofs.Numerals.{unparsed}
use Rattle.command_words.proofs.number.number_between.Goals as goal

pub returns-in_err-value : goal.returns-in_err-value
returns-in_err-value c =
    let number : is_number c.args.word.now ≡ true = search (c.if-not-is_number.false, c.is_number.ensures, c.as_bytes.ensures.value) in
    c.from_residual.ensures ∙ sym (unparsed c.args.least c.args.greatest c.args.word.now c.parse.result (omega (arith, c.ranges.greatest)) number c.parse.ensures.value.0
    (sym c.ok.ensures.value ∙ c.in_err-value.was))
