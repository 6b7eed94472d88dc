use Rattle.std.proofs.Common.{◌≡◌, sym, ap, ◌∙◌, rules}
use Rattle.text_meaning.specs.Splitting.{SyntaxFault, UnsupportedFault}
use Rattle.text_meaning.specs.Dividing.{AtTop, divide_on}
use Rattle.mmt_syntax.specs.Readings.{read_span}
use Rattle.twelf_lexer.specs.declared.sign.PercentWord.TheVariants.{Sig, View}
use Rattle.twelf_expressions.specs.Left.{left}
use Rattle.twelf_expressions.proofs.Moves.{behind_next}
use Rattle.twelf_reader.proofs.Dividing.{no_module, other_word, theory_word, view_word}
use Rattle.twelf_reader.proofs.pieces.module_word.Goals as goal

pub returns-in-Percent-Sig-clause-goes : goal.returns-in-Percent-Sig-clause-goes
returns-in-Percent-Sig-clause-goes c = ap (divide_on AtTop) c.take.ensures.takes ∙ theory_word (read_span c.take.result) (left c.take.new.self)

pub returns-in-Percent-View-clause-goes : goal.returns-in-Percent-View-clause-goes
returns-in-Percent-View-clause-goes c = ap (divide_on AtTop) c.take-in-Percent-View.ensures.takes ∙ view_word (read_span c.take-in-Percent-View.result) (left c.take-in-Percent-View.new.self)

pub returns-in-Percent : goal.returns-in-Percent
returns-in-Percent c =
    let r = c.args.reader.now in
    let l = r.next in
    let w = c.in-Percent.field-0 in
    let no_theory : ¬ (w ≡ Sig) = search rules in
    let no_view : ¬ (w ≡ View) = search rules in
    record {
      goes = other_word r.text.now l.span.from l.span.to l.sign w (behind_next (left r)) (sym c.ahead.ensures ∙ c.in-Percent.is) no_theory no_view ∙ ap UnsupportedFault (sym c.place.ensures.place);
      less = tt;
    }

pub returns-in_default : goal.returns-in_default
returns-in_default c =
    let r = c.args.reader.now in
    let l = r.next in
    record {
      goes = no_module r.text.now l.span.from l.span.to l.sign (behind_next (left r)) (λ w e. c.in_default.not-Percent w (c.ahead.ensures ∙ e)) c.requires ∙ ap SyntaxFault (sym c.place-in_default.ensures.place);
      less = tt;
    }
