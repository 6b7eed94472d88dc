-- The small texts are read so, by computation.
use Rattle.std.specs.Char.{encode_utf8}
use Rattle.std.specs.Str.{is_utf8, chars}
use Rattle.std.specs.Str.Lossy.{utf8_valid_len}
use Rattle.std.proofs.Common.{refl}
use Rattle.text_meaning.specs.Cutting.{cut_on, lex}
use Rattle.text_meaning.specs.Parsing.{resume, answer_on, parse}
use Rattle.text_meaning.specs.TextAnswers.{read}
use Rattle.reading_laws.specs.ReadingExamples.{ReadingExamples}

pub reading_examples : ReadingExamples
unfolding read parse answer_on resume lex cut_on is_utf8 chars utf8_valid_len encode_utf8
reading_examples = record {
  empty = refl;
  open_comment = refl;
  bad_byte = refl;
  mode = refl;
  include_first = refl;
  not_ended = refl;
  ended_by_mark = refl;
  empty_theory = refl;
  natural_numbers = refl;
  structures = refl;
  a_view = refl;
  parenthesised = refl;
  parenthesised_head = refl;
  back_arrows = refl;
  binders = refl;
  mixed_row = refl;
  other_mixed_row = refl;
  hole = refl;
  no_domain = refl;
  no_domain_of_blank = refl;
  brace_of_a_body = refl;
  assigned_variable = refl;
  inner_module = refl;
  second_module = refl;
  module_in_judgement = refl;
  empty_judgement = refl;
  arrows_500 = refl;
  arrows_501 = refl;
  binders_500 = refl;
}
