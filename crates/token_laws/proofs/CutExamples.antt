-- The small texts are cut so, by computation.
use Rattle.std.specs.Char.{encode_utf8}
use Rattle.std.specs.Str.{is_utf8, chars}
use Rattle.std.specs.Str.Lossy.{utf8_valid_len}
use Rattle.std.proofs.Common.{refl}
use Rattle.text_meaning.specs.Cutting.{cut_on, lex}
use Rattle.token_laws.specs.CutExamples.{CutExamples}

pub cut_examples : CutExamples
unfolding lex cut_on is_utf8 chars utf8_valid_len encode_utf8
cut_examples = record {
  empty = refl;
  arrow_within = refl;
  reserved_within = refl;
  one_path = refl;
  dot_and_space = refl;
  two_dots = refl;
  dot_first = refl;
  assigned = refl;
  colon_equal = refl;
  percent_words = refl;
  two_percents = refl;
  last_percent = refl;
  line_comment = refl;
  nested = refl;
  not_closed = refl;
  not_closed_later = refl;
  stray_quote = refl;
  stray_percent = refl;
  input_ends = refl;
  above_ascii = refl;
  control_bytes = refl;
  bad_byte_behind_the_end = refl;
  reserved_words = refl;
  brackets = refl;
  carriage_return = refl;
}
