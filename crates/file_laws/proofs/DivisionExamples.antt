-- The small files divide so, by computation.
use Rattle.std.specs.Char.{encode_utf8}
use Rattle.std.specs.Str.{is_utf8, chars}
use Rattle.std.proofs.Common.{refl}
use Rattle.text_meaning.specs.Cutting.{cut_on, lex}
use Rattle.text_meaning.specs.Dividing.{divide_on, divide}
use Rattle.file_laws.specs.DivisionExamples.{DivisionExamples}

pub division_examples : DivisionExamples
unfolding divide divide_on lex cut_on is_utf8 chars encode_utf8
division_examples = record {
  empty = refl;
  two_modules = refl;
  no_module = refl;
  dot_at_top = refl;
  include_at_top = refl;
  mode_at_top = refl;
  no_name = refl;
  name_missing = refl;
  not_closed = refl;
  no_body = refl;
  no_dot = refl;
  dot_missing = refl;
  ended_within = refl;
  ended_behind = refl;
  odd_head = refl;
  open_comment = refl;
}
