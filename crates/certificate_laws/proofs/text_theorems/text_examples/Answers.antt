use Rattle.certificate_laws.proofs.TextsComputed.{nine_lines, first_line_alone, empty_text, text_without_line_feed}
use Rattle.certificate_laws.proofs.text_theorems.text_examples.Goals as goal

pub returns-clause-nine : goal.returns-clause-nine
returns-clause-nine c = nine_lines

pub returns-clause-first : goal.returns-clause-first
returns-clause-first c = first_line_alone

pub returns-clause-empty : goal.returns-clause-empty
returns-clause-empty c = empty_text

pub returns-clause-feed : goal.returns-clause-feed
returns-clause-feed c = text_without_line_feed
