use Rattle.verdict_examples.proofs.Computed.{empty_text, percent_word, open_comment, wrong_name}
use Rattle.verdict_examples.proofs.examples.unread.Goals as goal

pub returns-clause-empty_text : goal.returns-clause-empty_text
returns-clause-empty_text c = empty_text

pub returns-clause-percent_word : goal.returns-clause-percent_word
returns-clause-percent_word c = percent_word

pub returns-clause-open_comment : goal.returns-clause-open_comment
returns-clause-open_comment c = open_comment

pub returns-clause-wrong_name : goal.returns-clause-wrong_name
returns-clause-wrong_name c = wrong_name
