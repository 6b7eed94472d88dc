use Rattle.morphism_words_typing.proofs.WordsTyped.{rows_are_typed}
use Rattle.morphism_words_typing.proofs.row_laws.law_typed_rows.Goals as goal

pub returns : goal.returns
returns c = rows_are_typed
