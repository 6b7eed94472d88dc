use Rattle.token_laws.proofs.Spans.{tokens_stand_well}
use Rattle.token_laws.proofs.laws.law_spans.Goals as goal

pub returns : goal.returns
returns c = tokens_stand_well
