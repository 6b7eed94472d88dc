use Rattle.token_laws.proofs.PrintedTokens.{printed_tokens_are_cut}
use Rattle.token_laws.proofs.laws.law_printed_tokens.Goals as goal

pub returns : goal.returns
returns c = printed_tokens_are_cut
