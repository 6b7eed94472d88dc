use Rattle.printing_laws.proofs.Decimals.{numbers_are_decimal}
use Rattle.printing_laws.proofs.printing_laws.law_numbers.Goals as goal

pub returns : goal.returns
returns c = numbers_are_decimal
