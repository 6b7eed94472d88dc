use Rattle.text_meaning.specs.Reading.{ModuleText}
use Rattle.text_meaning.specs.TextAnswers as texts
use Rattle.reading_laws.proofs.OneAnswer.{one_reading}
use Rattle.module_check.proofs.reading.read.Goals as goal

pub returns : goal.returns
returns c = c.read_module.ensures.only (texts.read ModuleText c.args.text.now) (one_reading ModuleText c.args.text.now).is_read
