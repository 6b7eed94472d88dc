use Rattle.report_text.proofs.Places.{places_in_files}
use Rattle.report_text.proofs.told.law_places_in_files.Goals as goal

pub returns : goal.returns
returns c = places_in_files
