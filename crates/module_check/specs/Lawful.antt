-- The law of the subject of modules.
use Rattle.verdict_meaning.specs.Rounds.{modules}
use Rattle.verdict_laws.proofs.Verdicts.{present_names_have_verdicts, verdict_keeps_to_reach}
use Rattle.module_graph.specs.Subjects.{IsLawful}

-- There is a verdict on each present name and on no other, and that on a grounded name depends on its reach alone.
pub modules_lawful : IsLawful modules
modules_lawful = record { present = present_names_have_verdicts; reach = verdict_keeps_to_reach }
