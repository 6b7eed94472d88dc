use Rattle.acceptance_laws.proofs.RefusedModules.{refused_modules, refused_modules_told}
use Rattle.acceptance_laws.proofs.refusal_laws.law_refusals.Goals as goal

pub returns-clause-known : goal.returns-clause-known
returns-clause-known c = refused_modules

pub returns-clause-told : goal.returns-clause-told
returns-clause-told c = refused_modules_told
