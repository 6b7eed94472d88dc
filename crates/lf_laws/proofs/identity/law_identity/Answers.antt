use Rattle.lf_meaning.specs.Terms.{Pi}
use Rattle.term_trees.specs.Readings.{read_context, read_signature}
use Rattle.eta_laws.proofs.Identity.{eta_reduce}
use Rattle.eta_laws.proofs.IdentityTyping.{eta_checks, eta_variable_checks}
use Rattle.lf_laws.proofs.identity.law_identity.Goals as goal

pub returns-clause-variable : goal.returns-clause-variable
returns-clause-variable c = λ family typed formed found.
    eta_variable_checks (read_signature c.args.sig.now) typed (read_context c.args.ctx.now) formed c.args.var family found

pub returns-clause-atomic : goal.returns-clause-atomic
returns-clause-atomic c = λ r domain codomain typed formed synthesises.
    eta_checks (read_signature c.args.sig.now) typed (read_context c.args.ctx.now) formed r (Pi domain codomain) synthesises

pub returns-clause-applied : goal.returns-clause-applied
returns-clause-applied c = λ sorts context t r arguments fill. eta_reduce sorts context t r arguments fill
