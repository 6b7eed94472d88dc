use Rattle.mmt_interface.specs.Readings.{environment_of}
use Rattle.names.proofs.Included.{AreMet}
use Rattle.names.proofs.constants.included_constant.Given as goal

abbrev pub invariant-loop-theory : goal.invariant-loop-theory
invariant-loop-theory l = AreMet (environment_of l.scope.faces.now) l.written l.theory-items l.theory-index l.found
