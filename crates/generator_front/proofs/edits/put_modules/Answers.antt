use Rattle.std.proofs.Common.{refl, ap}
use Rattle.script_reader.specs.Generating.{Generating}
use Rattle.generator_front.proofs.GivenEdits.{empty_front, none_given}
use Rattle.generator_front.proofs.edits.put_modules.Goals as goal

pub loop-init : goal.loop-init
loop-init g c = (
  refl,
  empty_front c.args.log.now c.args.pass.now.seen c.requires.log c.requires.empty,
  c.requires.generator,
  none_given c.args.generator.now c.args.log.now (ap (λ (z : Generating). z.given) c.requires.generator) c.requires.log,
)
