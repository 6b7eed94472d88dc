use Rattle.elaborate.proofs.HeadsStand.{one_more}
use Rattle.elaborate.proofs.heads.Head.takes.Goals as goal

pub returns : goal.returns
returns c head stands = one_more c.args.self c.push.new.self c.in_ok-classifier.classifier c.args.argument head stands c.in_ok-push.ensures.items (c.in_ok-classifier.ensures head stands.classifies)
