use Rattle.module_check.proofs.known_answers.push_answer.Goals as goal

pub push-requires : goal.push-requires
push-requires c = rw c.in-Ok.ensures c.requires
