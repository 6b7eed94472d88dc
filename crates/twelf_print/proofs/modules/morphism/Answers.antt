use Rattle.twelf_print.proofs.FrontTexts.{next_word}
use Rattle.twelf_print.proofs.modules.morphism.Goals as goal

pub loop-word-preserved : goal.loop-word-preserved
loop-word-preserved c =
    next_word c.path.new.out c.in-Some.others.now c.loop-word.word-index c.word-item.result c.word-item.is c.loop-word-test.true c.loop-word.invariant c.in_ok-extend.ensures.ok c.in_ok-path-2.ensures.ok
