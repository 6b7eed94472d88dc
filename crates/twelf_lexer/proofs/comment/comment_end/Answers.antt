use Rattle.std.proofs.Common.{sym, ◌∙◌}
use Rattle.twelf_lexer.proofs.CommentSteps.{opens_inner, closes_last, closes_inner, passes_inner, stays_open}
use Rattle.twelf_lexer.proofs.comment.comment_end.Goals as goal

pub loop-to-preserved-then-is_pair : goal.loop-to-preserved-then-is_pair
loop-to-preserved-then-is_pair c = opens_inner c.args.text.now c.args.at c.loop-to.to c.loop-to.inner c.loop-to.invariant c.loop-to-test.true (sym c.is_pair.ensures ∙ c.if-is_pair.true)

pub returns-then-inner-eq0 : goal.returns-then-inner-eq0
returns-then-inner-eq0 c = closes_last c.args.text.now c.args.at c.loop-to.to c.loop-to.inner c.loop-to.invariant c.loop-to-test.true (sym c.is_pair-in-loop-to.ensures ∙ c.if-is_pair-2.true) c.if-inner-eq0.true

pub loop-to-preserved-then-is_pair-2 : goal.loop-to-preserved-then-is_pair-2
loop-to-preserved-then-is_pair-2 c = closes_inner c.args.text.now c.args.at c.loop-to.to c.loop-to.inner c.loop-to.invariant c.loop-to-test.true (sym c.is_pair-in-loop-to.ensures ∙ c.if-is_pair-2.true) c.if-inner-eq0.false

pub loop-to-preserved : goal.loop-to-preserved
loop-to-preserved c =
    passes_inner c.args.text.now c.args.at c.loop-to.to c.loop-to.inner c.loop-to.invariant c.loop-to-test.true (sym c.is_pair.ensures ∙ c.if-is_pair.false) (sym c.is_pair-in-loop-to.ensures ∙ c.if-is_pair-2.false)

pub returns : goal.returns
returns c = stays_open c.args.text.now c.args.at c.loop-to.to c.loop-to.inner c.loop-to.invariant c.loop-to-test.false
