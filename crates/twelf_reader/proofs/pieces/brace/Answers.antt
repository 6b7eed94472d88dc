use Rattle.std.proofs.Common.{◌≡◌, ◌+◌, true, false, sym, ap, ◌∙◌, rules}
use Rattle.text_meaning.specs.Tokens.{LeftBrace, RightBrace}
use Rattle.text_meaning.specs.Splitting.{SyntaxFault}
use Rattle.text_meaning.specs.Dividing.{InBody, divide_on}
use Rattle.twelf_expressions.specs.Signs.{is_sign}
use Rattle.twelf_expressions.specs.Left.{left, next_token}
use Rattle.twelf_expressions.proofs.Moves.{behind_next}
use Rattle.twelf_reader.proofs.Dividing.{any_last, inside_closes, inside_last, inside_opens, inside_passes}
use Rattle.twelf_reader.proofs.pieces.brace.Goals as goal

pub returns-then-not-pass-clause-goes : goal.returns-then-not-pass-clause-goes
returns-then-not-pass-clause-goes c = λ w x last.
    let end = c.pass.ensures.last c.if-not-pass.true in
    ap (divide_on (InBody w x c.args.inner last)) end.1 ∙ inside_last w x c.args.inner last end.0
    ∙ ap SyntaxFault (sym (c.place-at.ensures.place ∙ ap (λ ts. (next_token ts).span.from) end.1))

pub returns-in-LBrace-clause-goes : goal.returns-in-LBrace-clause-goes
returns-in-LBrace-clause-goes c = λ w x last.
    let t = next_token (left c.args.reader.now) in
    let after = left c.pass.new.self in
    let opens : is_sign LeftBrace t.kind ≡ true = search rules in
    ap (divide_on (InBody w x c.args.inner last)) (c.pass.ensures.passes c.if-not-pass.false)
    ∙ inside_opens w x c.args.inner last t after opens ∙ any_last w x (c.args.inner + 1) t.span.from 0 (next_token after) (behind_next after)

pub returns-in-RBrace-clause-goes : goal.returns-in-RBrace-clause-goes
returns-in-RBrace-clause-goes c = λ w x last.
    let t = next_token (left c.args.reader.now) in
    let after = left c.pass.new.self in
    let opens : is_sign LeftBrace t.kind ≡ false = search rules in
    let closes : is_sign RightBrace t.kind ≡ true = search rules in
    ap (divide_on (InBody w x c.args.inner last)) (c.pass.ensures.passes c.if-not-pass.false)
    ∙ inside_closes w x c.args.inner last c.checked_sub.result t (next_token after) (behind_next after) c.checked_sub.ensures opens closes

pub returns-in_default-clause-goes : goal.returns-in_default-clause-goes
returns-in_default-clause-goes c = λ w x last.
    let t = next_token (left c.args.reader.now) in
    let after = left c.pass.new.self in
    let opens : is_sign LeftBrace t.kind ≡ false = search rules in
    let closes : is_sign RightBrace t.kind ≡ false = search rules in
    ap (divide_on (InBody w x c.args.inner last)) (c.pass.ensures.passes c.if-not-pass.false)
    ∙ inside_passes w x c.args.inner last t after opens closes ∙ any_last w x c.args.inner t.span.from 0 (next_token after) (behind_next after)
