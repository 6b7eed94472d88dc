use Rattle.std.proofs.Common.{◌∷◌, ap, ◌∙◌}
use Rattle.twelf_expressions.specs.Left.{left, next_token}
use Rattle.twelf_expressions.proofs.Outlines.{path_here}
use Rattle.twelf_expressions.proofs.reader.Reader.skip_path.Goals as goal

pub returns-clause-passes : goal.returns-clause-passes
returns-clause-passes c =
    let t = next_token (left c.args.self.now) in
    let word = path_here t.span t.kind c.requires in
    (word.0, c.skip.ensures.passes ∙ ap (λ u. u ∷ left c.skip.new.self) word.1)
