use Rattle.std.proofs.Common.{◌≡◌, ◌++◌, [], ◌∷◌, sym, ap, ◌∙◌, arith}
use Rattle.std.proofs.lemmas.List.{map-append}
use Rattle.text_meaning.specs.Parsing.{AtDecl, answer_on}
use Rattle.mmt_syntax.specs.Readings.{read_decl, read_decls}
use Rattle.twelf_expressions.specs.Left.{left}
use Rattle.twelf_reader.specs.Items.{next_decl}
use Rattle.twelf_reader.proofs.decls.decls.Goals as goal

pub loop-decls-preserved : goal.loop-decls-preserved
loop-decls-preserved c =
    let xs = c.loop-decls.decls in
    let x = c.in-Some.decl in
    let more : read_decls c.add.new.self ≡ read_decls xs ++ (read_decl x ∷ []) = ap read_decls c.in_ok-add.ensures.ok ∙ map-append read_decl xs (x ∷ []) in
    record {
      goes = λ sig.
          c.loop-decls.invariant.goes sig ∙ c.in_ok-decl.ensures.goes sig (read_decls xs)
          ∙ ap (λ a. answer_on (next_decl sig (read_decls xs) a) (left c.decl.new.reader)) c.in-Some.is
          ∙ ap (λ l. answer_on (AtDecl sig l) (left c.decl.new.reader)) (sym more);
      less = omega (arith, c.loop-decls.invariant.less, c.in_ok-decl.ensures.less);
    }

pub returns-clause-goes : goal.returns-clause-goes
returns-clause-goes c = λ sig.
    let xs = c.loop-decls.decls in
    c.loop-decls.invariant.goes sig ∙ c.in_ok-decl.ensures.goes sig (read_decls xs) ∙ ap (λ a. answer_on (next_decl sig (read_decls xs) a) (left c.decl.new.reader)) c.in_default.is
