use Rattle.std.proofs.Common.{◌≡◌, ◌++◌, [], ◌∷◌, sym, ap, ◌∙◌, arith}
use Rattle.std.proofs.lemmas.List.{map-append}
use Rattle.text_meaning.specs.Parsing.{AtAssign, answer_on}
use Rattle.mmt_syntax.specs.Readings.{read_assign, read_assigns}
use Rattle.twelf_expressions.specs.Left.{left}
use Rattle.twelf_reader.specs.Items.{next_assign}
use Rattle.twelf_reader.proofs.assigns.assigns.Goals as goal

pub loop-assigns-preserved : goal.loop-assigns-preserved
loop-assigns-preserved c =
    let xs = c.loop-assigns.assigns in
    let x = c.in-Some.assign in
    let more : read_assigns c.add.new.self ≡ read_assigns xs ++ (read_assign x ∷ []) = ap read_assigns c.in_ok-add.ensures.ok ∙ map-append read_assign xs (x ∷ []) in
    record {
      goes = λ o.
          c.loop-assigns.invariant.goes o ∙ c.in_ok-assign.ensures.goes o (read_assigns xs)
          ∙ ap (λ a. answer_on (next_assign o (read_assigns xs) a) (left c.assign.new.reader)) c.in-Some.is
          ∙ ap (λ l. answer_on (AtAssign o l) (left c.assign.new.reader)) (sym more);
      less = omega (arith, c.loop-assigns.invariant.less, c.in_ok-assign.ensures.less);
    }

pub returns-clause-goes : goal.returns-clause-goes
returns-clause-goes c = λ o.
    let xs = c.loop-assigns.assigns in
    c.loop-assigns.invariant.goes o ∙ c.in_ok-assign.ensures.goes o (read_assigns xs) ∙ ap (λ a. answer_on (next_assign o (read_assigns xs) a) (left c.assign.new.reader)) c.in_default.is
