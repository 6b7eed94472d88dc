use Rattle.std.proofs.lemmas.Result.{on_ok_weaker}
use Rattle.mmt_syntax.specs.Readings.{read_assigns, read_written}
use Rattle.twelf_print.proofs.FrontTexts.{structure_written, some_assigns}
use Rattle.twelf_print.proofs.modules.structure.Goals as goal

pub returns : goal.returns
returns c =
    let decl = c.args.decl.now in
    record {
      ok = on_ok_weaker c.extend-4.result
          (λ e. structure_written c.args.out.now (read_written decl.name) (read_written decl.domain) (read_assigns decl.assigns) (some_assigns decl.assigns c.len.result c.len.ensures c.if-len-eq0.false)
          c.in_ok-extend.ensures.ok c.in_ok-path.ensures.ok c.in_ok-extend-2.ensures.ok c.in_ok-path-2.ensures.ok c.in_ok-extend-3.ensures.ok c.in_ok-assignments.ensures.ok e)
          c.extend-4.ensures.ok;
    }
