use Rattle.std.proofs.lemmas.Result.{on_ok_weaker}
use Rattle.mmt_syntax.specs.Readings.{read_assign}
use Rattle.twelf_print.proofs.FrontTexts.{assign_written}
use Rattle.twelf_print.proofs.modules.assignment.Goals as goal

pub returns : goal.returns
returns c =
    record {
      ok = on_ok_weaker c.extend-2.result (λ e. assign_written c.args.out.now c.args.gap.now (read_assign c.args.assign.now) c.in_ok-assigned.ensures.ok c.in_ok-extend.ensures.ok e) c.extend-2.ensures.ok;
    }
