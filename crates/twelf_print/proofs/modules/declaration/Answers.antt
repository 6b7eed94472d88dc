use Rattle.std.proofs.lemmas.Result.{on_ok_weaker}
use Rattle.mmt_syntax.specs.Readings.{read_decl}
use Rattle.twelf_print.proofs.FrontTexts.{decl_written}
use Rattle.twelf_print.proofs.modules.declaration.Goals as goal

pub returns : goal.returns
returns c =
    record { ok = on_ok_weaker c.extend.result (λ e. decl_written c.args.out.now (read_decl c.args.decl.now) c.in_ok-declared.ensures.ok e) c.extend.ensures.ok }
