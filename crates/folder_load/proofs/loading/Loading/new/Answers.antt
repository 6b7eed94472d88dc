use Rattle.std.proofs.Common.{sym, ap, subst}
use Rattle.edit_log_meaning.specs.Append.{total_size}
use Rattle.folder_load.specs.Ahead.{IsFresh}
use Rattle.folder_load.proofs.FreshLogs.{empty_fresh}
use Rattle.folder_load.proofs.loading.Loading.new.Goals as goal

pub returns-clause-tallied : goal.returns-clause-tallied
returns-clause-tallied c = record {
  fresh = subst IsFresh (sym c.new.ensures) empty_fresh;
  size = sym (ap total_size c.new.ensures);
}
