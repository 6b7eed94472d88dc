use Rattle.std.proofs.Common.{◌≡◌, ◌++◌, take}
use Rattle.name_meaning.specs.Rows.{row_names}
use Rattle.edit_log_meaning.specs.Log.{library_of}
use Rattle.text_meaning.specs.Dependencies.{dependencies}
use Rattle.module_graph_meaning.specs.Walks.{ungrounded_names}
use Rattle.module_check.specs.Known.{AreVerdicts}
use Rattle.module_check.proofs.from_scratch.add_grounded.Given as goal

-- Behind those on the ungrounded names stand those on the first names of the order.
abbrev pub invariant-loop-name : goal.invariant-loop-name
invariant-loop-name l = record {
  verdicts : AreVerdicts (library_of l.log) l.faces;
  names : row_names l.faces ≡ ungrounded_names dependencies (library_of l.log) ++ take l.name-index l.name-items;
}
