use Rattle.std.proofs.Common.{◌≡◌, take}
use Rattle.name_meaning.specs.Rows.{row_names}
use Rattle.edit_log_meaning.specs.Log.{library_of}
use Rattle.module_check.specs.Known.{AreVerdicts}
use Rattle.module_check.proofs.from_scratch.add_ungrounded.Given as goal

-- Those on the first ungrounded names are there.
abbrev pub invariant-loop-name : goal.invariant-loop-name
invariant-loop-name l = record {
  verdicts : AreVerdicts (library_of l.log) l.faces;
  names : row_names l.faces ≡ take l.name-index l.name-items;
}
