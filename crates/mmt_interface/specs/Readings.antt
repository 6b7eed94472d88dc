-- What the values of this crate stand for: faces, refusals and verdicts, read off them; and what is known of modules from
-- the faces of a list of names.
use Rattle.std.specs.Prelude.{List, map, Option, Some, None}
use Rattle.std.specs.Option.{option_and_then}
use Rattle.std.specs.List.{IsDistinct}
use Rattle.name_meaning.specs.Names.{Name, same_name}
use Rattle.name_meaning.specs.Rows.{Rows, row_names, row_of}
use Rattle.lf_terms.specs.Below.Readings.{read_signature, read_map}
use Rattle.library_meaning.specs.Faces as faces
use Rattle.library_meaning.specs.Environments.{environment_from}
use Rattle.judged_meaning.specs.Below.Refusals as refusals
use Rattle.judged_meaning.specs.Below.Verdicts as verdicts
use Rattle.mmt_syntax.specs.Readings.{read_span}
use Rattle.mmt_interface.specs.ReadRules.{read_rule}
use Rattle.mmt_interface.specs.declared.face.StructFace.{StructFace}
use Rattle.mmt_interface.specs.declared.face.TheoryFace.{TheoryFace}
use Rattle.mmt_interface.specs.declared.face.ViewFace.{ViewFace}
use Rattle.mmt_interface.specs.declared.refusal.Refusal.{Refusal}
use Rattle.mmt_interface.specs.declared.verdict.Interface.{Interface}
use Rattle.mmt_interface.specs.declared.verdict.Interface.TheVariants.{Theory, View}
use Rattle.mmt_interface.specs.declared.verdict.Verdict.{Verdict}
use Rattle.mmt_interface.specs.declared.verdict.Verdict.TheVariants.{Accepted, Refused}
use Rattle.mmt_interface.specs.declared.faces.FaceFault.{FaceFault}
use Rattle.mmt_interface.specs.declared.faces.FaceFault.TheVariants.{Twice, Memory}

abbrev pub read_structure : StructFace → faces.StructureFace
read_structure s = record { name = s.name; domain = s.domain; map = read_map s.map }

abbrev pub read_structures : List StructFace → List faces.StructureFace
read_structures = map read_structure

abbrev pub read_theory : TheoryFace → faces.TheoryFace
read_theory t = record { name = t.name; own = read_signature t.own; includes = t.includes; structures = read_structures t.structs }

abbrev pub read_view : ViewFace → faces.ViewFace
read_view v = record { name = v.name; domain = v.domain; codomain = v.codomain; map = read_map v.map }

abbrev pub read_interface : Interface → verdicts.Interface
read_interface (Theory face size) = verdicts.Theory (read_theory face) size
read_interface (View face) = verdicts.View (read_view face)

abbrev pub read_refusal : Refusal → refusals.Refusal
read_refusal r = record { span = read_span r.span; rule = read_rule r.rule; label = r.label }

abbrev pub read_verdict : Verdict → verdicts.Verdict
read_verdict (Accepted interface) = verdicts.Accepted (read_interface interface)
read_verdict (Refused refusal) = verdicts.Refused (read_refusal refusal)

-- The names with their verdicts, in order.
abbrev pub read_faces : Rows Verdict → Rows verdicts.Verdict
read_faces rows = map (λ (row : Name × Verdict). (row.0, read_verdict row.1)) rows

-- What is known of modules from faces: a name that they lack is absent, a refused module is refused, and an accepted one
-- has its face.
abbrev pub environment_of : Rows Verdict → faces.Environment
environment_of rows = environment_from verdicts.known_by (read_faces rows)

-- The face of an accepted theory, and of an accepted view.
abbrev pub theory_in : Verdict → Option TheoryFace
theory_in (Accepted (Theory face size)) = Some face
theory_in (Accepted (View face)) = None
theory_in (Refused refusal) = None

abbrev pub view_in : Verdict → Option ViewFace
view_in (Accepted (Theory face size)) = None
view_in (Accepted (View face)) = Some face
view_in (Refused refusal) = None

-- The theory under a name, and the view.
abbrev pub theory_under : Rows Verdict → Name → Option TheoryFace
theory_under rows name = option_and_then theory_in (row_of rows name)

abbrev pub view_under : Rows Verdict → Name → Option ViewFace
view_under rows name = option_and_then view_in (row_of rows name)

-- No name has two verdicts.
abbrev pub HasDistinctNames : Rows Verdict → Type 0
HasDistinctNames rows = IsDistinct same_name (row_names rows)

-- What a refused push hands back.
abbrev pub handed_back : FaceFault → Name × Verdict
handed_back (Twice name verdict) = (name, verdict)
handed_back (Memory name verdict) = (name, verdict)
