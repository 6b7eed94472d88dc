-- The generator: a library that is made from a number, its edits, and what is printed of them (this profile).
use Rattle.std.specs.Prelude.{ℕ, zero, suc, List, [], ◌∷◌, ◌++◌, ◌+◌, ◌*◌, ◌-◌, ◌/◌, ◌%◌, ◌^◌, length, filter, sum_by, nat_eq, if◌then◌else◌, codes}
use Rattle.std.specs.Fmt.{decimal}
use Rattle.name_meaning.specs.Names.{Name, Text, is_among}
use Rattle.edit_log_meaning.specs.Log.{Edit, Put, edited_name, Log, Library, names_of, library_of, version_of}
use Rattle.edit_log_meaning.specs.Append.{Edited, Made, Same, Absent, Full, TooLong, TooMany, append_answer, appended, appended_all}
use Rattle.module_graph_meaning.specs.Walks.{Dependencies, is_grounded}
use Rattle.module_graph_meaning.specs.Reach.{reach}
use Rattle.library_meaning.specs.Faces.{Environment, flat_signature, flat_of}
use Rattle.printing_meaning.specs.VerdictLines.{Judged, Refused, AcceptedTheory, AcceptedView}
use Rattle.printing_meaning.specs.GeneratorLines.{Counts, generator_line, installs_line}
use Rattle.run_meaning.specs.Judging.{Judging, environment_of}
use Rattle.run_meaning.specs.Parts.{Telling, told_of_all}
use Rattle.run_meaning.specs.Folders.{accepted_count, refused_count}

-- The number after a draw.
abbrev pub drawn_from : ℕ → ℕ
drawn_from number = (number * 1103515245 + 12345) % (2 ^ 31)

-- The number after so many draws.
unfoldable pub number_after : ℕ → ℕ → ℕ
number_after start zero = start
number_after start (suc draws) = drawn_from (number_after start draws)

-- What the draw of this number, counted from 1, gives below a bound: the upper bits, and of these the remainder.
abbrev pub upper_bits : ℕ → ℕ → ℕ
upper_bits start draw = number_after start draw / 65536

abbrev pub draw_below : ℕ → ℕ → ℕ → ℕ
draw_below start draw bound = upper_bits start draw % bound

-- The parent of a module behind the first, given by its index: the draws begin with those of the parents, the i-th below i.
abbrev pub parent_of : ℕ → ℕ → ℕ
parent_of start index = draw_below start index index

-- The module that an edit, counted from 1, puts again.
abbrev pub edited_module : ℕ → ℕ → ℕ → ℕ
edited_module start modules edit = draw_below start (modules - 1 + edit) modules

abbrev pub module_name : ℕ → Name
module_name index = codes "G" ++ decimal index

-- The lines of the parent; the first module has none.
abbrev pub parent_lines : ℕ → ℕ → List ℕ
parent_lines start zero = []
parent_lines start (suc before) =
    codes "%include " ++ module_name (parent_of start (suc before)) ++ codes ".\n%struct s : " ++ module_name (parent_of start (suc before)) ++ codes ".\n"

-- The text of a module in a revision.
abbrev pub module_text : ℕ → ℕ → ℕ → Text
module_text start index revision =
    codes "%sig " ++ module_name index ++ codes " = {\n" ++ parent_lines start index ++ codes "t : type.\nc" ++ decimal revision ++ codes " : t.\n}.\n"

abbrev pub generated_put : ℕ → ℕ → ℕ → Edit
generated_put start index revision = Put (module_name index) (module_text start index revision)

-- The puts of so many modules in revision 0, the last of them at the end.
unfoldable pub first_puts : ℕ → ℕ → List Edit
first_puts start zero = []
first_puts start (suc before) = first_puts start before ++ generated_put start before 0 ∷ []

-- The first so many edits of a library of so many modules; an edit's number is its revision.
unfoldable pub later_puts : ℕ → ℕ → ℕ → List Edit
later_puts start modules zero = []
later_puts start modules (suc before) =
    later_puts start modules before ++ generated_put start (edited_module start modules (suc before)) (suc before) ∷ []

-- All edits of the generator, in order.
unfoldable pub generated : ℕ → ℕ → ℕ → List Edit
generated start modules edits = first_puts start modules ++ later_puts start modules edits

-- The grounded names of the library, in byte order.
abbrev pub grounded_names : Dependencies → Library → List Name
grounded_names dependencies library = filter (is_grounded dependencies library) (names_of library)

-- How many grounded names of the library have this name in their reach.
abbrev pub reaching_count : Dependencies → Library → Name → ℕ
reaching_count dependencies library name =
    length (filter (λ (other : Name). is_among (reach dependencies library other) name) (grounded_names dependencies library))

-- How many verdicts an edit asks for over the log before it: none where it is not made.
abbrev pub asked_by : Dependencies → Log → Edit → Edited → ℕ
asked_by dependencies log edit (Made version) = reaching_count dependencies (library_of (appended log edit)) (edited_name edit)
asked_by dependencies log edit (Same version) = 0
asked_by dependencies log edit (Absent version) = 0
asked_by dependencies log edit Full = 0
asked_by dependencies log edit TooLong = 0
asked_by dependencies log edit TooMany = 0

unfoldable pub asked_after : Dependencies → Log → List Edit → ℕ
asked_after dependencies log [] = 0
asked_after dependencies log (edit ∷ edits) =
    asked_by dependencies log edit (append_answer log edit) + asked_after dependencies (appended log edit) edits

-- How many verdicts are installed where every module is brought to a verdict after the first puts, and after each
-- later edit: the grounded ones, and then those whose reach holds the edited module.
unfoldable pub installs_of : Dependencies → ℕ → ℕ → ℕ → ℕ
installs_of dependencies start modules edits =
    length (grounded_names dependencies (library_of (appended_all [] (first_puts start modules))))
    + asked_after dependencies (appended_all [] (first_puts start modules)) (later_puts start modules edits)

-- The K of an accepted module.
abbrev pub size_of : Environment → Judged → ℕ
size_of environment (Refused refusal) = 0
size_of environment (AcceptedTheory face) = length (flat_signature environment face)
size_of environment (AcceptedView face) = length (flat_of environment face.domain)

abbrev pub declarations_of : Judging → Library → ℕ
declarations_of judging library =
    sum_by (λ (name : Name). size_of (environment_of judging library) (judging.judged library name)) (names_of library)

abbrev pub counts_of : Judging → ℕ → ℕ → Log → Counts
counts_of judging modules edits log = record {
  modules = modules;
  edits = edits;
  version = version_of log;
  accepted = accepted_count judging (library_of log);
  refused = refused_count judging (library_of log);
  declarations = declarations_of judging (library_of log);
}

-- The line of the counts, and without workers the line of the installs as well.
unfoldable pub generator_output : Judging → ℕ → ℕ → ℕ → ℕ → List ℕ
generator_output judging start modules edits workers =
    generator_line (counts_of judging modules edits (appended_all [] (generated start modules edits)))
    ++ (if nat_eq workers 0 then installs_line (installs_of judging.dependencies start modules edits) else [])

-- What the generator tells where it is done: every grounded module has its verdict in the first full library, and again
-- after each later edit.
unfoldable pub told_after_each : Dependencies → Log → List Edit → List Telling
told_after_each dependencies log [] = []
told_after_each dependencies log (edit ∷ edits) = told_of_all dependencies (appended log edit) ++ told_after_each dependencies (appended log edit) edits

unfoldable pub generator_told : Dependencies → ℕ → ℕ → ℕ → List Telling
generator_told dependencies start modules edits =
    told_of_all dependencies (appended_all [] (first_puts start modules))
    ++ told_after_each dependencies (appended_all [] (first_puts start modules)) (later_puts start modules edits)
