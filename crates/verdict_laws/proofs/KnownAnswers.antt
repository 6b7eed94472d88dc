-- What is known from the answers of what a name reaches.
use Rattle.std.proofs.Common.{◌≡◌, Bool, true, false, cond, Option, Some, None, is_some, refl, ap, ◌∙◌}
use Rattle.std.specs.Prelude.{option_map}
use Rattle.name_meaning.specs.Names.{Name, is_among}
use Rattle.name_laws.proofs.RowLookups.{row_made}
use Rattle.edit_log_meaning.specs.Log.{Library, is_present}
use Rattle.module_graph_meaning.specs.Subject.{answers_of, present_answer}
use Rattle.library_meaning.specs.Faces.{IsAbsent}
use Rattle.library_meaning.specs.Environments.{known_or_absent, environment_from}
use Rattle.verdict_meaning.specs.Verdicts.{Verdict}
use Rattle.verdict_meaning.specs.Rounds.{known_if, known_to, modules, others_reached, verdict_of}
use Rattle.verdict_laws.specs.AnswersKnown.{AnswersAreKnown}
use Rattle.verdict_laws.proofs.Verdicts.{verdict_exactly}

chosen : (b : Bool) (o : Option Verdict) → known_or_absent (option_map known_if (cond b (Some o) None)) ≡ cond b (known_if o) IsAbsent
chosen true o = refl
chosen false o = refl

if_present : (b : Bool) (o : Option Verdict) → is_some o ≡ b → known_if (cond b o None) ≡ known_if o
if_present true o h = refl
if_present false None h = refl
if_present false (Some v) h = absurd (cc)

at : (library : Library) (name other : Name) → environment_from known_if (answers_of modules library name) other ≡ known_to library name other
unfolding answers_of others_reached verdict_of
at library name other =
    ap (λ o. known_or_absent (option_map known_if o)) (row_made (present_answer modules library) (others_reached library name) other)
    ∙ chosen (is_among (others_reached library name) other) (present_answer modules library other)
    ∙ ap (λ k. cond (is_among (others_reached library name) other) k IsAbsent) (if_present (is_present library other) (verdict_of library other) (verdict_exactly library other))

pub answers_are_known : AnswersAreKnown
answers_are_known library name = λ i other. at library name other i
