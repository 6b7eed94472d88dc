-- Lines of files that were not loaded, and of what is told of modules, with places counted in files.
use Rattle.std.proofs.Common.{◌≡◌, ◌≤◌, ◌+◌, ℕ, true, false, not, List, length, take, drop, Option, Some, None, is_some, refl, sym, ap, ◌∙◌, arith, true≢false}
use Rattle.std.proofs.lemmas.List.{length-take}
use Rattle.std.specs.Prelude.{option_map}
use Rattle.name_meaning.specs.Names.{Name, Text}
use Rattle.edit_log_meaning.specs.Log.{Log, library_of, text_of, version_of}
use Rattle.fault_laws.proofs.Grounds.{verdicts_stand_in_texts}
use Rattle.verdict_meaning.specs.Verdicts as verdicts
use Rattle.verdict_meaning.specs.Rounds.{verdict_of}
use Rattle.verdict_laws.proofs.Verdicts.{verdict_exactly}
use Rattle.printing_meaning.specs.VerdictLines.{judged_line, refused_line}
use Rattle.printing_meaning.specs.FolderLines as lines
use Rattle.printing_meaning.specs.FolderLines.{place_in_file}
use Rattle.run_meaning.specs.Judging.{environment_of}
use Rattle.run_meaning.specs.Files.{Damaged, Origin}
use Rattle.printing_meaning.specs.Printed.{absent_line}
use Rattle.run_meaning.specs.Folders.{damaged_line, is_refused, loaded_line}
use Rattle.judged_meaning.specs.JudgingByRules.{judged_by, judged_if, printed_refusal, rules}
use Rattle.mmt_syntax.specs.declared.origin.Origin as shown
use Rattle.report_text.specs.FileWords.{fault_text, read_file_word}
use Rattle.report_text.specs.ToldLines.{shown_place, text_or_none, told_text}
use Rattle.report_text.proofs.Places.{places_in_files}
use Rattle.mmt_interface.specs.Readings.{read_verdict}
use Rattle.mmt_interface.specs.declared.verdict.Interface.{Interface}
use Rattle.mmt_interface.specs.declared.verdict.Interface.TheVariants.{Theory, View}
use Rattle.mmt_interface.specs.declared.verdict.Verdict as verdict
use Rattle.mmt_interface.specs.declared.verdict.Verdict.TheVariants.{Accepted, Refused}
use Rattle.verdict_board.specs.declared.replies.Told as told
use Rattle.verdict_board.specs.declared.replies.Told.TheVariants.{Verdict, Pending, Absent}
use Rattle.board_front.specs.Told.{IsToldOf, unaccepted}
use Rattle.folder_load.specs.Shown.{shown_damaged, shown_origin, shown_word}
use Rattle.folder_front.specs.Sheets.{verdict_from}
use Rattle.folder_front.proofs.FoundOrigins.{CameFrom}

-- ---- files that were not loaded

word_shown : (word : lines.FileWord) → read_file_word (shown_word word) ≡ word
word_shown lines.LongFile = refl
word_shown lines.BadSyntax = refl
word_shown lines.Unsupported = refl
word_shown lines.DuplicateName = refl
word_shown lines.TooManyModules = refl
word_shown lines.FullLog = refl

pub fault_shown : (damaged : Damaged) → fault_text (shown_damaged damaged) ≡ damaged_line damaged
fault_shown damaged =
    ap (λ (word : lines.FileWord). lines.file_line damaged.file.name damaged.file.bytes (record { at = damaged.fault.at; word = word; about = damaged.fault.about })) (word_shown damaged.fault.word)

-- ---- verdict lines

module _ (log : Log) (name : Name) (origin : Origin) (size : ℕ) (inside : origin.first ≤ length origin.file.bytes) where
  abbrev module_text : Text
  module_text = take size (drop origin.first origin.file.bytes)

  shorter : length module_text ≤ size
  shorter = let l = length-take size (drop origin.first origin.file.bytes) in omega (arith, l)

  place_is : (at : ℕ) → at ≤ length module_text → shown_place (Some (shown_origin origin)) module_text at ≡ place_in_file origin.file.name origin.file.bytes (origin.first + at)
  place_is at within =
      places_in_files (shown_origin origin) origin.file.bytes origin.first size at (record { inside = inside; line = refl; column = refl }) (let s = shorter in omega (arith, s, within))

  abbrev shown_line : Option verdicts.Verdict → List ℕ
  shown_line verdict = judged_line (environment_of rules (library_of log)) name (version_of log) (shown_place (Some (shown_origin origin)) module_text) (judged_if verdict)

  abbrev line_in_file : Option verdicts.Verdict → List ℕ
  line_in_file verdict =
      judged_line (environment_of rules (library_of log)) name (version_of log) (λ (at : ℕ). place_in_file origin.file.name origin.file.bytes (origin.first + at)) (judged_if verdict)

  line_is : (verdict : Option verdicts.Verdict) → verdict_of (library_of log) name ≡ verdict → text_of (library_of log) name ≡ Some module_text → shown_line verdict ≡ line_in_file verdict
  line_is None v t = absurd (true≢false (sym (ap is_some t) ∙ sym (verdict_exactly (library_of log) name) ∙ ap is_some v))
  line_is (Some (verdicts.Accepted (verdicts.Theory face number))) v t = refl
  line_is (Some (verdicts.Accepted (verdicts.View face))) v t = refl
  line_is (Some (verdicts.Refused refusal)) v t =
      ap (λ (place : List ℕ). refused_line name (version_of log) place (printed_refusal refusal))
      (place_is refusal.span.from
      (let w = verdicts_stand_in_texts (library_of log) name module_text refusal t v in let f = w.forward in let b = w.before in omega (arith, f, b)))

pub verdict_shown : (log : Log) (name : Name) (origin : Option Origin) (text : Option Text) → text_of (library_of log) name ≡ text → CameFrom origin text
    → verdict_from log name (option_map shown_origin origin) text ≡ loaded_line rules log name origin
verdict_shown log name None text t came = ap (verdict_from log name None) came
verdict_shown log name (Some origin) text t came =
    ap (verdict_from log name (Some (shown_origin origin))) came.1
    ∙ line_is log name origin came.0 came.2 (verdict_of (library_of log) name) refl (t ∙ came.1)

-- ---- what is told of a name

module _ (log : Log) (name : Name) (origin : Option shown.Origin) where
  abbrev told_line : Option Text → told.Told verdict.Verdict → List ℕ
  told_line text told = told_text (environment_of rules (library_of log)) name (shown_place origin (text_or_none text)) told

  verdict_told : (text : Option Text) (answer : verdict.Verdict) (version : ℕ) → text ≡ text_of (library_of log) name → verdict_of (library_of log) name ≡ Some (read_verdict answer)
      → version ≡ version_of log → told_line text (Verdict answer version) ≡ verdict_from log name origin text
  verdict_told None answer version e h v = absurd (true≢false (sym (ap is_some h) ∙ verdict_exactly (library_of log) name ∙ ap is_some (sym e)))
  verdict_told (Some own) answer version e h v =
      ap (λ (z : ℕ). judged_line (environment_of rules (library_of log)) name z (shown_place origin own) (judged_by (read_verdict answer))) v
      ∙ ap (λ z. judged_line (environment_of rules (library_of log)) name (version_of log) (shown_place origin own) (judged_if z)) (sym h)

  absent_told : (text : Option Text) (version : ℕ) → is_some text ≡ false → version ≡ version_of log → told_line text (Absent version) ≡ verdict_from log name origin text
  absent_told (Some own) version p v = absurd (true≢false p)
  absent_told None version p v = ap (absent_line name) v

  -- What is told is the verdict line.
  pub told_shown : (text : Option Text) (told : told.Told verdict.Verdict) → text ≡ text_of (library_of log) name → IsToldOf log name told → told_line text told ≡ verdict_from log name origin text
  told_shown text (Verdict answer version) e t = verdict_told text answer version e t.0 t.1
  told_shown text (Pending version) e t = absurd t
  told_shown text (Absent version) e t = absent_told text version (ap is_some e ∙ t.0) t.1

-- ---- whether a module is accepted

verdict_accepted : (log : Log) (name : Name) (answer : verdict.Verdict) → verdict_of (library_of log) name ≡ Some (read_verdict answer)
    → is_refused (rules.judged (library_of log) name) ≡ is_refused (judged_by (read_verdict answer))
verdict_accepted log name answer h = ap (λ (v : Option verdicts.Verdict). is_refused (judged_if v)) h

pub accepted_told : (log : Log) (name : Name) (interface : Interface) (version : ℕ) → IsToldOf log name (Verdict (Accepted interface) version)
    → true ≡ not (is_refused (rules.judged (library_of log) name))
accepted_told log name interface version t = by interface (verdict_accepted log name (Accepted interface) t.0)
  where
    by : (i : Interface) → is_refused (rules.judged (library_of log) name) ≡ is_refused (judged_by (read_verdict (Accepted i))) → true ≡ not (is_refused (rules.judged (library_of log) name))
    by (Theory face size) e = ap not (sym e)
    by (View face) e = ap not (sym e)

pub not_accepted : (log : Log) (name : Name) (told : told.Told verdict.Verdict) → unaccepted told ≡ true → IsToldOf log name told → false ≡ not (is_refused (rules.judged (library_of log) name))
not_accepted log name (Verdict (Accepted interface) version) u t = absurd (true≢false (sym u))
not_accepted log name (Verdict (Refused refusal) version) u t = ap not (sym (verdict_accepted log name (Refused refusal) t.0))
not_accepted log name (Pending version) u t = absurd t
not_accepted log name (Absent version) u t = by (verdict_of (library_of log) name) (verdict_exactly (library_of log) name ∙ t.0)
  where
    by : (v : Option verdicts.Verdict) → is_some v ≡ false → false ≡ not (is_refused (judged_if v))
    by None e = refl
    by (Some verdict) e = absurd (true≢false e)
