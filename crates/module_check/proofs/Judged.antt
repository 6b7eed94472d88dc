-- From the tests of a text to the verdict on it.
use Rattle.std.proofs.Common.{◌≡◌, Bool, false, Some, Err, refl, sym, ap, ◌∙◌}
use Rattle.std.specs.Prelude.{Option}
use Rattle.name_meaning.specs.Names.{Name, Text, is_among}
use Rattle.name_meaning.specs.Rows.{Rows}
use Rattle.edit_log_meaning.specs.Log.{Library}
use Rattle.module_graph_meaning.specs.Walks.{ungrounded_names}
use Rattle.text_meaning.specs.Dependencies.{dependencies}
use Rattle.text_meaning.specs.Reading.{Answer, ModuleText, ModuleTree, JudgementTree, Read, Syntax, TooDeep, Unsupported}
use Rattle.text_meaning.specs.TextAnswers.{read}
use Rattle.library_meaning.specs.Faces.{Environment}
use Rattle.verdict_meaning.specs.Verdicts as meaning
use Rattle.verdict_meaning.specs.Verdicts.{judge, judge_answer, judge_tree, verdict_by}
use Rattle.verdict_meaning.specs.Rounds.{modules, verdict_of}
use Rattle.verdict_laws.proofs.Verdicts.{verdict_is_judged, not_ungrounded}
use Rattle.module_graph.specs.Subjects.{IsGiven, read_answers}
use Rattle.mmt_interface.specs.Readings.{read_verdict, environment_of}
use Rattle.mmt_interface.specs.declared.verdict.Verdict.{Verdict}
use Rattle.link_setting.specs.Answers.{IsFirstRefusal}
use Rattle.link_setting.specs.declared.fault.LinkFault.{LinkFault}
use Rattle.link_setting.specs.declared.fault.LinkFault.TheVariants.{Broken, Memory}
use Rattle.twelf_expressions.specs.Going.{Fails}
use Rattle.twelf_expressions.specs.declared.fault.ReadFault.{ReadFault}
use Rattle.twelf_expressions.specs.declared.fault.ReadFault.TheVariants as faults
use Rattle.module_check.specs.PresentRows.{present_rows}
use Rattle.module_check.specs.Unread.{IsUnread}
use Rattle.module_check.proofs.AnsweredFaces.{known}

-- A text that does not read is refused where reading stops.
pub unread_refused : (environment : Environment) (ungrounded : Name → Bool) (name : Name) (fault : ReadFault) (refusal : LinkFault) (answer : Answer) → Fails fault answer → IsUnread name fault refusal
    → IsFirstRefusal refusal (judge_answer environment ungrounded name answer)
unread_refused environment ungrounded name (faults.Syntax at) (Broken r) answer h u = ap (judge_answer environment ungrounded name) h ∙ ap Err (sym u)
unread_refused environment ungrounded name (faults.Syntax at) Memory answer h u = tt
unread_refused environment ungrounded name (faults.TooDeep at) (Broken r) answer h u = ap (judge_answer environment ungrounded name) h ∙ ap Err (sym u)
unread_refused environment ungrounded name (faults.TooDeep at) Memory answer h u = tt
unread_refused environment ungrounded name (faults.Unsupported at) (Broken r) answer h u = ap (judge_answer environment ungrounded name) h ∙ ap Err (sym u)
unread_refused environment ungrounded name (faults.Unsupported at) Memory answer h u = tt
unread_refused environment ungrounded name faults.Memory (Broken r) answer h u = absurd (cc)
unread_refused environment ungrounded name faults.Memory Memory answer h u = tt

-- Of a grounded module it does not matter which others are ungrounded.
pub grounded_alike : (environment : Environment) (ungrounded : Name → Bool) (name : Name) (answer : Answer) → ungrounded name ≡ false
    → judge_answer environment (λ other. false) name answer ≡ judge_answer environment ungrounded name answer
grounded_alike environment ungrounded name (Read (ModuleTree tree)) h = ap (judge_tree environment ungrounded name tree) (sym h)
grounded_alike environment ungrounded name (Read (JudgementTree tree)) h = refl
grounded_alike environment ungrounded name (Syntax at) h = refl
grounded_alike environment ungrounded name (TooDeep at) h = refl
grounded_alike environment ungrounded name (Unsupported at) h = refl

-- The verdict on the text of a grounded module.
pub judged_text : (environment : Environment) (ungrounded : Name → Bool) (name : Name) (text : Text) (verdict : meaning.Verdict) → ungrounded name ≡ false
    → verdict ≡ verdict_by (judge_answer environment (λ other. false) name (read ModuleText text)) → verdict ≡ judge environment ungrounded name text
unfolding judge
judged_text environment ungrounded name text verdict h e = e ∙ ap verdict_by (grounded_alike environment ungrounded name (read ModuleText text) h)

-- The verdict over a job's answers is that of every library that gives them.
pub judged_given : (name : Name) (text : Text) (rows : Rows (Option Verdict)) (verdict : meaning.Verdict)
    → ((ungrounded : Name → Bool) → ungrounded name ≡ false → verdict ≡ judge (environment_of (present_rows rows)) ungrounded name text)
    → (library : Library) → IsGiven modules name text (read_answers read_verdict rows) library → verdict_of library name ≡ Some verdict
judged_given name text rows verdict h library given =
    let ungrounded : Name → Bool = is_among (ungrounded_names dependencies library) in
    verdict_is_judged library name text given.has
    ∙ ap Some (sym (h ungrounded (not_ungrounded library name given.grounded) ∙ ap (λ (z : Environment). judge z ungrounded name text) (known library name text rows given)))
