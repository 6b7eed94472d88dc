-- The verdict on an ungrounded module.
use Rattle.std.proofs.Common.{◌≡◌, ℕ, zero, suc, Bool, true, Some, List, refl, sym, ap, ◌∙◌, subst, length}
use Rattle.std.specs.List.{list_any}
use Rattle.name_meaning.specs.Names.{Name, Text, is_among, is_ascending}
use Rattle.name_laws.proofs.Order.{ascending_filtered}
use Rattle.edit_log_meaning.specs.Log.{Library, IsLibrary, names_of}
use Rattle.module_graph_meaning.specs.Walks.{Dependencies, ungrounded_names, walking, direct}
use Rattle.text_meaning.specs.Dependencies.{dependencies}
use Rattle.text_meaning.specs.Reading.{ModuleText}
use Rattle.text_meaning.specs.TextAnswers.{read}
use Rattle.library_meaning.specs.Faces.{IsAbsent}
use Rattle.verdict_meaning.specs.Verdicts as meaning
use Rattle.verdict_meaning.specs.Verdicts.{judge, judge_answer, verdict_by}
use Rattle.verdict_meaning.specs.Rounds.{modules, verdict_of, known_to}
use Rattle.verdict_laws.proofs.Verdicts.{verdict_is_judged, among_ungrounded, answer_anywhere}
use Rattle.module_graph.specs.Subjects.{IsCyclic}

walking_ascending : (dependencies : Dependencies) (library : Library) (n : ℕ) → IsLibrary library → is_ascending (walking dependencies library n) ≡ true
unfolding walking
walking_ascending dependencies library zero h = h
walking_ascending dependencies library (suc n) h = ascending_filtered (λ name. list_any (is_among (walking dependencies library n)) (direct dependencies library name)) (names_of library) h

-- The ungrounded names stand in byte order.
pub ungrounded_ascending : (dependencies : Dependencies) (library : Library) → IsLibrary library → is_ascending (ungrounded_names dependencies library) ≡ true
unfolding ungrounded_names
ungrounded_ascending dependencies library h = walking_ascending dependencies library (length library) h

module _ (name : Name) (text : Text) (bad : List Name) (library : Library) (given : IsCyclic modules name text bad library) where
  pub bad_ascending : is_ascending bad ≡ true
  bad_ascending = subst (λ names. is_ascending names ≡ true) given.others (ungrounded_ascending dependencies library given.is_library)

  pub among_bad : is_among bad name ≡ true
  among_bad = subst (λ names. is_among names name ≡ true) given.others (among_ungrounded library name given.ungrounded)

  -- The verdict that the answer on the text gives is that of the library.
  pub cyclic_given : (verdict : meaning.Verdict) → verdict ≡ verdict_by (judge_answer (λ other. IsAbsent) (is_among bad) name (read ModuleText text)) → verdict_of library name ≡ Some verdict
  unfolding judge
  cyclic_given verdict h =
      verdict_is_judged library name text given.has
      ∙ ap (λ names. Some (verdict_by (judge_answer (known_to library name) (is_among names) name (read ModuleText text)))) given.others
      ∙ ap (λ answer. Some (verdict_by answer)) (answer_anywhere (known_to library name) (λ other. IsAbsent) (is_among bad) name (read ModuleText text) among_bad)
      ∙ ap Some (sym h)
