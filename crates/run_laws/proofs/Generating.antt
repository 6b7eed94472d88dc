-- What the generator tells.
use Rattle.std.proofs.Common.{◌≡◌, ℕ, Bool, true, false, cond, List, [], ◌∷◌, ◌++◌, filter, filter_map, refl, sym, ap, ◌∙◌, append_assoc}
use Rattle.std.specs.Prelude.{Some, None, map}
use Rattle.std.specs.List.{cons_option}
use Rattle.name_meaning.specs.Names.{Name}
use Rattle.edit_log_meaning.specs.Log.{Edit, Log, names_of, library_of, version_of}
use Rattle.edit_log_meaning.specs.Append.{appended, appended_all}
use Rattle.module_graph_meaning.specs.Walks.{is_grounded}
use Rattle.run_meaning.specs.Judging.{Judging}
use Rattle.run_meaning.specs.Parts.{Telling, telling_of, told_of_all}
use Rattle.run_meaning.specs.Generator.{first_puts, later_puts, told_after_each, generator_told}
use Rattle.run_laws.specs.RunLaws.{IsToldAfter}

all_told : (judging : Judging) (log : Log) (names : List Name)
    → filter_map (telling_of judging.dependencies log) names
    ≡ map (λ (name : Name). record { name = name; version = version_of log }) (filter (is_grounded judging.dependencies (library_of log)) names)
all_told judging log [] = refl
all_told judging log (name ∷ names) = by (is_grounded judging.dependencies (library_of log) name) _ _ (all_told judging log names)
  where
    by : (b : Bool) (tellings : List Telling) (others : List Name) → tellings ≡ map (λ (other : Name). record { name = other; version = version_of log }) others
        → cons_option (cond b (Some (record { name = name; version = version_of log })) None) tellings
        ≡ map (λ (other : Name). record { name = other; version = version_of log }) (cond b (name ∷ others) others)
    by true tellings others e = ap (λ (ts : List Telling). record { name = name; version = version_of log } ∷ ts) e
    by false tellings others e = e

told_after : (judging : Judging) (log : Log) (before after : List Edit)
    → (front : List Telling) × (behind : List Telling)
    × (told_of_all judging.dependencies log ++ told_after_each judging.dependencies log (before ++ after) ≡ front ++ told_of_all judging.dependencies (appended_all log before) ++ behind)
unfolding told_after_each appended_all
told_after judging log [] after = ([], told_after_each judging.dependencies log after, refl)
told_after judging log (edit ∷ before) after =
    let q = told_after judging (appended log edit) before after in
    let own : List Telling = told_of_all judging.dependencies log in (
      own ++ q.0,
      q.1,
      ap (λ (ts : List Telling). own ++ ts) q.2
          ∙ sym (append_assoc own (q.0 ++ told_of_all judging.dependencies (appended_all (appended log edit) before)) q.1)
          ∙ ap (λ (ts : List Telling). ts ++ q.1) (sym (append_assoc own q.0 (told_of_all judging.dependencies (appended_all (appended log edit) before)))),
    )

pub generators_tell_all : (judging : Judging) (start modules edits : ℕ) (before after : List Edit) → later_puts start modules edits ≡ before ++ after → IsToldAfter judging start modules edits before
unfolding generator_told
generators_tell_all judging start modules edits before after e =
    let full : Log = appended_all [] (first_puts start modules) in
    let q = told_after judging full before after in
    record {
      front = q.0;
      behind = q.1;
      told = ap (λ (es : List Edit). told_of_all judging.dependencies full ++ told_after_each judging.dependencies full es) e ∙ q.2
          ∙ ap (λ (ts : List Telling). q.0 ++ ts ++ q.1) (all_told judging (appended_all full before) (names_of (library_of (appended_all full before))));
    }
