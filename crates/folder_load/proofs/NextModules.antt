-- The modules of a file, with one more behind them.
use Rattle.std.proofs.Common.{◌≡◌, ◌+◌, Bool, true, false, cond, [], ◌∷◌, ◌++◌, length, map, ◌||◌, Option, Some, None, is_some, refl, sym, ap, ◌∙◌, subst, arith, append_assoc}
use Rattle.std.proofs.Math.Bool.{or-false}
use Rattle.std.proofs.lemmas.List.{append-nil}
use Rattle.name_meaning.specs.Names.{Name, Text, same_name}
use Rattle.name_meaning.specs.Rows.{row_of, with_row}
use Rattle.name_laws.proofs.Rows.{row_with}
use Rattle.edit_log_meaning.specs.Log.{Edit, Put, library_of, is_present}
use Rattle.edit_log_meaning.specs.Append.{appended, appended_all, total_size}
use Rattle.edit_log_laws.proofs.Libraries.{fold_last}
use Rattle.edit_log_laws.proofs.Limits.{total_last}
use Rattle.edit_log.specs.Readings.{read_edit}
use Rattle.folder_load.specs.Ahead.{word_of, edits_of, ahead, IsFresh, IsTallied, Follows}
use Rattle.folder_load.specs.declared.following.Following.{Following}
use Rattle.folder_load.specs.declared.following.Modules.{Modules}
use Rattle.folder_load.proofs.FreshLogs.{IsPassed, passed, appended_is, fresh_after, present_after}

pub none_ahead : (modules : Modules) (following : Following) → following.edits.items ≡ [] → ahead modules following ≡ modules.log
none_ahead modules following edits = ap (λ items. modules.log ++ map read_edit items) edits ∙ append-nil modules.log

pub more_ahead : (modules : Modules) (old new : Following) (edit : Edit) → edits_of new ≡ edits_of old ++ edit ∷ [] → ahead modules new ≡ ahead modules old ++ edit ∷ []
more_ahead modules old new edit edits = ap (λ l. modules.log ++ l) edits ∙ sym (append_assoc modules.log (edits_of old) (edit ∷ []))

-- no modules of the file yet
pub none_follow : (modules : Modules) (following : Following) → IsTallied modules → following.edits.items ≡ [] → following.names ≡ [] → following.size ≡ 0 → Follows modules following
unfolding appended_all row_of
none_follow modules following tallied edits names size =
    let none : edits_of following ≡ [] = ap (map read_edit) edits in
    let same = none_ahead modules following edits in
    record {
      whole = ap (appended_all modules.log) none ∙ sym same;
      fresh = subst IsFresh (sym same) tallied.fresh;
      size = (let n : modules.size + following.size ≡ modules.size = omega (arith, size) in n) ∙ tallied.size ∙ sym (ap total_size same);
      names = λ name. ap (λ l. is_present (library_of l) name) same ∙ sym (or-false (is_present (library_of modules.log) name)) ∙ ap (λ rows. is_present (library_of modules.log) name || is_some (row_of rows name)) (sym names);
    }

module _ (modules : Modules) (old new : Following) (name : Name) (text : Text) (follows : Follows modules old) (passes : word_of (ahead modules old) name text ≡ None)
    (edits : edits_of new ≡ edits_of old ++ Put name text ∷ []) where
  p : IsPassed (ahead modules old) name text
  p = passed (ahead modules old) name text passes

  ahead_after : ahead modules new ≡ ahead modules old ++ Put name text ∷ []
  ahead_after = more_ahead modules old new (Put name text) edits

  whole_after : appended_all modules.log (edits_of new) ≡ ahead modules new
  unfolding appended_all p ahead_after
  whole_after =
      ap (appended_all modules.log) edits ∙ fold_last appended modules.log (edits_of old) (Put name text)
      ∙ ap (λ log. appended log (Put name text)) follows.whole ∙ appended_is (ahead modules old) name text p ∙ sym ahead_after

  pub follows_after : new.names ≡ with_row name tt old.names → new.size ≡ old.size + length text → Follows modules new
  unfolding p ahead_after
  follows_after names size = record {
    whole = whole_after;
    fresh = subst IsFresh (sym ahead_after) (fresh_after (ahead modules old) name text follows.fresh p);
    size =
        (let n : modules.size + new.size ≡ modules.size + old.size + length text = omega (arith, size) in n)
        ∙ ap (λ n. n + length text) follows.size ∙ sym (total_last (ahead modules old) (Put name text)) ∙ sym (ap total_size ahead_after);
    names = λ other.
        ap (λ l. is_present (library_of l) other) ahead_after ∙ present_after (ahead modules old) name text other
        ∙ ap (λ b. same_name other name || b) (follows.names other)
        ∙ by (same_name other name) (is_present (library_of modules.log) other) (row_of old.names other)
        ∙ ap (λ o. is_present (library_of modules.log) other || is_some o) (sym (row_with name tt old.names other))
        ∙ ap (λ rows. is_present (library_of modules.log) other || is_some (row_of rows other)) (sym names);
  }
    where
      by : (same there : Bool) (row : Option (Unit {0})) → (same || (there || is_some row)) ≡ (there || is_some (cond same (Some tt) row))
      by true true row = refl
      by true false row = refl
      by false there row = refl
