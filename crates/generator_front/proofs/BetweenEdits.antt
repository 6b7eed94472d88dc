-- Every grounded name stands before each edit, where the history goes on with one edit at most and then every grounded name stands.
use Rattle.std.proofs.Common.{◌≡◌, ◌≤◌, suc, true, [], ◌∷◌, ◌++◌, length, filter_map, Option, Some, None, is_some, refl, sym, ap, subst, arith, append_assoc}
use Rattle.std.specs.List.{cons_option}
use Rattle.edit_log_meaning.specs.Log.{Edit, Log, library_of}
use Rattle.module_graph_meaning.specs.Walks.{Dependencies, is_grounded}
use Rattle.board_meaning.specs.Events.{Entry, History, edit_in, log_of}
use Rattle.board_meaning.specs.Standing.{is_edit_of}
use Rattle.board_meaning.specs.Legal.{IsLegal}
use Rattle.board_laws.proofs.Histories.{log_none}
use Rattle.board_laws.proofs.Legality.{legal_front}
use Rattle.board_laws.proofs.Following.{stands_on}
use Rattle.install_laws.specs.InstallLaws.{AllStand, StandBetween}
use Rattle.install_laws.proofs.Installs.{unedited_between}

module _ (dependencies : Dependencies) where
  -- an entry that is no edit
  still_stand : (history : History) (entry : Entry) → IsLegal dependencies (history ++ entry ∷ []) → edit_in entry ≡ None → AllStand dependencies history
      → AllStand dependencies (history ++ entry ∷ [])
  still_stand history entry legal none all name grounded =
      stands_on dependencies history (legal_front dependencies history (entry ∷ []) legal) entry name
      (all name (subst (λ (log : Log). is_grounded dependencies (library_of log) name ≡ true) (log_none history entry none) grounded))
      (λ other m. ap (is_edit_of other) none)

  pub stand_between : (later history : History) → IsLegal dependencies (history ++ later) → length (log_of later) ≤ 1 → AllStand dependencies history
      → AllStand dependencies (history ++ later) → StandBetween dependencies history later
  unfolding StandBetween log_of
  stand_between [] history legal short all end = all
  stand_between (entry ∷ later) history legal short all end =
      by (edit_in entry) refl short (λ next shorter still. stand_between later (history ++ entry ∷ []) next shorter still stand_at_end)
    where
      apart : (history ++ entry ∷ []) ++ later ≡ history ++ entry ∷ later
      apart = append_assoc history (entry ∷ []) later

      legal_on : IsLegal dependencies ((history ++ entry ∷ []) ++ later)
      legal_on = subst (IsLegal dependencies) (sym apart) legal

      stand_at_end : AllStand dependencies ((history ++ entry ∷ []) ++ later)
      stand_at_end = subst (AllStand dependencies) (sym apart) end

      no_more : (log : Log) → suc (length log) ≤ 1 → log ≡ []
      no_more [] less = refl
      no_more (edit ∷ log) less = absurd (omega (arith, less))

      by : (o : Option Edit) → edit_in entry ≡ o → length (cons_option o (filter_map edit_in later)) ≤ 1
          → (IsLegal dependencies ((history ++ entry ∷ []) ++ later) → length (filter_map edit_in later) ≤ 1 → AllStand dependencies (history ++ entry ∷ []) → StandBetween dependencies (history ++ entry ∷ []) later)
          → (is_some (edit_in entry) ≡ true → AllStand dependencies history) × StandBetween dependencies (history ++ entry ∷ []) later
      by None none less go_on = (
        λ some. all,
        go_on legal_on less (still_stand history entry (legal_front dependencies (history ++ entry ∷ []) later legal_on) none all),
      )
      by (Some edit) is less go_on = (
        λ some. all,
        unedited_between dependencies later (history ++ entry ∷ []) (no_more (filter_map edit_in later) less) stand_at_end,
      )
