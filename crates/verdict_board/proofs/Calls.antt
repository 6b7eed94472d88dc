-- The entry of a call at the end of a history.
use Rattle.std.proofs.Common.{◌≡◌, ℕ, suc, Bool, true, false, cond, [], ◌∷◌, ◌++◌, Option, Some, None, option_map, option_to_list, refl, sym, ap, ◌∙◌, subst, append-nil}
use Rattle.module_graph_meaning.specs.Walks.{Dependencies}
use Rattle.board_meaning.specs.Events.{Event, EditMade, Claim, Install, Stale, Release, Close, History, edit_of, version_after, version_with, entry_of}
use Rattle.board_meaning.specs.Machine.{IsInstalled, IsStale, Call, EditCall, ClaimCall, InstallCall, ReleaseCall, CloseCall, edit_event, edit_reply, install_event, install_reply, event_of, may_call, after_call}
use Rattle.board_meaning.specs.Ready.{is_closed, least_ready}
use Rattle.edit_log_meaning.specs.Log.{Edit}
use Rattle.edit_log_meaning.specs.Append.{Made}
use Rattle.name_meaning.specs.Names.{Name}
use Rattle.board_meaning.specs.Legal.{IsLegal}
use Rattle.board_laws.proofs.Legality.{legal_call}
use Rattle.verdict_board.specs.Entries.{entry}

module _ (dependencies : Dependencies) (H : History) (pass : ℕ) (call : Call) where
  pub called : (event : Event) (version : ℕ) → event_of dependencies H call ≡ Some event → version ≡ version_with (version_after H) (edit_of event)
      → after_call dependencies H pass call ≡ H ++ entry pass version event ∷ []
  unfolding after_call
  called event version h v =
      ap (λ (o : Option Event). H ++ option_to_list (option_map (entry_of H pass) o)) h ∙ ap (λ (n : ℕ). H ++ entry pass n event ∷ []) (sym v)

  pub not_called : event_of dependencies H call ≡ None → after_call dependencies H pass call ≡ H
  unfolding after_call
  not_called h = ap (λ (o : Option Event). H ++ option_to_list (option_map (entry_of H pass) o)) h ∙ append-nil H

  pub legal_with : (event : Event) (version : ℕ) → event_of dependencies H call ≡ Some event → version ≡ version_with (version_after H) (edit_of event)
      → IsLegal dependencies H → may_call H pass call ≡ true → IsLegal dependencies (H ++ entry pass version event ∷ [])
  legal_with event version h v l m = subst (IsLegal dependencies) (called event version h v) (legal_call dependencies H pass call l m)

-- ---- the history after each call

module _ (dependencies : Dependencies) (H : History) (pass : ℕ) where
  pub closed_again : is_closed H ≡ true → after_call dependencies H pass CloseCall ≡ H
  unfolding event_of
  closed_again h = not_called dependencies H pass CloseCall (ap (λ (b : Bool). cond b None (Some Close)) h)

  pub none_claimed : least_ready dependencies H ≡ None → after_call dependencies H pass ClaimCall ≡ H
  unfolding event_of
  none_claimed h = not_called dependencies H pass ClaimCall (ap (option_map Claim) h)

  module _ (version : ℕ) where
    pub close_after : is_closed H ≡ false → version ≡ version_after H → after_call dependencies H pass CloseCall ≡ H ++ entry pass version Close ∷ []
    unfolding event_of
    close_after h v = called dependencies H pass CloseCall Close version (ap (λ (b : Bool). cond b None (Some Close)) h) v

    pub claim_after : (n : Name) → least_ready dependencies H ≡ Some n → version ≡ version_after H → after_call dependencies H pass ClaimCall ≡ H ++ entry pass version (Claim n) ∷ []
    unfolding event_of
    claim_after n h v = called dependencies H pass ClaimCall (Claim n) version (ap (option_map Claim) h) v

    pub install_after : (c : ℕ) → install_reply dependencies H c ≡ IsInstalled → version ≡ version_after H → after_call dependencies H pass (InstallCall c) ≡ H ++ entry pass version (Install c) ∷ []
    unfolding event_of
    install_after c h v = called dependencies H pass (InstallCall c) (Install c) version (ap (λ z. Some (install_event c z)) h) v

    pub stale_after : (c : ℕ) (n : Name) (newer : ℕ) → install_reply dependencies H c ≡ IsStale n newer → version ≡ version_after H
        → after_call dependencies H pass (InstallCall c) ≡ H ++ entry pass version (Stale c n newer) ∷ []
    unfolding event_of
    stale_after c n newer h v = called dependencies H pass (InstallCall c) (Stale c n newer) version (ap (λ z. Some (install_event c z)) h) v

    pub release_after : (c : ℕ) → version ≡ version_after H → after_call dependencies H pass (ReleaseCall c) ≡ H ++ entry pass version (Release c) ∷ []
    unfolding event_of
    release_after c v = called dependencies H pass (ReleaseCall c) (Release c) version refl v

    pub edit_after : (edit : Edit) (made : ℕ) → edit_reply H edit ≡ Made made → version ≡ suc (version_after H) → after_call dependencies H pass (EditCall edit) ≡ H ++ entry pass version (EditMade edit) ∷ []
    unfolding event_of
    edit_after edit made h v = called dependencies H pass (EditCall edit) (EditMade edit) version (ap (edit_event edit) h) v
