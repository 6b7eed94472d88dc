-- How many verdicts are installed.
use Rattle.std.proofs.Common.{◌≡◌, ℕ, suc, ◌+◌, Bool, true, false, List, [], ◌∷◌, ◌++◌, length, filter, filter_map, cond, Option, Some, None, is_some, option_to_list, refl, sym, ap, ◌∙◌, subst, true≢false, arith, append_assoc, append-nil}
use Rattle.std.specs.List.{cons_option, list_any}
use Rattle.name_meaning.specs.Names.{Name}
use Rattle.edit_log_meaning.specs.Log.{Edit, edited_name, Log, names_of, library_of}
use Rattle.edit_log_meaning.specs.Append.{Edited, Made, append_answer, log_after, appended}
use Rattle.module_graph_meaning.specs.Walks.{Dependencies}
use Rattle.list_laws.proofs.Places.{get_last, take_front, take_length}
use Rattle.board_meaning.specs.Events.{Event, EditMade, Claim, Install, Stale, Release, Close, Entry, History, edit_of, edit_in, log_of, library_after, version_after}
use Rattle.board_meaning.specs.Standing.{installed_claim, installed_claims, supports, stands, standing_count, installs}
use Rattle.board_meaning.specs.Legal.{IsLegal}
use Rattle.board_laws.proofs.Histories.{log_none, log_some, log_append}
use Rattle.board_laws.proofs.Legality.{legal_front, legal_last}
use Rattle.board_laws.proofs.Standings.{installed_is}
use Rattle.board_laws.proofs.Following.{installs_last}
use Rattle.board_laws.proofs.Told.{edits_were_made}
use Rattle.board_laws.proofs.Counting.{install_raises_count, others_keep_count}
use Rattle.run_meaning.specs.Generator.{grounded_names, reaching_count, asked_by, asked_after}
use Rattle.install_laws.specs.InstallLaws.{AllStand, StandBetween}
use Rattle.install_laws.proofs.Edits.{all_counted, edit_takes}

pub edit_made : (e : Event) (edit : Edit) → edit_of e ≡ Some edit → e ≡ EditMade edit
edit_made (EditMade other) edit h = let q : other ≡ edit = cc in ap EditMade q
edit_made (Claim n) edit h = absurd (cc)
edit_made (Install c) edit h = absurd (cc)
edit_made (Stale c n k) edit h = absurd (cc)
edit_made (Release c) edit h = absurd (cc)
edit_made Close edit h = absurd (cc)

log_front : (e : Entry) (K : History) → log_of (e ∷ K) ≡ cons_option (edit_in e) (log_of K)
unfolding log_of
log_front e K = refl

asked_made : (dependencies : Dependencies) (log : Log) (edit : Edit) (v : ℕ) (edits : List Edit) → append_answer log edit ≡ Made v
    → asked_after dependencies log (edit ∷ edits) ≡ reaching_count dependencies (library_of (log ++ edit ∷ [])) (edited_name edit) + asked_after dependencies (log ++ edit ∷ []) edits
unfolding asked_after appended
asked_made dependencies log edit v edits h =
    ap (λ (a : Edited). asked_by dependencies log edit a + asked_after dependencies (log_after log edit a) edits) h
    ∙ ap (λ (z : Log). reaching_count dependencies (library_of z) (edited_name edit) + asked_after dependencies (log ++ edit ∷ []) edits) (ap (log_after log edit) h)

nothing : (dependencies : Dependencies) (log : Log) → asked_after dependencies log [] ≡ 0
unfolding asked_after
nothing dependencies log = refl

stands_by_none : (dependencies : Dependencies) (H : History) (n : Name) → installed_claims H ≡ [] → stands dependencies H n ≡ false
unfolding stands
stands_by_none dependencies H n e = ap (list_any (supports dependencies H n)) e

none_asked : (dependencies : Dependencies) (log : Log) → asked_after dependencies log (log_of []) ≡ 0
unfolding asked_after log_of
none_asked dependencies log = refl

module _ (dependencies : Dependencies) where
  abbrev pub grounded_count : History → ℕ
  grounded_count H = length (grounded_names dependencies (library_after H))

  abbrev pub Counts : History → History → Type 0
  Counts H later = installs (H ++ later) + standing_count dependencies H ≡ installs H + (grounded_count H + asked_after dependencies (log_of H) (log_of later))

  module _ (H : History) (e : Entry) (K : History) (l : IsLegal dependencies (H ++ e ∷ [])) (rest : Counts (H ++ e ∷ []) K) where
    before : IsLegal dependencies H
    before = legal_front dependencies H (e ∷ []) l

    all_installs : installs (H ++ e ∷ K) ≡ installs ((H ++ e ∷ []) ++ K)
    all_installs = ap installs (sym (append_assoc H (e ∷ []) K))

    -- an entry that is no edit leaves the log
    with_log : edit_in e ≡ None → standing_count dependencies (H ++ e ∷ []) + installs H ≡ standing_count dependencies H + installs (H ++ e ∷ []) → Counts H (e ∷ K)
    with_log g s =
        let a : grounded_count (H ++ e ∷ []) ≡ grounded_count H = ap (λ z. length (grounded_names dependencies (library_of z))) (log_none H e g) in
        let b : asked_after dependencies (log_of (H ++ e ∷ [])) (log_of K) ≡ asked_after dependencies (log_of H) (log_of (e ∷ K)) =
        ap (λ z. asked_after dependencies z (log_of K)) (log_none H e g) ∙ ap (asked_after dependencies (log_of H)) (sym (log_front e K ∙ ap (λ (o : Option Edit). cons_option o (log_of K)) g)) in
        let c = all_installs in
        omega (arith, rest, a, b, c, s)

    other : edit_in e ≡ None → (o : Option ℕ) → installed_claim e.event ≡ o → Counts H (e ∷ K)
    other g None i =
        let a = others_keep_count dependencies H e before g i in
        let b = installs_last H e ∙ ap (λ (o : Option ℕ). installs H + length (option_to_list o)) i in
        with_log g (omega (arith, a, b))
    other g (Some c) i =
        let a = install_raises_count dependencies H e c before (legal_last dependencies H e l) (installed_is e.event c i) in
        let b = installs_last H e ∙ ap (λ (o : Option ℕ). installs H + length (option_to_list o)) i in
        with_log g (omega (arith, a, b))

    was_made : (edit : Edit) → edit_in e ≡ Some edit → append_answer (log_of H) edit ≡ Made (suc (version_after H))
    was_made edit g =
        subst (λ (z : History). append_answer (log_of z) edit ≡ Made (suc (version_after z))) (take_front H (e ∷ []) (length H) (omega arith) ∙ take_length H)
        (edits_were_made dependencies (H ++ e ∷ []) (length H) e edit l (get_last H e) g).0

    edited : (edit : Edit) → edit_in e ≡ Some edit → AllStand dependencies H → Counts H (e ∷ K)
    edited edit g all =
        let ev = edit_made e.event edit g in
        let a = all_counted dependencies H before all in
        let b = edit_takes dependencies H e edit before all ev in
        let c = installs_last H e ∙ ap (λ (x : Event). installs H + length (option_to_list (installed_claim x))) ev in
        let d : asked_after dependencies (log_of H) (log_of (e ∷ K)) ≡ reaching_count dependencies (library_after (H ++ e ∷ [])) (edited_name edit) + asked_after dependencies (log_of (H ++ e ∷ [])) (log_of K) =
        ap (asked_after dependencies (log_of H)) (log_front e K ∙ ap (λ (o : Option Edit). cons_option o (log_of K)) g)
        ∙ asked_made dependencies (log_of H) edit (suc (version_after H)) (log_of K) (was_made edit g)
        ∙ ap (λ z. reaching_count dependencies (library_of z) (edited_name edit) + asked_after dependencies z (log_of K)) (sym (log_some H e edit g)) in
        let f = all_installs in
        omega (arith, rest, a, b, c, d, f)

  counts : (later H : History) → IsLegal dependencies (H ++ later) → StandBetween dependencies H later → Counts H later
  unfolding StandBetween
  counts [] H l s =
      let a = all_counted dependencies H (subst (IsLegal dependencies) (append-nil H) l) s in
      let b = ap installs (append-nil H) in
      let c = nothing_asked in
      omega (arith, a, b, c)
    where
      nothing_asked : asked_after dependencies (log_of H) (log_of []) ≡ 0
      nothing_asked = none_asked dependencies (log_of H)
  counts (e ∷ K) H l s =
      let m : IsLegal dependencies ((H ++ e ∷ []) ++ K) = subst (IsLegal dependencies) (sym (append_assoc H (e ∷ []) K)) l in
      let legal = legal_front dependencies (H ++ e ∷ []) K m in
      by legal (counts K (H ++ e ∷ []) m s.1) (edit_in e) refl
    where
      by : IsLegal dependencies (H ++ e ∷ []) → Counts (H ++ e ∷ []) K → (o : Option Edit) → edit_in e ≡ o → Counts H (e ∷ K)
      by legal rest None g = other H e K legal rest g (installed_claim e.event) refl
      by legal rest (Some edit) g = edited H e K legal rest edit g (s.0 (ap is_some g))

  pub installs_are_asked : (H later : History) → IsLegal dependencies (H ++ later) → AllStand dependencies H → StandBetween dependencies H later
      → installs (H ++ later) ≡ installs H + asked_after dependencies (log_of H) (log_of later)
  installs_are_asked H later l all s =
      let a = all_counted dependencies H (legal_front dependencies H later l) all in
      let b = counts later H l s in
      omega (arith, a, b)

  -- ---- the first installs

  none_installed : (H : History) → installs H ≡ 0 → standing_count dependencies H ≡ 0
  none_installed H h = none_stand (installed_claims H) h refl
    where
      none_pass : (names : List Name) → ((n : Name) → stands dependencies H n ≡ false) → length (filter (stands dependencies H) names) ≡ 0
      none_pass [] f = refl
      none_pass (n ∷ names) f = ap (λ (b : Bool). length (cond b (n ∷ filter (stands dependencies H) names) (filter (stands dependencies H) names))) (f n) ∙ none_pass names f

      none_stand : (claims : List ℕ) → length claims ≡ 0 → installed_claims H ≡ claims → standing_count dependencies H ≡ 0
      none_stand [] h e = none_pass (names_of (library_after H)) (λ n. stands_by_none dependencies H n e)
      none_stand (c ∷ claims) h e = absurd (omega (arith, h))

  pub unedited_between : (later H : History) → log_of later ≡ [] → AllStand dependencies (H ++ later) → StandBetween dependencies H later
  unfolding StandBetween log_of
  unedited_between [] H g all = subst (AllStand dependencies) (append-nil H) all
  unedited_between (e ∷ K) H g all =
      by (edit_in e) refl g (λ k. unedited_between K (H ++ e ∷ []) k (subst (AllStand dependencies) (sym (append_assoc H (e ∷ []) K)) all))
    where
      by : (o : Option Edit) → edit_in e ≡ o → cons_option o (filter_map edit_in K) ≡ []
          → (filter_map edit_in K ≡ [] → StandBetween dependencies (H ++ e ∷ []) K)
          → (is_some (edit_in e) ≡ true → AllStand dependencies H) × StandBetween dependencies (H ++ e ∷ []) K
      by None h k f = (λ t. absurd (true≢false (sym t ∙ ap is_some h)), f k)
      by (Some edit) h k f = absurd (cc)

  pub first_installs : (H later : History) → IsLegal dependencies (H ++ later) → installs H ≡ 0 → log_of later ≡ [] → AllStand dependencies (H ++ later)
      → installs (H ++ later) ≡ length (grounded_names dependencies (library_after (H ++ later)))
  first_installs H later l none g all =
      let a = none_installed H none in
      let b = counts later H l (unedited_between later H g all) in
      let c : asked_after dependencies (log_of H) (log_of later) ≡ 0 = ap (asked_after dependencies (log_of H)) g ∙ none_asked_of (log_of H) in
      let d : grounded_count (H ++ later) ≡ grounded_count H = ap (λ z. length (grounded_names dependencies (library_of z))) (log_append H later ∙ ap (λ z. log_of H ++ z) g ∙ append-nil (log_of H)) in
      omega (arith, none, a, b, c, d)
    where
      none_asked_of : (log : Log) → asked_after dependencies log [] ≡ 0
      none_asked_of log = nothing dependencies log
