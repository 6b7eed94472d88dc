-- What the tables keep true, over each call that is no edit.
use Rattle.std.proofs.Common.{◌≡◌, ℕ, ◌+◌, ◌-◌, ◌<◌, ◌^◌, Bool, true, false, not, List, [], ◌∷◌, ◌++◌, length, take, nat_eq, slice_get, Option, Some, None, option_map, option_to_list, ◌||◌, ⊎_elim, refl, sym, ap, ◌∙◌, subst, true≢false, arith, length-append, eqb-true, eq-eqb, cond}
use Rattle.std.proofs.Math.Bool.{or-false}
use Rattle.std.proofs.lemmas.Bool.{and_parts, and_from, false_from_ne_true, or_right}
use Rattle.std.proofs.lemmas.Option.{same_Some}
use Rattle.name_meaning.specs.Names.{Name, same_name, is_among, is_ascending}
use Rattle.name_meaning.specs.Rows.{Rows, row_of, with_row}
use Rattle.name_laws.proofs.Order.{same_itself}
use Rattle.edit_log_meaning.specs.Log.{Log, Library, library_of, is_present}
use Rattle.module_graph_meaning.specs.Walks.{Dependencies, is_grounded, is_ungrounded, ungrounded_names, walking}
use Rattle.module_graph_meaning.specs.Reach.{reach}
use Rattle.module_graph_meaning.specs.Graphs.{Graph, HoldsDependencies}
use Rattle.module_graph_meaning.specs.Subject.{Subject}
use Rattle.module_graph_laws.proofs.Graphs.{empty_holds}
use Rattle.board_meaning.specs.Events.{Event, Claim, Install, Stale, Release, Close, Entry, History, edit_in, log_of, library_after, version_after}
use Rattle.board_meaning.specs.Claims.{claimed_name, claim_at, claims_from, ends_claim, is_open, open_claims, is_claim_of}
use Rattle.board_meaning.specs.Standing.{installed_claim, installed_claims, installs, is_unedited, stands}
use Rattle.board_meaning.specs.Ready.{is_close, is_closed, least_ready}
use Rattle.board_meaning.specs.Machine.{IsInstalled, IsStale, install_event, install_reply, ClaimCall, InstallCall, ReleaseCall, CloseCall, event_of, is_by, may_call}
use Rattle.board_laws.proofs.Histories.{log_none}
use Rattle.board_laws.proofs.Claiming.{some_is_name, is_name_some, installed_unedited, unedited_installed}
use Rattle.board_laws.proofs.Legality.{legal_empty, least_is_ready}
use Rattle.board_laws.proofs.Standings.{ready_parts, reach_now, grounded_now}
use Rattle.board_laws.proofs.Following.{installs_last, others_leave, install_makes}
use Rattle.verdict_board.specs.declared.stage.Stage.{Stage}
use Rattle.verdict_board.specs.declared.stage.Stage.TheVariants.{Waiting, Claimed, Standing}
use Rattle.verdict_board.specs.declared.candidates.Candidates.{Candidates}
use Rattle.verdict_board.specs.Stages.{IsCurrent}
use Rattle.verdict_board.specs.Searching.{AreKept, AreNew}
use Rattle.verdict_board.specs.Keeping.{IsKept, HasRoom}
use Rattle.verdict_board.proofs.Currents.{new_current, current_less, current_stands_not, one_current, claim_more}
use Rattle.verdict_board.proofs.Parking.{all_kept, put_claimed}
use Rattle.verdict_board.proofs.Reports.{staged_present}
use Rattle.verdict_board.proofs.Kept.{same_library, no_claim, stages_kept, stages_replaced}
use Rattle.verdict_board.proofs.Rooms.{closed_more, opened_more, opened_same, opened_less}
use Rattle.verdict_board.proofs.Calls.{legal_with}
use Rattle.verdict_board.specs.Entries.{entry}

pub present_of : (D : Dependencies) (L : Library) (n : Name) → is_grounded D L n ≡ true → is_present L n ≡ true
present_of D L n h = (and_parts (is_present L n) (not (is_ungrounded D L n)) h).0

module _ {Answer Meaning : Type 0} (subject : Subject Meaning) (meaning : Answer → Meaning) where
  pub kept_new : (candidates : Candidates) → AreNew 0 candidates → IsKept {Answer = Answer} subject meaning [] [] [] [] false 0 0 0 candidates false
  unfolding log_of library_of row_of is_closed installed_claims claims_from is_ascending is_ungrounded ungrounded_names walking is_among
  kept_new candidates new = record {
    legal = legal_empty subject.dependencies;
    logged = refl;
    holds = empty_holds subject.dependencies;
    staged = record { names = refl; staged = λ n stage at. absurd (cc) };
    closed_is = refl;
    opened_all = omega arith;
    counted = refl;
    installed_all = refl;
    room = omega arith;
    candidates_all = all_kept {Answer = Answer} [] [] (λ list. list.items) 0 candidates.candidate candidates.parked.items refl refl refl new;
    sound = λ r n. refl;
  }

  module _ (H : History) (log : Log) (graph : Graph) (stages : Rows (Stage Answer)) (closed : Bool) (opened entries installed : ℕ) {candidates : Candidates} {rings : Bool} (k : IsKept subject meaning H log graph stages closed opened entries installed candidates rings) (pass version : ℕ) (v : version ≡ version_after H) where
    abbrev D : Dependencies
    D = subject.dependencies

    more : (event : Event) → entries + 1 ≡ length (H ++ entry pass version event ∷ [])
    more event = let a = length-append H (entry pass version event ∷ []) in let b = k.counted in omega (arith, a, b)

    holds_on : (event : Event) → edit_in (entry pass version event) ≡ None → HoldsDependencies graph D (library_after (H ++ entry pass version event ∷ []))
    holds_on event g = subst (HoldsDependencies graph D) (sym (same_library H (entry pass version event) g)) k.holds

    logged_on : (event : Event) → edit_in (entry pass version event) ≡ None → log ≡ log_of (H ++ entry pass version event ∷ [])
    logged_on event g = k.logged ∙ sym (log_none H (entry pass version event) g)

    closed_on : (event : Event) → is_close event ≡ false → closed ≡ is_closed (H ++ entry pass version event ∷ [])
    closed_on event h = k.closed_is ∙ sym (closed_more H (entry pass version event) ∙ ap (λ b. is_closed H || b) h ∙ or-false (is_closed H))

    installed_on : (event : Event) → installed_claim event ≡ None → installed ≡ installs (H ++ entry pass version event ∷ [])
    installed_on event h =
        let a = installs_last H (entry pass version event) in
        let b = ap (λ (o : Option ℕ). length (option_to_list o)) h in
        let c = k.installed_all in
        omega (arith, a, b, c)

    sound_on : (event : Event) → edit_in (entry pass version event) ≡ None → rings ≡ false → (n : Name) → is_ungrounded D (library_after (H ++ entry pass version event ∷ [])) n ≡ false
    sound_on event g r n = ap (λ library. is_ungrounded D library n) (same_library H (entry pass version event) g) ∙ k.sound r n

    -- ---- close

    pub kept_close : closed ≡ false → pass ≡ 0 → IsKept subject meaning (H ++ entry pass version Close ∷ []) log graph stages true opened (entries + 1) installed candidates rings
    unfolding event_of may_call
    kept_close unclosed front = record {
      legal = legal_with D H pass CloseCall Close version (ap (λ (b : Bool). cond b None (Some Close)) (sym k.closed_is ∙ unclosed)) v k.legal (eq-eqb pass 0 front);
      logged = logged_on Close refl;
      holds = holds_on Close refl;
      staged = stages_kept subject meaning H k.legal (entry pass version Close) refl stages k.staged
          (λ n. others_leave D H k.legal (entry pass version Close) n refl refl) (λ n c. no_claim subject meaning H k.legal (entry pass version Close) refl refl n c) (λ n c m. refl);
      closed_is = sym (closed_more H (entry pass version Close) ∙ or_right (is_closed H) true refl);
      opened_all = let a = opened_same H (entry pass version Close) refl in let b = k.opened_all in omega (arith, a, b);
      counted = more Close;
      installed_all = installed_on Close refl;
      room = let room : HasRoom false opened entries = subst (λ (b : Bool). HasRoom b opened entries) unclosed k.room in omega (arith, room);
      candidates_all = k.candidates_all;
      sound = sound_on Close refl;
    }

    -- ---- claim

    pub kept_claim : (n : Name) (names : List Name) → least_ready D H ≡ Some n → names ≡ reach D (library_after H) n → entries < 2 ^ 62 → opened < 2 ^ 62
        → IsKept subject meaning (H ++ entry pass version (Claim n) ∷ []) log graph (with_row n (Claimed entries names) stages) closed (opened + 1) (entries + 1) installed candidates rings
    unfolding event_of may_call
    kept_claim n names least reached few less = record {
      legal = legal_with D H pass ClaimCall (Claim n) version (ap (option_map Claim) least) v k.legal refl;
      logged = logged_on (Claim n) refl;
      holds = holds_on (Claim n) refl;
      staged = stages_replaced subject meaning H k.legal (entry pass version (Claim n)) refl stages n (Claimed entries names) k.staged present
          (record {
            current = subst (λ (c : ℕ). IsCurrent D (H ++ entry pass version (Claim n) ∷ []) n c) (sym k.counted) (new_current D H k.legal (entry pass version (Claim n)) n refl);
            reached = reached ∙ ap (λ (z : Library). reach D z n) (sym (same_library H (entry pass version (Claim n)) refl));
          })
          (λ m q. others_leave D H k.legal (entry pass version (Claim n)) m refl refl)
          (λ m q c i. ⊎_elim (λ at. (current_less D H (entry pass version (Claim n)) m c i at).0)
          (λ r. let same : n ≡ m = same_Some _ _ r.1 in absurd (true≢false (sym (same_itself n) ∙ ap (λ (z : Name). same_name z n) same ∙ q)))
          (claim_more H (entry pass version (Claim n)) c m i.claimed))
          (λ m q c i. refl);
      closed_is = closed_on (Claim n) refl;
      opened_all = let a = opened_more H (entry pass version (Claim n)) in let b = k.opened_all in omega (arith, a, b);
      counted = more (Claim n);
      installed_all = installed_on (Claim n) refl;
      room = room_more closed;
      candidates_all = put_claimed stages graph (λ list. list.items) candidates.candidate candidates.parked.items k.candidates_all n (Claimed entries names) (staged_present subject meaning H k.legal stages k.staged n ∙ present) refl refl;
      sound = sound_on (Claim n) refl;
    }
      where
        present : is_present (library_after H) n ≡ true
        present = present_of D (library_after H) n (ready_parts D H n (least_is_ready D H n least)).grounded

        room_more : (b : Bool) → HasRoom b (opened + 1) (entries + 1)
        room_more true = omega (arith, few, less)
        room_more false = omega (arith, few, less)

    -- ---- the end of a claim

    module _ (n : Name) (c : ℕ) (at : claim_at H c ≡ Some n) (o : is_open H c ≡ true) (own : is_by pass (slice_get H c) ≡ true) where
      may_install : may_call H pass (InstallCall c) ≡ true
      unfolding may_call
      may_install = and_from (is_open H c) (is_by pass (slice_get H c)) o own

      may_release : may_call H pass (ReleaseCall c) ≡ true
      unfolding may_call
      may_release = and_from (is_open H c) (is_by pass (slice_get H c)) o own

      fewer : (event : Event) → claimed_name event ≡ None → ends_claim c event ≡ true → length (open_claims (H ++ entry pass version event ∷ [])) < opened
      fewer event h f = let a = opened_less H (entry pass version event) h c o f in let b = k.opened_all in omega (arith, a, b)

      pub some_opened : 0 < opened
      some_opened = let a = fewer (Release c) refl (eq-eqb c c refl) in omega (arith, a)

      room_less : (b : Bool) → HasRoom b opened entries → HasRoom b (opened - 1) (entries + 1)
      room_less true r = let s = some_opened in omega (arith, r, s)
      room_less false r = let s = some_opened in omega (arith, r, s)

      -- another name's claim is another
      other_claim : (m : Name) → same_name m n ≡ false → (d : ℕ) → IsCurrent D H m d → nat_eq d c ≡ false
      other_claim m q d i =
          false_from_ne_true (nat_eq d c)
          (λ e. let same : n ≡ m = same_Some _ _ (sym at ∙ ap (claim_at H) (sym (eqb-true d c e)) ∙ i.claimed) in
          true≢false (sym (same_itself n) ∙ ap (λ (z : Name). same_name z n) same ∙ q))

      pub kept_install : (names : List Name) (answer : Answer) (found : Candidates) → AreKept (with_row n (Standing answer names) stages) graph found → install_reply D H c ≡ IsInstalled → names ≡ reach D (library_after (take c H)) n
          → subject.answer (library_after H) n ≡ Some (meaning answer)
          → IsKept subject meaning (H ++ entry pass version (Install c) ∷ []) log graph (with_row n (Standing answer names) stages) closed (opened - 1) (entries + 1) (installed + 1) found rings
      unfolding event_of
      kept_install names answer found kept r reached a = record {
        legal = legal_with D H pass (InstallCall c) (Install c) version (ap (λ z. Some (install_event c z)) r) v k.legal may_install;
        logged = logged_on (Install c) refl;
        holds = holds_on (Install c) refl;
        staged = stages_replaced subject meaning H k.legal e refl stages n (Standing answer names) k.staged
            (present_of D (library_after H) n (grounded_now D H k.legal c n at unedited))
            (record {
              standing = makes n ∙ or_right (stands D H n) (is_claim_of H n c) (some_is_name n (claim_at H c) at);
              answers = ap (λ (z : Library). subject.answer z n) lib ∙ a;
              reached = reached ∙ sym (reach_now D H k.legal c n at unedited) ∙ ap (λ (z : Library). reach D z n) (sym lib);
            })
            (λ m q. makes m ∙ ap (λ b. stands D H m || b) (not_claim m q) ∙ or-false (stands D H m))
            (λ m q d i. no_claim subject meaning H k.legal e refl refl m d i)
            (λ m q d i. other_claim m q d i);
        closed_is = closed_on (Install c) refl;
        opened_all = let f = fewer (Install c) refl (eq-eqb c c refl) in omega (arith, f);
        counted = more (Install c);
        installed_all = let i = installs_last H e in let j = k.installed_all in omega (arith, i, j);
        room = room_less closed k.room;
        candidates_all = kept;
        sound = sound_on (Install c) refl;
      }
        where
          e : Entry
          e = entry pass version (Install c)

          lib : library_after (H ++ entry pass version (Install c) ∷ []) ≡ library_after H
          lib = same_library H (entry pass version (Install c)) refl

          unedited : is_unedited D H c ≡ true
          unedited = installed_unedited D H c n at r

          makes : (m : Name) → stands D (H ++ entry pass version (Install c) ∷ []) m ≡ (stands D H m || is_claim_of H m c)
          makes m = install_makes D H k.legal (entry pass version (Install c)) m c refl refl o r

          not_claim : (m : Name) → same_name m n ≡ false → is_claim_of H m c ≡ false
          not_claim m q =
              false_from_ne_true (is_claim_of H m c)
              (λ t. let same : n ≡ m = same_Some _ _ (sym at ∙ is_name_some m (claim_at H c) t) in
              true≢false (sym (same_itself n) ∙ ap (λ (z : Name). same_name z n) same ∙ q))

      pub kept_stale : (name : Name) (newer : ℕ) → install_reply D H c ≡ IsStale name newer
          → IsKept subject meaning (H ++ entry pass version (Stale c name newer) ∷ []) log graph stages closed (opened - 1) (entries + 1) installed candidates rings
      unfolding event_of
      kept_stale name newer r = record {
        legal = legal_with D H pass (InstallCall c) (Stale c name newer) version (ap (λ z. Some (install_event c z)) r) v k.legal may_install;
        logged = logged_on (Stale c name newer) refl;
        holds = holds_on (Stale c name newer) refl;
        staged = stages_kept subject meaning H k.legal (entry pass version (Stale c name newer)) refl stages k.staged
            (λ m. others_leave D H k.legal (entry pass version (Stale c name newer)) m refl refl)
            (λ m d i. no_claim subject meaning H k.legal (entry pass version (Stale c name newer)) refl refl m d i)
            (λ m d i. false_from_ne_true (nat_eq d c) (λ s. stale_not d m i (eqb-true d c s)));
        closed_is = closed_on (Stale c name newer) refl;
        opened_all = let f = fewer (Stale c name newer) refl (eq-eqb c c refl) in omega (arith, f);
        counted = more (Stale c name newer);
        installed_all = installed_on (Stale c name newer) refl;
        room = room_less closed k.room;
        candidates_all = k.candidates_all;
        sound = sound_on (Stale c name newer) refl;
      }
        where
          clash : IsInstalled ≡ IsStale name newer → ⊥
          clash q = cc

          -- a stale claim is not current
          stale_not : (d : ℕ) (m : Name) → IsCurrent D H m d → d ≡ c → ⊥
          stale_not d m i s = clash (sym (unedited_installed D H d m i.claimed i.unedited) ∙ ap (install_reply D H) s ∙ r)

      -- a release of a claim that is current
      pub kept_release_current : (found : Candidates) → AreKept (with_row n Waiting stages) graph found → IsCurrent D H n c
          → IsKept subject meaning (H ++ entry pass version (Release c) ∷ []) log graph (with_row n Waiting stages) closed (opened - 1) (entries + 1) installed found rings
      unfolding event_of
      kept_release_current found kept current = record {
        legal = legal_with D H pass (ReleaseCall c) (Release c) version refl v k.legal may_release;
        logged = logged_on (Release c) refl;
        holds = holds_on (Release c) refl;
        staged = stages_replaced subject meaning H k.legal e refl stages n Waiting k.staged (present_of D (library_after H) n grounded)
            (record {
              grounded = ap (λ (z : Library). is_grounded D z n) (same_library H (entry pass version (Release c)) refl) ∙ grounded;
              stands_not = others_leave D H k.legal (entry pass version (Release c)) n refl refl ∙ current_stands_not D H k.legal n c current;
              claimed_not = λ d i.
                  let j = no_claim subject meaning H k.legal (entry pass version (Release c)) refl refl n d i in
                  let same = one_current D H k.legal n d c j current in
                  true≢false (sym (eq-eqb d c same) ∙ (current_less D H (entry pass version (Release c)) n d i j.claimed).1);
            })
            (λ m q. others_leave D H k.legal e m refl refl)
            (λ m q d i. no_claim subject meaning H k.legal e refl refl m d i)
            (λ m q d i. other_claim m q d i);
        closed_is = closed_on (Release c) refl;
        opened_all = let f = fewer (Release c) refl (eq-eqb c c refl) in omega (arith, f);
        counted = more (Release c);
        installed_all = installed_on (Release c) refl;
        room = room_less closed k.room;
        candidates_all = kept;
        sound = sound_on (Release c) refl;
      }
        where
          e : Entry
          e = entry pass version (Release c)

          grounded : is_grounded D (library_after H) n ≡ true
          grounded = grounded_now D H k.legal c n at current.unedited

      -- a release of one that is not
      pub kept_release : (IsCurrent D H n c → ⊥)
          → IsKept subject meaning (H ++ entry pass version (Release c) ∷ []) log graph stages closed (opened - 1) (entries + 1) installed candidates rings
      unfolding event_of
      kept_release not_current = record {
        legal = legal_with D H pass (ReleaseCall c) (Release c) version refl v k.legal may_release;
        logged = logged_on (Release c) refl;
        holds = holds_on (Release c) refl;
        staged = stages_kept subject meaning H k.legal (entry pass version (Release c)) refl stages k.staged
            (λ m. others_leave D H k.legal (entry pass version (Release c)) m refl refl)
            (λ m d i. no_claim subject meaning H k.legal (entry pass version (Release c)) refl refl m d i)
            (λ m d i. false_from_ne_true (nat_eq d c) (λ s. other m d i (eqb-true d c s)));
        closed_is = closed_on (Release c) refl;
        opened_all = let f = fewer (Release c) refl (eq-eqb c c refl) in omega (arith, f);
        counted = more (Release c);
        installed_all = installed_on (Release c) refl;
        room = room_less closed k.room;
        candidates_all = k.candidates_all;
        sound = sound_on (Release c) refl;
      }
        where
          other : (m : Name) (d : ℕ) → IsCurrent D H m d → d ≡ c → ⊥
          other m d i s =
              let same : m ≡ n = same_Some _ _ (sym i.claimed ∙ ap (claim_at H) s ∙ at) in
              not_current (subst (λ (z : ℕ). IsCurrent D H n z) s (subst (λ (z : Name). IsCurrent D H z d) same i))
