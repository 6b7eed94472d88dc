-- The end of a claim that was handed out.
use Rattle.std.proofs.Common.{◌≡◌, ℕ, zero, suc, get_or, ◌+◌, ◌<◌, ◌≤◌, ◌^◌, Bool, true, false, not, List, [], ◌∷◌, length, take, ◌⊎◌, ⊎_elim, slice_get, nat_eq, Some, None, option_map, is_some, ◌&&◌, refl, sym, ap, ◌∙◌, subst, true≢false, arith, eq-eqb, eqb-true, MatchBool}
use Rattle.list_laws.proofs.Places.{place_within}
use Rattle.verdict_board.proofs.Ready.{first_found, none_found}
use Rattle.std.proofs.lemmas.Bool.{and_parts}
use Rattle.name_meaning.specs.Names.{Name}
use Rattle.name_meaning.specs.Rows.{Rows, row_of}
use Rattle.edit_log_meaning.specs.Log.{Log, Library}
use Rattle.module_graph_meaning.specs.Reach.{reach}
use Rattle.module_graph_meaning.specs.Graphs.{Graph}
use Rattle.module_graph_meaning.specs.Subject.{Subject, KeepsToReach}
use Rattle.board_meaning.specs.Events.{History, library_after, stamp_after}
use Rattle.board_meaning.specs.Claims.{Input, claim_at, is_open, inputs_of, input_names, is_unchanged, first_changed}
use Rattle.board_meaning.specs.Machine.{Job, job_of, IsInstalled, IsStale, installed_by, install_reply, is_by, may_call, InstallCall, ReleaseCall}
use Rattle.board_meaning.specs.Legal.{IsLegal}
use Rattle.board_laws.proofs.Claiming.{installed_unedited}
use Rattle.board_laws.proofs.Standings.{grounded_now}
use Rattle.module_graph.specs.Subjects.{IsGiven, read_answers}
use Rattle.verdict_board.specs.declared.candidates.Candidates.{Candidates}
use Rattle.verdict_board.specs.declared.stage.Stage.{Stage}
use Rattle.verdict_board.specs.declared.stage.Stage.TheVariants.{Waiting, Claimed, Standing, Cyclic}
use Rattle.verdict_board.specs.Readings.{read_job, read_inputs}
use Rattle.verdict_board.specs.Changes.{IsFirstChanged}
use Rattle.verdict_board.specs.declared.inputs.Input as inputs
use Rattle.std.proofs.lemmas.Option.{slice_get-map, slice_get-get_or, same_Some}
use Rattle.std.proofs.lemmas.List.{length-map}
use Rattle.verdict_board.specs.Stages.{claim_in, IsCurrent, IsStage}
use Rattle.verdict_board.specs.Keeping.{IsKept, HasRoom}
use Rattle.verdict_board.proofs.Currents.{current_grounded, current_stands_not, one_current}
use Rattle.verdict_board.proofs.Jobs.{job_at, job_inputs, job_names, job_answer}
use Rattle.verdict_board.proofs.Reports.{staged_present, ungrounded_not}
use Rattle.verdict_board.proofs.Rooms.{installs_within}
use Rattle.verdict_board.proofs.Transitions.{present_of}

module _ {Answer Meaning : Type 0} (subject : Subject Meaning) (meaning : Answer → Meaning) (H K : History) (e : H ≡ K) (pass : ℕ) (i j : Job Answer) (f : i ≡ j) (h : job_of subject K j.claim ≡ Some (read_job meaning j)) where
  pub here_job : job_of subject H i.claim ≡ Some (read_job meaning i)
  here_job = subst (λ (z : History). job_of subject z i.claim ≡ Some (read_job meaning i)) (sym e) (subst (λ (z : Job Answer). job_of subject K z.claim ≡ Some (read_job meaning z)) (sym f) h)

  pub here_at : claim_at H i.claim ≡ Some i.name
  here_at = job_at subject H i.claim (read_job meaning i) here_job

  pub here_inputs : i.inputs ≡ inputs_of subject.dependencies H i.claim
  here_inputs = job_inputs subject H i.claim (read_job meaning i) here_job

  pub here_names : input_names i.inputs ≡ reach subject.dependencies (library_after (take i.claim H)) i.name
  here_names = job_names subject H i.claim (read_job meaning i) here_job

  pub here_answer : IsLegal subject.dependencies H → KeepsToReach subject → (verdict : Answer)
      → ((library : Library) → IsGiven subject j.name j.text (read_answers meaning j.answers) library → subject.answer library j.name ≡ Some (meaning verdict))
      → install_reply subject.dependencies H i.claim ≡ IsInstalled → subject.answer (library_after H) i.name ≡ Some (meaning verdict)
  here_answer l keeps verdict v r =
      job_answer subject H i.claim (read_job meaning i) here_job l keeps (installed_unedited subject.dependencies H i.claim i.name here_at r) (Some (meaning verdict))
      (subst (λ (z : Job Answer). (library : Library) → IsGiven subject z.name z.text (read_answers meaning z.answers) library → subject.answer library z.name ≡ Some (meaning verdict)) (sym f) v)

  pub here_reply : install_reply subject.dependencies K j.claim ≡ IsInstalled → install_reply subject.dependencies H i.claim ≡ IsInstalled
  here_reply r = (λ z. install_reply subject.dependencies (e z) (f z).claim) ∙ r

  pub here_install : may_call K pass (InstallCall j.claim) ≡ true → (is_open H i.claim ≡ true) × (is_by pass (slice_get H i.claim) ≡ true)
  unfolding may_call
  here_install m =
      and_parts (is_open H i.claim) (is_by pass (slice_get H i.claim))
      (subst (λ (z : History). (is_open z i.claim && is_by pass (slice_get z i.claim)) ≡ true) (sym e)
      (subst (λ (z : Job Answer). (is_open K z.claim && is_by pass (slice_get K z.claim)) ≡ true) (sym f) m))

  pub here_release : may_call K pass (ReleaseCall j.claim) ≡ true → (is_open H i.claim ≡ true) × (is_by pass (slice_get H i.claim) ≡ true)
  unfolding may_call
  here_release m =
      and_parts (is_open H i.claim) (is_by pass (slice_get H i.claim))
      (subst (λ (z : History). (is_open z i.claim && is_by pass (slice_get z i.claim)) ≡ true) (sym e)
      (subst (λ (z : Job Answer). (is_open K z.claim && is_by pass (slice_get K z.claim)) ≡ true) (sym f) m))

  -- the reply where an input has changed
  pub here_stale : (place newer : ℕ) (x : Input) → slice_get i.inputs place ≡ Some x → IsFirstChanged K j.inputs place newer → install_reply subject.dependencies H i.claim ≡ IsStale x.name newer
  unfolding install_reply
  here_stale place newer x at k =
      let k' : IsFirstChanged H i.inputs place newer = subst (λ (z : History). IsFirstChanged z i.inputs place newer) (sym e) (subst (λ (z : Job Answer). IsFirstChanged K z.inputs place newer) (sym f) k) in
      let same : x ≡ k'.input = same_Some _ _ (sym at ∙ k'.at) in
      ap (λ (inputs : List Input). installed_by (first_changed H inputs)) (sym here_inputs) ∙ ap installed_by k'.changed ∙ ap (λ (z : Input). IsStale z.name newer) (sym same)

  -- the reply where none has
  pub here_installed : first_changed K j.inputs ≡ None → install_reply subject.dependencies H i.claim ≡ IsInstalled
  unfolding install_reply
  here_installed n =
      ap (λ (inputs : List Input). installed_by (first_changed H inputs)) (sym here_inputs)
      ∙ ap installed_by (subst (λ (z : History). first_changed z i.inputs ≡ None) (sym e) (subst (λ (z : Job Answer). first_changed K z.inputs ≡ None) (sym f) n))

-- ---- the counts of a board

module _ {Answer Meaning : Type 0} (subject : Subject Meaning) (meaning : Answer → Meaning) (H : History) (log : Log) (graph : Graph) (stages : Rows (Stage Answer)) (closed : Bool) (opened entries installed : ℕ) {candidates : Candidates} {rings : Bool}
    (k : IsKept subject meaning H log graph stages closed opened entries installed candidates rings) where
  pub entries_fit : 0 < opened → entries + 1 < 2 ^ 64
  entries_fit o = by closed k.room
    where
      by : (b : Bool) → HasRoom b opened entries → entries + 1 < 2 ^ 64
      by true r = omega (arith, r, o)
      by false r = omega (arith, r, o)

  pub close_fits : closed ≡ false → entries + 1 < 2 ^ 64
  close_fits c = let r : HasRoom false opened entries = subst (λ (b : Bool). HasRoom b opened entries) c k.room in omega (arith, r)

  pub installed_fits : 0 < opened → installed + 1 < 2 ^ 64
  installed_fits o =
      let a = entries_fit o in
      let b = installs_within H in
      let c = k.installed_all in
      let d = k.counted in
      omega (arith, a, b, c, d)

  pub claimed_present : (n : Name) (c : ℕ) → claim_at H c ≡ Some n → install_reply subject.dependencies H c ≡ IsInstalled → is_some (row_of stages n) ≡ true
  claimed_present n c at r =
      staged_present subject meaning H k.legal stages k.staged n
      ∙ present_of subject.dependencies (library_after H) n (grounded_now subject.dependencies H k.legal c n at (installed_unedited subject.dependencies H c n at r))

  pub current_present : (n : Name) (c : ℕ) → IsCurrent subject.dependencies H n c → is_some (row_of stages n) ≡ true
  current_present n c i = staged_present subject meaning H k.legal stages k.staged n ∙ present_of subject.dependencies (library_after H) n (current_grounded subject.dependencies H k.legal n c i)

  -- whether a claim is current, by the stage of its name
  pub current_absent : (n : Name) (c : ℕ) → row_of stages n ≡ None → IsCurrent subject.dependencies H n c → ⊥
  current_absent n c h i = true≢false (sym (current_present n c i) ∙ ap is_some h)

  pub current_none : (n : Name) (c : ℕ) (stage : Stage Answer) → row_of stages n ≡ Some stage → claim_in stage ≡ None → IsCurrent subject.dependencies H n c → ⊥
  current_none n c stage h none i = by stage (k.staged.staged n stage h) none
    where
      by : (stage : Stage Answer) → IsStage subject meaning H n stage → claim_in stage ≡ None → ⊥
      by Waiting s none = s.claimed_not c i
      by (Claimed d inputs) s none = absurd (cc)
      by (Standing a inputs) s none = true≢false (sym s.standing ∙ current_stands_not subject.dependencies H k.legal n c i)
      by (Cyclic a) s none = true≢false (sym (current_grounded subject.dependencies H k.legal n c i) ∙ ungrounded_not subject.dependencies (library_after H) n s.ungrounded)

  pub current_decides : (n : Name) (c d : ℕ) (stage : Stage Answer) → row_of stages n ≡ Some stage → claim_in stage ≡ Some d
      → MatchBool (nat_eq d c) (IsCurrent subject.dependencies H n c) (IsCurrent subject.dependencies H n c → ⊥)
  current_decides n c d stage h some = by (nat_eq d c) refl
    where
      held : (stage : Stage Answer) → IsStage subject meaning H n stage → claim_in stage ≡ Some d → IsCurrent subject.dependencies H n d
      held Waiting s q = absurd (cc)
      held (Claimed b inputs) s q = let same : b ≡ d = cc in subst (IsCurrent subject.dependencies H n) same s.current
      held (Standing a inputs) s q = absurd (cc)
      held (Cyclic a) s q = absurd (cc)

      by : (b : Bool) → nat_eq d c ≡ b → MatchBool b (IsCurrent subject.dependencies H n c) (IsCurrent subject.dependencies H n c → ⊥)
      by true q = subst (IsCurrent subject.dependencies H n) (eqb-true d c q) (held stage (k.staged.staged n stage h) some)
      by false q = λ i. true≢false (sym (eq-eqb d c (one_current subject.dependencies H k.legal n d c (held stage (k.staged.staged n stage h) some) i)) ∙ q)

-- ---- the first input that has changed

module _ (H : History) (inputs : List Input) where
  abbrev pub NoneChanged : ℕ → Type 0
  NoneChanged i = (j : ℕ) (x : Input) → j < i → slice_get inputs j ≡ Some x → is_unchanged H x ≡ true

  pub changed_at : (i : ℕ) (x : Input) (newer : ℕ) → slice_get inputs i ≡ Some x → newer ≡ stamp_after H x.name → nat_eq newer x.stamp ≡ false → NoneChanged i → IsFirstChanged H inputs i newer
  unfolding first_changed
  changed_at i x newer h v q f = record {
    input = x;
    at = h;
    changed = ap (option_map (λ (input : Input). record { name = input.name; stamp = stamp_after H input.name }))
        (first_found (λ (input : Input). not (is_unchanged H input)) inputs i x h (ap (λ z. not (nat_eq z x.stamp)) (sym v) ∙ ap not q) (λ j y w g. ap not (f j y w g)))
        ∙ ap (λ z. Some (record { name = x.name; stamp = z })) (sym v);
  }

  pub none_changed : (i : ℕ) → length inputs ≤ i → NoneChanged i → first_changed H inputs ≡ None
  unfolding first_changed
  none_changed i past f =
      ap (option_map (λ (input : Input). record { name = input.name; stamp = stamp_after H input.name }))
      (none_found (λ (input : Input). not (is_unchanged H input)) inputs (λ j y g. ap not (f j y (let w = place_within inputs j y g in omega (arith, w, past)) g)))

  pub changed_next : (i : ℕ) (x : Input) → slice_get inputs i ≡ Some x → is_unchanged H x ≡ true → NoneChanged i → NoneChanged (suc i)
  changed_next i x h u f j y w g = ⊎_elim (λ less. f j y less g) (λ same. subst (λ z. is_unchanged H z ≡ true) (same_Some _ _ (sym h ∙ ap (slice_get inputs) (sym same) ∙ g)) u) (order j i w)
    where
      order : (a b : ℕ) → a < suc b → (a < b) ⊎ (a ≡ b)
      order a b w = grind arith

-- ---- inputs of the code

pub length_read : (xs : List inputs.Input) → length (read_inputs xs) ≡ length xs
length_read xs = length-map xs (λ (input : inputs.Input). record { name = input.name; stamp = input.stamp })

pub got_same : (xs : List inputs.Input) (i : ℕ) (x : inputs.Input) (y : Input) → slice_get (read_inputs xs) i ≡ Some y → x ≡ get_or xs i x → slice_get (read_inputs xs) i ≡ Some (record { name = x.name; stamp = x.stamp })
got_same [] i x y h e = absurd (cc)
got_same (z ∷ xs) zero x y h e = ap (λ (w : inputs.Input). Some (record { name = w.name; stamp = w.stamp })) (sym e)
got_same (z ∷ xs) (suc i) x y h e = got_same xs i x y h e

pub read_here : (xs items : List inputs.Input) (i : ℕ) (x : inputs.Input) → items ≡ xs → i < length items → x ≡ get_or items i x → slice_get (read_inputs xs) i ≡ Some (record { name = x.name; stamp = x.stamp })
read_here xs items i x e w h =
    slice_get-map (λ (input : inputs.Input). record { name = input.name; stamp = input.stamp }) xs i
    ∙ ap (option_map (λ (input : inputs.Input). record { name = input.name; stamp = input.stamp }))
    (subst (λ (z : List inputs.Input). slice_get z i ≡ Some x) e (slice_get-get_or items i x w ∙ ap Some (sym h)))
