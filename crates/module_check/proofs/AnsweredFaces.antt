-- The faces that the answers of a reach give are all that the module knows, and coherent.
use Rattle.std.proofs.Common.{◌≡◌, ℕ, zero, suc, inl, inr, Result, Err, true≢false, Bool, true, false, cond, not, ◌&&◌, ◌||◌, List, [], ◌∷◌, ◌++◌, map, length, Option, Some, None, is_some, refl, sym, ap, ◌∙◌, subst}
use Rattle.std.specs.Prelude.{◌↔◌, IfErr, IsErrOf, IsSome, option_map, ⊤}
use Rattle.std.proofs.lemmas.Bool.{and_parts, false_from_ne_true}
use Rattle.std.proofs.Common.{append-nil, append_assoc, slice_get, take, ◌+◌, ◌<◌, add-one, arith, ⊎_elim}
use Rattle.std.proofs.lemmas.Option.{slice_get_cases, slice_get-map}
use Rattle.list_laws.proofs.Places.{take_more}
use Rattle.list_laws.proofs.Members.{Member, in_filter}
use Rattle.list_laws.proofs.Options.{mapped_none, some_mapped}
use Rattle.name_meaning.specs.Names.{Name, Text, same_name, is_among}
use Rattle.name_meaning.specs.Rows.{Rows, IsTable, row_names, row_of}
use Rattle.name_laws.proofs.Order.{same_sound, same_itself, among_member, member_among}
use Rattle.name_laws.proofs.Rows.{row_among}
use Rattle.name_laws.proofs.RowLookups.{row_mapped}
use Rattle.edit_log_meaning.specs.Log.{Library, is_present}
use Rattle.module_graph_meaning.specs.Reach.{reach}
use Rattle.module_graph_meaning.specs.Subject.{answers_of, present_answer}
use Rattle.library_meaning.specs.Faces.{IsAbsent}
use Rattle.library_meaning.specs.Environments.{known_or_absent}
use Rattle.text_meaning.specs.Dependencies.{dependencies}
use Rattle.verdict_meaning.specs.Verdicts as verdicts
use Rattle.verdict_meaning.specs.Verdicts.{known_by}
use Rattle.verdict_meaning.specs.Rounds.{known_if, known_to, modules, others_reached, verdict_of}
use Rattle.verdict_laws.proofs.Verdicts.{verdict_exactly}
use Rattle.coherence_laws.proofs.LibrariesHold.{grounded_short, in_reach, reached_again}
use Rattle.module_graph.specs.Subjects.{IsGiven, read_answers}
use Rattle.mmt_interface.specs.Readings.{read_verdict, read_faces, environment_of, handed_back}
use Rattle.mmt_interface.specs.CoherentFaces.{AreCoherent}
use Rattle.mmt_interface.specs.declared.faces.FaceFault.{FaceFault}
use Rattle.mmt_interface.specs.declared.faces.FaceFault.TheVariants.{Twice}
use Rattle.mmt_interface.specs.declared.verdict.Verdict.{Verdict}
use Rattle.module_check.proofs.JudgingOrder.{ascending_distinct, fresh_at}
use Rattle.module_check.specs.OneLibrary.{HoldReaches}
use Rattle.module_check.specs.PresentRows.{present_row, present_rows}
use Rattle.module_check.proofs.OneLibrary.{coherent_together}

either : {A : Type 0} (b : Bool) (o : Option A) → o ≡ None → cond b o None ≡ o
either true o h = refl
either false o h = sym h

-- What stands under a name, where that is told of each name by a function.
pub present_made : {A : Type 0} (told : Name → Option A) (names : List Name) (n : Name) → row_of (present_rows (map (λ (m : Name). (m, told m)) names)) n ≡ cond (is_among names n) (told n) None
unfolding row_of is_among
present_made told [] n = refl
present_made {A} told (m ∷ names) n = by (same_name n m) (told m) refl refl (present_made told names n)
  where
    rows : Rows A
    rows = present_rows (map (λ (k : Name). (k, told k)) names)

    by : (b : Bool) (o : Option A) → same_name n m ≡ b → told m ≡ o → row_of rows n ≡ cond (is_among names n) (told n) None → row_of (present_row m o ++ rows) n ≡ cond (b || is_among names n) (told n) None
    by true None e h rest = rest ∙ either (is_among names n) (told n) (ap told (same_sound n m e) ∙ h)
    by true (Some a) e h rest = ap (λ z. cond z (Some a) (row_of rows n)) e ∙ sym (ap told (same_sound n m e) ∙ h)
    by false None e h rest = rest
    by false (Some a) e h rest = ap (λ z. cond z (Some a) (row_of rows n)) e ∙ rest

-- Rows that are read off others.
pub present_read : {A B : Type 0} (read : A → B) (rows : Rows (Option A)) → map (λ (row : Name × A). (row.0, read row.1)) (present_rows rows) ≡ present_rows (map (λ (row : Name × Option A). (row.0, option_map read row.1)) rows)
present_read read [] = refl
present_read {A} {B} read (row ∷ rows) = by row.1 (present_read read rows)
  where
    by : (o : Option A) → map (λ (r : Name × A). (r.0, read r.1)) (present_rows rows) ≡ present_rows (map (λ (r : Name × Option A). (r.0, option_map read r.1)) rows)
        → map (λ (r : Name × A). (r.0, read r.1)) (present_row row.0 o ++ present_rows rows) ≡ present_row row.0 (option_map read o) ++ present_rows (map (λ (r : Name × Option A). (r.0, option_map read r.1)) rows)
    by None rest = rest
    by (Some a) rest = ap (λ z. (row.0, read a) ∷ z) rest

-- One more row behind the others.
pub present_more : {A : Type 0} (rows : Rows (Option A)) (row : Name × Option A) → present_rows (rows ++ row ∷ []) ≡ present_rows rows ++ present_row row.0 row.1
present_more [] row = append-nil (present_row row.0 row.1)
present_more (first ∷ rows) row = ap (λ z. present_row first.0 first.1 ++ z) (present_more rows row) ∙ sym (append_assoc (present_row first.0 first.1) (present_rows rows) (present_row row.0 row.1))

-- The faces so far, with the next row.
pub next_present : {A : Type 0} (rows : Rows (Option A)) (place : ℕ) (row : Name × Option A) (before after : Rows A) → slice_get rows place ≡ Some row
    → before ≡ present_rows (take place rows) → after ≡ before ++ present_row row.0 row.1 → after ≡ present_rows (take (place + 1) rows)
next_present rows place row before after here so_far more =
    let e : take (place + 1) rows ≡ take place rows ++ row ∷ [] = rw add-one (take_more rows place row here) in
    more ∙ ap (λ z. z ++ present_row row.0 row.1) so_far ∙ sym (present_more (take place rows) row) ∙ ap present_rows (sym e)

-- There is a row at each place.
pub row_there : {A : Type 0} (rows : Rows (Option A)) (place : ℕ) → place < length rows → slice_get rows place ≡ None → ⊥
row_there {A} rows place l h = ⊎_elim (λ w. none_some w.2 h) (λ w. absurd (omega (arith, l, w.0))) (slice_get_cases rows place).1
  where
    none_some : {x : Name × Option A} → slice_get rows place ≡ Some x → slice_get rows place ≡ None → ⊥
    none_some p q = cc

-- Names of what is present among the first rows are names of these rows.
present_names : (place : ℕ) (rows : Rows (Option Verdict)) (m : Name) → Member m (row_names (present_rows (take place rows))) → Member m (take place (row_names rows))
present_names zero rows m h = h
present_names (suc place) [] m h = h
present_names (suc place) (row ∷ rows) m h = by row.1 (present_names place rows m) h
  where
    by : (o : Option Verdict) → (Member m (row_names (present_rows (take place rows))) → Member m (take place (row_names rows))) → Member m (row_names (present_row row.0 o ++ present_rows (take place rows))) → Member m (row.0 ∷ take place (row_names rows))
    by None rest p = inr (rest p)
    by (Some verdict) rest (inl e) = inl e
    by (Some verdict) rest (inr p) = inr (rest p)

-- The next name is not among those before it.
pub next_absent : (rows : Rows (Option Verdict)) (place : ℕ) (row : Name × Option Verdict) (before : Rows Verdict) → IsTable rows → slice_get rows place ≡ Some row → before ≡ present_rows (take place rows) → is_among (row_names before) row.0 ≡ false
next_absent rows place row before table here so_far =
    ap (λ z. is_among (row_names z) row.0) so_far
    ∙ false_from_ne_true (is_among (row_names (present_rows (take place rows))) row.0)
    (λ e. true≢false (sym (member_among (take place (row_names rows)) row.0 (present_names place rows row.0 (among_member (row_names (present_rows (take place rows))) row.0 e)))
    ∙ fresh_at (row_names rows) place row.0 (ascending_distinct (row_names rows) table) (slice_get-map (λ (r : Name × Option Verdict). r.0) rows place ∙ ap (option_map (λ (r : Name × Option Verdict). r.0)) here)))

told_if : (a b : Bool) (o : Option verdicts.Verdict) → is_some o ≡ b → known_or_absent (option_map known_by (cond a (cond b o None) None)) ≡ cond a (known_if o) IsAbsent
told_if false b o h = refl
told_if true true None h = refl
told_if true true (Some verdict) h = refl
told_if true false None h = refl
told_if true false (Some verdict) h = absurd (cc)

found : {A : Type 0} (a b : Bool) (o : Option A) (value : A) → cond a (cond b o None) None ≡ Some value → (a ≡ true) × (o ≡ Some value)
found true true o value h = (refl, h)
found true false o value h = absurd (cc)
found false b o value h = absurd (cc)

module _ (library : Library) (name : Name) (text : Text) (rows : Rows (Option Verdict)) (given : IsGiven modules name text (read_answers read_verdict rows) library) where
  answered : (n : Name) → row_of (read_faces (present_rows rows)) n ≡ cond (is_among (others_reached library name) n) (present_answer modules library n) None
  unfolding answers_of others_reached
  answered n =
      ap (λ z. row_of z n) (present_read read_verdict rows)
      ∙ ap (λ z. row_of (present_rows z) n) (sym given.reached)
      ∙ present_made (present_answer modules library) (others_reached library name) n

  -- What is known from the faces is what the definition lets the module know.
  pub known : environment_of (present_rows rows) ≡ known_to library name
  unfolding verdict_of
  known = λ i n. (ap (λ o. known_or_absent (option_map known_by o)) (answered n)
      ∙ told_if (is_among (others_reached library name) n) (is_present library n) (verdict_of library n) (verdict_exactly library n)) i

  apart : (b : Bool) → is_among (others_reached library name) name ≡ b → b ≡ false
  unfolding others_reached
  apart false h = refl
  apart true h =
      let p = (in_filter (λ (other : Name). not (same_name name other)) (reach dependencies library name) name (among_member (others_reached library name) name h)).1 in
      let q = same_itself name in
      absurd (cc)

  -- The module itself is not among them.
  pub itself_absent : row_of (present_rows rows) name ≡ None
  itself_absent =
      mapped_none read_verdict (row_of (present_rows rows) name)
      (sym (row_mapped read_verdict (present_rows rows) name) ∙ answered name
      ∙ ap (λ b. cond b (present_answer modules library name) None) (apart (is_among (others_reached library name) name) refl))

  -- A verdict that is found under a name is the library's on a name that the module reaches.
  pub answered_verdict : (n : Name) (verdict : verdicts.Verdict) → row_of (read_faces (present_rows rows)) n ≡ Some verdict → (is_among (others_reached library name) n ≡ true) × (verdict_of library n ≡ Some verdict)
  answered_verdict n verdict h = found (is_among (others_reached library name) n) (is_present library n) (verdict_of library n) verdict (sym (answered n) ∙ h)

  shown : (a b : Bool) (o : Option verdicts.Verdict) → is_some o ≡ b → is_some (cond a (cond b o None) None) ≡ (a && b)
  shown false b o h = refl
  shown true false o h = refl
  shown true true o h = h

  -- They have the present names that the module reaches.
  pub names_there : (n : Name) → is_among (row_names (present_rows rows)) n ≡ (is_among (others_reached library name) n && is_present library n)
  names_there n =
      sym (row_among (present_rows rows) n)
      ∙ sym (some_mapped read_verdict (row_of (present_rows rows) n)) ∙ ap is_some (sym (row_mapped read_verdict (present_rows rows) n) ∙ answered n)
      ∙ shown (is_among (others_reached library name) n) (is_present library n) (verdict_of library n) (verdict_exactly library n)

  reached_from : (n m : Name) → is_among (others_reached library name) n ≡ true → is_among (reach dependencies library n) m ≡ true → is_among (others_reached library name) m ≡ true
  reached_from n m p q = by (same_name n m) refl
    where
      by : (b : Bool) → same_name n m ≡ b → is_among (others_reached library name) m ≡ true
      by true e = ap (is_among (others_reached library name)) (sym (same_sound n m e)) ∙ p
      by false e =
          reached_again library (length library) name n m (grounded_short library name given.grounded) p (in_reach library n m (among_member (reach dependencies library n) m q) e)

  -- They are of one library, with whole reaches.
  together : HoldReaches library (present_rows rows)
  together =
      record {
        verdicts = λ n verdict h. (answered_verdict n verdict h).1;
        reach = λ n m p q present.
            (let there = and_parts (is_among (others_reached library name) n) (is_present library n) (sym (names_there n) ∙ p) in
            names_there m ∙ ap (λ b. b && is_present library m) (reached_from n m there.0 q) ∙ present);
      }

  -- So they are coherent.
  pub answered_coherent : AreCoherent (present_rows rows)
  answered_coherent = coherent_together (present_rows rows) library together
