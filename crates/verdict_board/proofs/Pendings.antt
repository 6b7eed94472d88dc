-- Which modules' verdicts are to come, by their stages.
use Rattle.std.proofs.Common.{◌≡◌, ◌⊎◌, ℕ, suc, ◌<◌, ◌≤◌, true, false, length, slice_get, Some, None, is_some, refl, sym, ap, ◌∙◌, subst, arith, ⊎_elim}
use Rattle.std.proofs.lemmas.List.{length-map}
use Rattle.std.proofs.lemmas.Option.{same_Some}
use Rattle.name_meaning.specs.Names.{Name}
use Rattle.name_meaning.specs.Rows.{Rows, row_names, IsTable}
use Rattle.name_laws.proofs.Rows.{row_at}
use Rattle.list_laws.proofs.Places.{place_within}
use Rattle.edit_log_meaning.specs.Log.{names_of}
use Rattle.module_graph_meaning.specs.Walks.{Dependencies}
use Rattle.module_graph_meaning.specs.Subject.{Subject}
use Rattle.board_meaning.specs.Events.{History, library_after}
use Rattle.board_meaning.specs.Machine.{is_known}
use Rattle.board_meaning.specs.Legal.{IsLegal}
use Rattle.verdict_board.specs.declared.stage.Stage.{Stage}
use Rattle.verdict_board.specs.declared.stage.Stage.TheVariants.{Waiting, Claimed, Standing, Cyclic}
use Rattle.verdict_board.specs.FirstPending.{IsFirstPending}
use Rattle.verdict_board.specs.Stages.{answer_in, IsStage, AreStages}
use Rattle.verdict_board.proofs.Parking.{named_at}
use Rattle.verdict_board.proofs.Reports.{known_stage, unknown_stage}

module _ {Answer Meaning : Type 0} (subject : Subject Meaning) (meaning : Answer → Meaning) (H : History) (l : IsLegal subject.dependencies H) (stages : Rows (Stage Answer)) (k : AreStages subject meaning H stages) where
  abbrev D : Dependencies
  D = subject.dependencies

  known_by : (n : Name) (stage : Stage Answer) → IsStage subject meaning H n stage → is_known D H n ≡ is_some (answer_in stage)
  known_by n Waiting s = unknown_stage subject meaning H l n Waiting s refl
  known_by n (Claimed c inputs) s = unknown_stage subject meaning H l n (Claimed c inputs) s refl
  known_by n (Standing a inputs) s = (known_stage subject meaning H l n (Standing a inputs) a s refl).0
  known_by n (Cyclic a) s = (known_stage subject meaning H l n (Cyclic a) a s refl).0

  named : (i : ℕ) (n : Name) → slice_get (names_of (library_after H)) i ≡ Some n → slice_get (row_names stages) i ≡ Some n
  named i n h = ap (λ names. slice_get names i) k.names ∙ h

  long : length (row_names stages) ≡ length stages
  long = length-map stages (λ (r : Name × Stage Answer). r.0)

  module _ (start : ℕ) where
    -- the verdicts of the modules from the start up to this place may be told
    abbrev pub AreKnown : ℕ → Type 0
    AreKnown i = (j : ℕ) (n : Name) → start ≤ j → j < i → slice_get (row_names stages) j ≡ Some n → is_known D H n ≡ true

    module _ (i : ℕ) (n : Name) (stage : Stage Answer) (t : IsTable stages) (h : slice_get stages i ≡ Some (n, stage)) where
      here : is_known D H n ≡ is_some (answer_in stage)
      here = known_by n stage (k.staged n stage (row_at n stage stages i t h))

      same : (m : Name) → slice_get (row_names stages) i ≡ Some m → n ≡ m
      same m g = same_Some _ _ (sym (named_at stages i n stage h) ∙ g)

      pub known_next : is_some (answer_in stage) ≡ true → AreKnown i → AreKnown (suc i)
      known_next a f j m s w g =
          ⊎_elim (λ less. f j m s less g)
          (λ e. subst (λ z. is_known D H z ≡ true) (same m (ap (slice_get (row_names stages)) (sym e) ∙ g)) (here ∙ a))
          (order j i w)
        where
          order : (a b : ℕ) → a < suc b → (a < b) ⊎ (a ≡ b)
          order a b w = grind arith

      pub pending_found : start ≤ i → i < length stages → is_some (answer_in stage) ≡ false → AreKnown i → IsFirstPending D H start (Some i)
      pending_found s w a f =
          let names = ap length (sym k.names) ∙ long in
          record {
            within = (s, omega (arith, w, names));
            pending = λ m g. subst (λ z. is_known D H z ≡ false) (same m (named i m g)) (here ∙ a);
            known = λ j m s w g. f j m s w (named j m g);
          }

    pub none_pending : (i : ℕ) → length stages ≤ i → AreKnown i → IsFirstPending D H start None
    none_pending i past f =
        record {
          within = tt;
          pending = tt;
          known = λ j m s w g. let at = place_within (row_names stages) j m (named j m g) in let e = long in f j m s (omega (arith, at, e, past)) (named j m g);
        }
