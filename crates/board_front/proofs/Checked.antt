-- The verdict lines of all modules, one after another.
use Rattle.std.proofs.Common.{◌≡◌, ◌⊎◌, inl, inr, ℕ, zero, suc, ◌<◌, ◌≤◌, List, [], ◌++◌, append-nil, append_assoc, map, length, drop, slice_get, Some, None, refl, sym, ap, ◌∙◌, subst, arith, ⊎_elim}
use Rattle.std.proofs.Math.ListN.{drop_of_length-le}
use Rattle.std.proofs.lemmas.Option.{slice_get_cases, slice_get_within}
use Rattle.name_meaning.specs.Names.{Name}
use Rattle.std.proofs.lemmas.List.{length-map}
use Rattle.edit_log_meaning.specs.Append.{IsWithinLimits}
use Rattle.edit_log_meaning.specs.Log.{Log, Module, library_of, names_of}
use Rattle.list_laws.proofs.Members.{member_place}
use Rattle.list_laws.proofs.Places.{drop_here}
use Rattle.text_meaning.specs.Dependencies.{dependencies}
use Rattle.board_meaning.specs.Events.{History, log_of}
use Rattle.board_meaning.specs.Legal.{IsLegal}
use Rattle.run_meaning.specs.Parts.{parts_text}
use Rattle.run_meaning.specs.ScriptOutput.{report_part, report_text}
use Rattle.judged_meaning.specs.JudgingByRules.{rules}
use Rattle.board_front.specs.Staying.{AllStand, StandsIfGrounded, Stays}
use Rattle.board_front.proofs.Histories.{stays_same, stays_on}
use Rattle.board_front.proofs.Standing.{still_if_grounded}

less_or_same : (i place : ℕ) → i ≤ place → (i < place) ⊎ (i ≡ place)
less_or_same zero zero l = inr refl
less_or_same zero (suc place) l = inl (omega arith)
less_or_same (suc i) zero l = absurd (omega (arith, l))
less_or_same (suc i) (suc place) l = ⊎_elim (λ less. inl (omega (arith, less))) (λ e. inr (ap suc e)) (less_or_same i place (omega (arith, l)))

some_same : (own name : Name) → Some own ≡ Some name → own ≡ name
some_same own name q = cc

module _ (log : Log) where
  abbrev pub names : List Name
  names = names_of (library_of log)

  abbrev pub lines_from : ℕ → List ℕ
  lines_from place = parts_text (map (report_part rules log) (drop place names))

  -- The modules before this place have their lines, and stand where they are grounded.
  pub record ChecksSoFar (before now : History) (place : ℕ) (lines : List ℕ) : Type 0 where
    pub stays : Stays before now
    pub written : lines ++ lines_from place ≡ lines_from 0
    pub stand : (i : ℕ) (name : Name) → slice_get names i ≡ Some name → i < place → StandsIfGrounded now name

  pub none_checked : (history : History) → IsLegal dependencies history → ChecksSoFar history history 0 []
  none_checked history legal = record { stays = stays_same history legal; written = refl; stand = λ i name h l. absurd (omega (arith, l)) }

  pub next_checked : (before now new : History) (place : ℕ) (name : Name) (lines line : List ℕ) → slice_get names place ≡ Some name → ChecksSoFar before now place lines
      → Stays now new → line ≡ report_text rules log name → StandsIfGrounded new name → ChecksSoFar before new (suc place) (lines ++ line)
  next_checked before now new place name lines line here so_far stays e standing =
      record {
        stays = stays_on (log_of before) before now new so_far.stays stays;
        written = append_assoc lines line (lines_from (suc place)) ∙ ap (λ (l : List ℕ). lines ++ (l ++ lines_from (suc place))) e
            ∙ ap (λ (left : List Name). lines ++ parts_text (map (report_part rules log) left)) (sym (drop_here names place name here)) ∙ so_far.written;
        stand = λ i other h l. by i other h (omega (arith, l));
      }
    where
      by : (i : ℕ) (other : Name) → slice_get names i ≡ Some other → i ≤ place → StandsIfGrounded new other
      by i other h l = ⊎_elim (λ less. still_if_grounded now new other stays (so_far.stand i other h less)) (λ e. at i other h e) (less_or_same i place l)
        where
          at : (k : ℕ) (own : Name) → slice_get names k ≡ Some own → k ≡ place → StandsIfGrounded new own
          at k own g q = let same : own ≡ name = some_same own name (sym g ∙ ap (slice_get names) q ∙ here) in subst (StandsIfGrounded new) (sym same) standing

  -- A log keeps to the limit of modules.
  pub within_limit : IsWithinLimits log → length names ≤ 4096
  within_limit limits = let m = limits.modules in let l = length-map (library_of log) (λ (own : Module). own.name) in omega (arith, m, l)

  pub past_end : (place : ℕ) → slice_get names place ≡ None → length names ≤ place
  past_end place h = ⊎_elim (λ w. absurd (none_some w.0 (sym h ∙ w.2))) (λ w. w.0) (slice_get_cases names place).1
    where
      none_some : (name : Name) → None ≡ Some name → ⊥
      none_some name q = cc

  module _ (before now : History) (place : ℕ) (lines : List ℕ) (so_far : ChecksSoFar before now place lines) (all : length names ≤ place) where
    pub all_written : lines ≡ parts_text (map (report_part rules log) names)
    all_written =
        sym (append-nil lines) ∙ ap (λ (left : List Name). lines ++ parts_text (map (report_part rules log) left)) (sym (drop_of_length-le names all)) ∙ so_far.written

    pub all_stand : AllStand now names
    all_stand name m =
        let p = member_place names name m in
        let w = slice_get_within names p.0 name p.1 in
        so_far.stand p.0 name p.1 (omega (arith, w, all))
