-- The verdict lines of modules, written one after another and counted.
use Rattle.std.proofs.Common.{◌≡◌, ◌+◌, ◌≤◌, ℕ, suc, Bool, true, false, not, cond, List, [], ◌∷◌, ◌++◌, length, map, filter, take, drop, slice_get, Option, Some, refl, sym, ap, ap₂, ◌∙◌, subst, arith, length-append}
use Rattle.std.proofs.lemmas.List.{map-append, take_all, take-append-drop}
use Rattle.std.proofs.lemmas.List.Elements.{filter-append}
use Rattle.list_laws.proofs.Places.{take_more}
use Rattle.name_meaning.specs.Names.{Name}
use Rattle.mmt_outside.specs.Bytes.{Taken}
use Rattle.edit_log_meaning.specs.Log.{library_of}
use Rattle.text_meaning.specs.Dependencies.{dependencies}
use Rattle.board_meaning.specs.Events.{History, log_of}
use Rattle.board_meaning.specs.Legal.{IsLegal}
use Rattle.run_meaning.specs.Parts.{Part}
use Rattle.run_meaning.specs.Folders.{is_refused}
use Rattle.judged_meaning.specs.JudgingByRules.{rules}
use Rattle.board_front.specs.Staying.{Stays}
use Rattle.board_front.proofs.Histories.{stays_on, stays_same}
use Rattle.folder_front.specs.Sheets.{counted, names_in, tally_of, verdict_part}
use Rattle.folder_front.specs.Written.{WroteAll, WroteSome}
use Rattle.folder_front.specs.declared.sheet.Sheet.{Sheet}
use Rattle.folder_front.specs.declared.tally.Tally.{Tally}
use Rattle.folder_front.proofs.Writing.{some_behind, some_more, wrote_more, wrote_none}

module _ (sheet : Sheet) where
  abbrev refused : Name → Bool
  refused name = is_refused (rules.judged (library_of sheet.log) name)

  counts_by : (front : List Name) (name : Name) (b : Bool) → refused name ≡ b
      → counted (tally_of sheet front) (not b)
      ≡ record { accepted = length (filter (λ (n : Name). not (refused n)) front ++ cond (not b) (name ∷ []) []); refused = length (filter refused front ++ cond b (name ∷ []) []) }
  counts_by front name true e =
      ap₂ (λ (a r : ℕ). record { accepted = a; refused = r })
      (let n : length (filter (λ (m : Name). not (refused m)) front) ≡ length (filter (λ (m : Name). not (refused m)) front ++ []) = omega (arith, length-append (filter (λ (m : Name). not (refused m)) front) []) in n)
      (let n : length (filter refused front) + 1 ≡ length (filter refused front ++ name ∷ []) = omega (arith, length-append (filter refused front) (name ∷ [])) in n)
  counts_by front name false e =
      ap₂ (λ (a r : ℕ). record { accepted = a; refused = r })
      (let n : length (filter (λ (m : Name). not (refused m)) front) + 1 ≡ length (filter (λ (m : Name). not (refused m)) front ++ name ∷ []) = omega (arith, length-append (filter (λ (m : Name). not (refused m)) front) (name ∷ [])) in n)
      (let n : length (filter refused front) ≡ length (filter refused front ++ []) = omega (arith, length-append (filter refused front) []) in n)

  counts_more : (front : List Name) (name : Name) → counted (tally_of sheet front) (not (refused name)) ≡ tally_of sheet (front ++ name ∷ [])
  counts_more front name =
      counts_by front name (refused name) refl
      ∙ ap₂ (λ (a r : ℕ). record { accepted = a; refused = r })
      (ap length (sym (filter-append (λ (n : Name). not (refused n)) front (name ∷ []))))
      (ap length (sym (filter-append refused front (name ∷ []))))

  -- The modules before this place have their lines, and are counted.
  pub record LinesSoFar (before now : Option Taken) (first second : History) (place : ℕ) (tally : Tally) : Type 0 where
    pub stays : Stays first second
    pub wrote : WroteAll before now (map (verdict_part sheet) (take place (names_in sheet))) second
    pub counts : tally ≡ tally_of sheet (take place (names_in sheet))
    pub small : tally.accepted + tally.refused ≤ place

  pub no_lines : (before : Option Taken) (history : History) (tally : Tally) → IsLegal dependencies history → tally ≡ record { accepted = 0; refused = 0 } → LinesSoFar before before history history 0 tally
  no_lines before history tally legal none = record {
    stays = stays_same history legal;
    wrote = wrote_none before history;
    counts = none;
    small = (let a = ap (λ (t : Tally). t.accepted) none in let r = ap (λ (t : Tally). t.refused) none in omega (arith, a, r));
  }

  counted_sum : (tally : Tally) (b : Bool) (place : ℕ) → tally.accepted + tally.refused ≤ place → (counted tally b).accepted + (counted tally b).refused ≤ suc place
  counted_sum tally true place l = omega (arith, l)
  counted_sum tally false place l = omega (arith, l)

  -- The names from a place on.
  rest_from : (place : ℕ) → (rest : List Name) × (names_in sheet ≡ take place (names_in sheet) ++ rest)
  rest_from place = (drop place (names_in sheet), sym (take-append-drop place (names_in sheet)))

  module _ (before now : Option Taken) (first second : History) (place : ℕ) (tally : Tally) (so_far : LinesSoFar before now first second place tally) where
    module _ (new : Option Taken) (third : History) (name : Name) (here : slice_get (names_in sheet) place ≡ Some name) (stays : Stays second third) where
      more_names : map (verdict_part sheet) (take (suc place) (names_in sheet)) ≡ map (verdict_part sheet) (take place (names_in sheet)) ++ verdict_part sheet name ∷ []
      more_names = ap (map (verdict_part sheet)) (take_more (names_in sheet) place name here) ∙ map-append (verdict_part sheet) (take place (names_in sheet)) (name ∷ [])

      -- One module more.
      pub next_line : (next : Tally) (accepted : Bool) → next ≡ counted tally accepted → accepted ≡ not (refused name) → WroteAll now new (verdict_part sheet name ∷ []) third
          → LinesSoFar before new first third (suc place) next
      next_line next accepted is e wrote = record {
        stays = stays_on (log_of first) first second third so_far.stays stays;
        wrote = subst (λ (parts : List Part). WroteAll before new parts third) (sym more_names)
            (wrote_more before now (map (verdict_part sheet) (take place (names_in sheet))) (verdict_part sheet name ∷ []) second third stays so_far.wrote new wrote);
        counts = is ∙ ap₂ counted so_far.counts e ∙ counts_more (take place (names_in sheet)) name ∙ ap (tally_of sheet) (sym (take_more (names_in sheet) place name here));
        small = subst (λ (t : Tally). t.accepted + t.refused ≤ suc place) (sym is) (counted_sum tally accepted place so_far.small);
      }

      -- It stopped at the line of a module.
      pub stopped_line : WroteSome now new (verdict_part sheet name ∷ []) third → WroteSome before new (map (verdict_part sheet) (names_in sheet)) third
      stopped_line some =
          let rest = rest_from (suc place) in
          subst (λ (parts : List Part). WroteSome before new parts third)
          (ap (λ (parts : List Part). parts ++ map (verdict_part sheet) rest.0) (sym more_names) ∙ sym (map-append (verdict_part sheet) (take (suc place) (names_in sheet)) rest.0) ∙ ap (map (verdict_part sheet)) (sym rest.1))
          (some_more before new (map (verdict_part sheet) (take place (names_in sheet)) ++ verdict_part sheet name ∷ []) (map (verdict_part sheet) rest.0) third
          (some_behind before now (map (verdict_part sheet) (take place (names_in sheet))) (verdict_part sheet name ∷ []) second third stays so_far.wrote new some))

    -- All modules have their lines.
    module _ (past : length (names_in sheet) ≤ place) where
      all_names : take place (names_in sheet) ≡ names_in sheet
      all_names = take_all place (names_in sheet) past

      pub all_wrote : WroteAll before now (map (verdict_part sheet) (names_in sheet)) second
      all_wrote = subst (λ (names : List Name). WroteAll before now (map (verdict_part sheet) names) second) all_names so_far.wrote

      pub all_counted : tally ≡ tally_of sheet (names_in sheet)
      all_counted = so_far.counts ∙ ap (tally_of sheet) all_names
