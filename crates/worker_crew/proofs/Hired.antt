-- Workers with passes that are split from pass 0.
use Rattle.std.proofs.Common.{◌≡◌, ℕ, ◌+◌, ◌<◌, List, [], ◌∷◌, ◌++◌, length, Ok, refl, sym, ap, ap₂, ◌∙◌, arith}
use Rattle.std.specs.List.{range_with_len}
use Rattle.std.proofs.lemmas.List.Elements.{All-map}
use Rattle.std.proofs.lemmas.List.FromFn.{length-range_with_len, length-map-range_with_len, get_or-range_with_len, map-range_with_len_more}
use Rattle.module_graph_meaning.specs.Walks.{Dependencies}
use Rattle.turn_meaning.specs.Passes.{Pass, HasJoinedAll, IsIdleOf, split_from, with_one_more}
use Rattle.board_meaning.specs.Events.{Entry}
use Rattle.board_meaning.specs.Legal.{IsLegal}
use Rattle.worker_crew.specs.Workers.{Worker, IsWorker, AreWorkers}
use Rattle.worker_crew.specs.Hired.{worker_of, hired, with_more, AreAllOthers}

module _ {Lock : Type 0} (first : Pass Lock Entry) where
  module _ (count : ℕ) (between : Pass Lock Entry) (so_far : between ≡ with_more first count) where
    pub one_more_made : (after : Pass Lock Entry) → after ≡ with_one_more between → after ≡ with_more first (count + 1)
    one_more_made after made =
        let sum : first.made + count + 1 ≡ first.made + (count + 1) = omega arith in
        made ∙ ap with_one_more so_far ∙ ap (λ (n : ℕ). record first { made = n }) sum

    pub one_more_hired : (crew after : List (Worker Lock)) (pass : Pass Lock Entry) (worker : Worker Lock) → crew ≡ hired first count → pass ≡ split_from between
        → worker ≡ record { pass = pass; outcome = Ok tt } → after ≡ crew ++ worker ∷ [] → after ≡ hired first (count + 1)
    one_more_hired crew after pass worker h split new pushed =
        let is : worker ≡ worker_of first (first.made + count) = new ∙ ap (λ (p : Pass Lock Entry). record { pass = p; outcome = Ok tt }) (split ∙ ap split_from so_far) in
        pushed ∙ ap₂ (λ (ws : List (Worker Lock)) (w : Worker Lock). ws ++ w ∷ []) h is ∙ sym (map-range_with_len_more (worker_of first) first.made count (first.made + count) refl)

  pub are_workers : (dependencies : Dependencies) (lock : Lock) (count : ℕ) → IsIdleOf lock first → 0 < first.made → IsLegal dependencies first.seen → AreWorkers dependencies lock (hired first count)
  are_workers dependencies lock count idle made legal =
      All-map (IsWorker dependencies lock) (worker_of first) (range_with_len first.made count) (λ k d lt.
      let within : k < count = (let n = length-range_with_len first.made count in omega (arith, lt, n)) in
      let number = get_or-range_with_len first.made count k d within in
      record {
        idle = record { of = idle.of; idle = refl };
        number = λ e. absurd (omega (arith, e, number, made));
        alone = refl;
        legal = legal;
      })

  -- where all that were made are joined, the new ones are all others
  pub are_all_others : (count : ℕ) (after : Pass Lock Entry) (crew : List (Worker Lock)) → HasJoinedAll first → after ≡ with_more first count → crew ≡ hired first count → AreAllOthers after crew
  are_all_others count after crew all more h =
      let many : length crew ≡ count = ap length h ∙ length-map-range_with_len (worker_of first) first.made count in
      let made : after.made ≡ first.made + count = ap (λ (p : Pass Lock Entry). p.made) more in
      let joined : length after.joined ≡ length first.joined = ap (λ (p : Pass Lock Entry). length p.joined) more in
      omega (arith, many, made, joined, all)
