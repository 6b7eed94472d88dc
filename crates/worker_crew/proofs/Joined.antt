-- Passes that are joined into pass 0, one after another.
use Rattle.std.proofs.Common.{◌≡◌, ℕ, ◌+◌, ◌<◌, List, [], ◌∷◌, ◌++◌, map, length, get_or, append-nil, append_assoc, sym, ap, ◌∙◌, subst, arith, length-append}
use Rattle.std.specs.Prelude.{not, nat_eq}
use Rattle.std.proofs.lemmas.Bool.{and_from}
use Rattle.std.proofs.lemmas.List.{map-append, length-map}
use Rattle.std.proofs.lemmas.List.Elements.{All-nil, All-push, All-weaker}
use Rattle.std.proofs.lemmas.List.Folds.{list_all-append}
use Rattle.module_graph_meaning.specs.Walks.{Dependencies}
use Rattle.turn_meaning.specs.Passes.{Pass, IsIdleOf, Joins, HasJoinedAll}
use Rattle.board_meaning.specs.Events.{Entry, History, log_of}
use Rattle.board_meaning.specs.Legal.{IsLegal}
use Rattle.board_meaning.specs.Points.{number_of, are_of_others, IsPoint}
use Rattle.board_laws.proofs.Passing.{front_knows, joins_are_seen}
use Rattle.board_laws.proofs.Pointing.{seen_point}
use Rattle.worker_crew.specs.Workers.{Worker, IsWorker, AreWorkers}
use Rattle.worker_crew.specs.Hired.{AreAllOthers}
use Rattle.worker_crew.specs.TakenIn.{BeginsWithSeen, TakesIn}

-- a point of a pass that has seen a point
point_on : (dependencies : Dependencies) (first second third : History) (pass : ℕ) → IsPoint dependencies first pass second → IsPoint dependencies second pass third → IsPoint dependencies first pass third
point_on dependencies first second third pass h k =
    record {
      goes_on = record {
        later = h.goes_on.later ++ k.goes_on.later;
        begins = k.goes_on.begins ∙ ap (λ (z : History). z ++ k.goes_on.later) h.goes_on.begins ∙ append_assoc first h.goes_on.later k.goes_on.later;
        others = list_all-append (λ (entry : Entry). not (nat_eq pass (number_of entry))) h.goes_on.later k.goes_on.later ∙ and_from (are_of_others pass h.goes_on.later) (are_of_others pass k.goes_on.later) h.goes_on.others k.goes_on.others;
      };
      legal = k.legal;
    }

module _ {Lock : Type 0} where
  pub worker_at : (dependencies : Dependencies) (lock : Lock) (crew : List (Worker Lock)) (place : ℕ) (worker : Worker Lock) → AreWorkers dependencies lock crew
      → (place < length crew) × (worker ≡ get_or crew place worker) → IsWorker dependencies lock worker
  worker_at dependencies lock crew place worker all at = subst (IsWorker dependencies lock) (sym at.1) (all place worker at.0)

  begins_on : (between after : History) → (later : History) × (after ≡ between ++ later) → (worker : Worker Lock) → BeginsWithSeen between worker → BeginsWithSeen after worker
  begins_on between after a worker b = (
    b.0 ++ a.0,
    a.1 ∙ ap (λ (z : History). z ++ a.0) b.1 ∙ append_assoc worker.pass.seen b.0 a.0,
  )

  module _ (dependencies : Dependencies) (before : Pass Lock Entry) where
    pub takes_in_none : IsLegal dependencies before.seen → TakesIn dependencies before [] before
    takes_in_none legal =
        record {
          joins = ap (λ (z : List ℕ). record before { joined = z }) (sym (append-nil before.joined));
          at_point = seen_point dependencies before.seen before.number legal;
          begins = All-nil (BeginsWithSeen before.seen);
        }

    module _ (lock : Lock) (crew : List (Worker Lock)) (between : Pass Lock Entry) (worker : Worker Lock) (after : Pass Lock Entry) where
      pub takes_in_one : TakesIn dependencies before crew between → IsWorker dependencies lock worker → Joins number_of between worker.pass after
          → TakesIn dependencies before (crew ++ worker ∷ []) after
      takes_in_one t w j =
          let q = joins_are_seen dependencies between worker.pass after t.at_point.legal w.legal j in
          let number : between.number ≡ before.number = ap (λ (p : Pass Lock Entry). p.number) t.joins in
          let joined : between.joined ++ worker.pass.number ∷ worker.pass.joined ≡ before.joined ++ map (λ (z : Worker Lock). z.pass.number) (crew ++ worker ∷ []) =
          ap (λ (z : List ℕ). between.joined ++ worker.pass.number ∷ z) w.alone
          ∙ ap (λ (p : Pass Lock Entry). p.joined ++ worker.pass.number ∷ []) t.joins
          ∙ append_assoc before.joined (map (λ (z : Worker Lock). z.pass.number) crew) (worker.pass.number ∷ [])
          ∙ ap (λ (z : List ℕ). before.joined ++ z) (sym (map-append (λ (z : Worker Lock). z.pass.number) crew (worker ∷ []))) in
          record {
            joins = j.joins ∙ ap (λ (p : Pass Lock Entry). record p { seen = after.seen; joined = between.joined ++ worker.pass.number ∷ worker.pass.joined }) t.joins
                ∙ ap (λ (z : List ℕ). record before { seen = after.seen; joined = z }) joined;
            at_point = point_on dependencies before.seen between.seen after.seen before.number t.at_point (subst (λ (n : ℕ). IsPoint dependencies between.seen n after.seen) number q.0);
            begins = All-push (BeginsWithSeen after.seen) crew worker
                (All-weaker (BeginsWithSeen between.seen) (BeginsWithSeen after.seen) (begins_on between.seen after.seen (q.0.goes_on.later, q.0.goes_on.begins)) crew t.begins)
                (q.1.goes_on.later, q.1.goes_on.begins);
          }

    module _ (crew : List (Worker Lock)) (after : Pass Lock Entry) (t : TakesIn dependencies before crew after) where
      pub log_is_known : before.number ≡ 0 → log_of after.seen ≡ log_of before.seen
      log_is_known zero = (front_knows dependencies before.seen after.seen (subst (λ (n : ℕ). IsPoint dependencies before.seen n after.seen) zero t.at_point)).0

      pub all_joined : AreAllOthers before crew → HasJoinedAll after
      all_joined all =
          let made : after.made ≡ before.made = ap (λ (p : Pass Lock Entry). p.made) t.joins in
          let joined : length after.joined ≡ length before.joined + length (map (λ (z : Worker Lock). z.pass.number) crew) =
          ap (λ (p : Pass Lock Entry). length p.joined) t.joins ∙ length-append before.joined (map (λ (z : Worker Lock). z.pass.number) crew) in
          let count = length-map crew (λ (z : Worker Lock). z.pass.number) in
          omega (arith, made, joined, count, all)

    pub is_idle : (lock : Lock) (crew : List (Worker Lock)) (after : Pass Lock Entry) → IsIdleOf lock before → TakesIn dependencies before crew after → IsIdleOf lock after
    is_idle lock crew after idle t = subst (IsIdleOf lock) (sym t.joins) (record { of = idle.of; idle = idle.idle })
