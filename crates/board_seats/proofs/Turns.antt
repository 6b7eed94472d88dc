-- A call of the board in a turn, as a call through the pass that has the turn.
use Rattle.std.proofs.Common.{◌≡◌, ℕ, true, false, [], ◌∷◌, ◌++◌, inl, inr, Option, Some, None, option_map, option_to_list, refl, sym, ap, ◌∙◌, subst, append-nil, eq-eqb}
use Rattle.module_graph_meaning.specs.Walks.{Dependencies}
use Rattle.module_graph_meaning.specs.Subject.{Subject}
use Rattle.edit_log_meaning.specs.Log.{Edit}
use Rattle.turn_meaning.specs.Passes.{Pass, Takes, MayGive, after_turn}
use Rattle.board_meaning.specs.Events.{Event, Entry, History, entry_of}
use Rattle.board_meaning.specs.Machine.{Call, EditCall, ClaimCall, CloseCall, event_of, may_call, after_call}
use Rattle.board_meaning.specs.Legal.{IsLegal}
use Rattle.board_meaning.specs.Points.{number_of, are_below, IsPoint, BoardCall, Makes, Reply, reply_to, reply_of, may_ask, added_by, takes_memory}
use Rattle.board_seats.specs.Seats.{Keeps, IsRepliedTo, IsWithoutMemory}

-- an edit and a close are made by pass 0
pub may_edit : (point : History) (pass : ℕ) (edit : Edit) → pass ≡ 0 → may_call point pass (EditCall edit) ≡ true
unfolding may_call
may_edit point pass edit zero = eq-eqb pass 0 zero

pub may_close : (point : History) (pass : ℕ) → pass ≡ 0 → may_call point pass CloseCall ≡ true
unfolding may_call
may_close point pass zero = eq-eqb pass 0 zero

-- any pass may claim
pub may_claim : (point : History) (pass : ℕ) → may_call point pass ClaimCall ≡ true
unfolding may_call
may_claim point pass = refl

module _ {Lock : Type 0} (before : Pass Lock Entry) (point : History) (taken : Pass Lock Entry) (takes : Takes number_of before point taken) where
  pub number_is : taken.number ≡ before.number
  number_is = ap (λ (p : Pass Lock Entry). p.number) takes.sees

  pub seen_is : taken.seen ≡ point
  seen_is = ap (λ (p : Pass Lock Entry). p.seen) takes.sees

  -- what a call leaves may be given back
  pub may_give : (dependencies : Dependencies) (call : Call) (number : ℕ) → number ≡ taken.number → (after : History)
      → after ≡ after_call dependencies point number call → MayGive number_of taken after
  unfolding after_call
  may_give dependencies call number same after a = by (event_of dependencies point call) a
    where
      by : (o : Option Event) → after ≡ point ++ option_to_list (option_map (entry_of point number) o) → MayGive number_of taken after
      by None e = inl (e ∙ append-nil point ∙ sym seen_is)
      by (Some event) e =
          inr (record { entry = entry_of point number event; own = same; last = e ∙ ap (λ (h : History). h ++ entry_of point number event ∷ []) (sym seen_is) })

  -- what was left as it was may be given back
  pub may_give_same : (after : History) → after ≡ point → MayGive number_of taken after
  may_give_same after a = inl (a ∙ sym seen_is)

  module _ (after : History) (given : Pass Lock Entry) (idle : before.has_turn ≡ false) (gives : given ≡ after_turn taken after) where
    pub sees : given.seen ≡ after
    sees = ap (λ (p : Pass Lock Entry). p.seen) gives

    pub keeps : Keeps before given
    keeps = gives ∙ ap (λ (p : Pass Lock Entry). after_turn p after) takes.sees
        ∙ (λ i. record before { has_turn = sym idle i; seen = sym sees i })

    module _ {Meaning : Type 0} (subject : Subject Meaning) (legal : IsLegal subject.dependencies point) where
      pub is_point : IsPoint subject.dependencies before.seen before.number point
      is_point = record { goes_on = takes.goes_on; legal = legal }

      -- a reply at the point
      pub replied : (call : BoardCall) (reply : Reply Meaning) → may_ask point before.number call ≡ true → reply ≡ reply_of subject point call
          → after ≡ point ++ added_by subject.dependencies point before.number call → IsRepliedTo subject before call reply given
      replied call reply may r a =
          record {
            keeps = keeps;
            happens = record { point = point; at_point = is_point; may = may; replies = r; sees = sees ∙ a };
            below = takes.below;
          }

      -- a reply to a call that may make an entry
      pub made : (call : Call) (reply : Reply Meaning) (number : ℕ) → number ≡ taken.number → may_call point before.number call ≡ true → reply ≡ reply_to subject point call
          → after ≡ after_call subject.dependencies point number call → IsRepliedTo subject before (Makes call) reply given
      unfolding after_call
      made call reply number same may r a =
          replied (Makes call) reply may r (a ∙ ap (λ (n : ℕ). point ++ option_to_list (option_map (entry_of point n) (event_of subject.dependencies point call))) (same ∙ number_is))

      -- a reply to a question
      pub told : (call : BoardCall) (reply : Reply Meaning) → may_ask point before.number call ≡ true → reply ≡ reply_of subject point call
          → added_by subject.dependencies point before.number call ≡ [] → after ≡ point → IsRepliedTo subject before call reply given
      told call reply may r none a = replied call reply may r (a ∙ sym (append-nil point) ∙ ap (λ (h : History). point ++ h) (sym none))

      -- no memory at the point
      pub wanted : (call : BoardCall) → may_ask point before.number call ≡ true → takes_memory subject point call ≡ true → after ≡ point → IsWithoutMemory subject before call given
      wanted call may t a =
          record {
            keeps = keeps;
            finds = record { point = point; at_point = is_point; may = may; takes = t; sees = sees ∙ a };
            below = λ zero. subst (λ (h : History). are_below before.made h ≡ true) (sym (sees ∙ a)) (takes.below zero);
          }
