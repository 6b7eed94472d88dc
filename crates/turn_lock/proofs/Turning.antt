-- The steps within a turn keep the rule of the lock.
use Rattle.std.proofs.Common.{◌≡◌, ◌≢◌, ℕ, ◌+◌, ◌%◌, ◌^◌, ◌<◌, ◌≤◌, true, List, [], ◌∷◌, ◌++◌, length, set, refl, sym, ap, ◌∙◌, subst, arith, inl, inr, ⊎_elim, Option, Some, length-append, append_assoc}
use Rattle.std.specs.Prelude.{nat_eq}
use Rattle.std.specs.List.{count_by, sum_by}
use Rattle.std.proofs.Math.Nat.{mod-eq_of_lt}
use Rattle.std.proofs.lemmas.List.{append-nil}
use Rattle.std.proofs.lemmas.List.Sums.{sum_by-cons}
use mathlib.Core.Option as maybe
use mathlib.Core.Option.{some, none, some-injective}
use lib.ListN.{get_elem?}
use Rattle.atomic_table.specs.Table.{State, step, keeps, takes, gives, homes_after, Allows}
use Rattle.turn_meaning.specs.Numbers.{are_below}
use Rattle.turn_lock.specs.declared.view.View.{View}
use Rattle.turn_lock.specs.declared.view.Stage.{Stage}
use Rattle.turn_lock.specs.declared.view.Stage.TheVariants.{Idle, Drawn, Found, Noted}
use Rattle.turn_lock.specs.Views.{has_ticket, holds_ticket, has_turn, at_stage}
use Rattle.turn_lock.specs.Rule.{InTurn, times_in, Begins, Fits, IsHome, IsOut}
use Rattle.turn_lock.specs.Steps.{Place, IsFound, noted, entered, passed}
use Rattle.turn_lock.proofs.Counts.{set_at, each_set, sum-set, sum-at, sum-alone, sum-le_but}
use Rattle.turn_lock.proofs.Entries.{absent_none, absent_push, below_push}
use Rattle.turn_lock.proofs.Keeping.{Kept, allows, one_if, waits, holds, acts, one_there, none_there, seen_set}

-- who has made a note holds the ticket that has its turn
acts_within : (ticket serving : ℕ) (stage : Stage) → InTurn ticket serving stage → one_if (has_turn stage) ≤ one_if (holds_ticket serving stage)
acts_within ticket serving Idle h = omega arith
acts_within ticket serving (Drawn own) h = omega arith
acts_within ticket serving (Found own) h = omega arith
acts_within ticket serving (Noted own) h = let t = one_there serving own (sym h.0) in omega arith

-- what is known of a pass that has made its note
record InHand (ticket serving : ℕ) (stage : Stage) : Type 0 where
  held : one_if (holds_ticket serving stage) ≡ 1
  waited : one_if (has_ticket stage) ≡ 1
  within : serving < ticket
  only : (own : ℕ) → own ≢ serving → one_if (holds_ticket own stage) ≡ 0

in_hand : (ticket serving : ℕ) (stage : Stage) → InTurn ticket serving stage → has_turn stage ≡ true → InHand ticket serving stage
in_hand ticket serving Idle h t = absurd (cc t)
in_hand ticket serving (Drawn own) h t = absurd (cc t)
in_hand ticket serving (Found own) h t = absurd (cc t)
in_hand ticket serving (Noted own) h t =
    record { held = one_there serving own (sym h.0); waited = refl; within = omega arith; only = λ other ne. none_there other own (λ e. ne (e ∙ h.0)) }

-- the turn goes to the next ticket, which others may hold
in_next_turn : (ticket serving : ℕ) (stage : Stage) → InTurn ticket serving stage → one_if (holds_ticket serving stage) ≡ 0 → InTurn ticket (serving + 1) stage
in_next_turn ticket serving Idle h free = tt
in_next_turn ticket serving (Drawn own) h free = let ne : own ≢ serving = λ e. absurd (let t = one_there serving own (sym e) in omega arith) in (omega arith, h.1)
in_next_turn ticket serving (Found own) h free = absurd (let t = one_there serving own (sym h.0) in omega arith)
in_next_turn ticket serving (Noted own) h free = absurd (let t = one_there serving own (sym h.0) in omega arith)

module _ {T E : Type 0} (entries_of : T → List E) (number_of : E → ℕ) where
  abbrev K : State (Option T) (View E) → Type 0
  K = Kept entries_of number_of

  -- where a pass holds the ticket that has its turn, no other has made a note
  most : (s : State (Option T) (View E)) (kept : K s) (id : ℕ) (v : View E) → get_elem? s.views id ≡ some v → holds kept.serving v ≡ 1 → sum_by (acts {E = E}) s.views ≤ acts v
  most s kept id v at mine =
      let t = sum-le_but (acts {E = E}) (holds {E = E} kept.serving) s.views id v at (λ j u e. acts_within kept.ticket kept.serving u.stage (kept.each j u e).turn) in
      let one = kept.differ kept.serving in
      omega (arith, t, one, mine)

  -- the value is home while a pass has found its turn
  home_found : (s : State (Option T) (View E)) (kept : K s) (id : ℕ) (v : View E) → get_elem? s.views id ≡ some v → v.stage ≡ Found kept.serving → IsHome entries_of kept.history s.homes s.views
  home_found s kept id v at is =
      let mine : holds kept.serving v ≡ 1 = ap (λ (x : Stage). one_if (holds_ticket kept.serving x)) is ∙ one_there kept.serving kept.serving refl in
      let idle : acts v ≡ 0 = ap (λ (x : Stage). one_if (has_turn x)) is in
      let few = most s kept id v at mine in
      ⊎_elim (λ (h : IsHome entries_of kept.history s.homes s.views). h) (λ (out : IsOut entries_of s.homes s.views). absurd (omega (arith, out.one, few, idle))) kept.value

  -- the value is out while a pass has its turn
  out_turn : (s : State (Option T) (View E)) (kept : K s) (id : ℕ) (v : View E) → get_elem? s.views id ≡ some v → has_turn v.stage ≡ true → IsOut entries_of s.homes s.views
  out_turn s kept id v at turn =
      let here : acts v ≡ 1 = ap one_if turn in
      let there = sum-at (acts {E = E}) s.views id v at in
      ⊎_elim (λ (h : IsHome entries_of kept.history s.homes s.views). absurd (omega (arith, h.nobody, there, here))) (λ (out : IsOut entries_of s.homes s.views). out) kept.value

  abbrev noted_view : ℕ → T → View E → View E
  noted_view own x v = record v { stage = Noted own; seen = entries_of x }

  noted_kept : (s : State (Option T) (View E)) (kept : K s) (id : ℕ) (v : View E) → get_elem? s.views id ≡ some v → v.stage ≡ Found kept.serving → 0 < length v.numbers → (home : IsHome entries_of kept.history s.homes s.views)
      → K record { words = kept.ticket ∷ kept.serving ∷ length kept.history ∷ []; homes = none ∷ []; views = set s.views id (noted_view kept.serving home.value v) }
  noted_kept s kept id v at is named home =
      let w : View E = noted_view kept.serving home.value v in
      let waited : waits v ≡ 1 = ap (λ (x : Stage). one_if (has_ticket x)) is in
      let waiting = sum-set (waits {E = E}) s.views id v w at in
      let acted : acts v ≡ 0 = ap (λ (x : Stage). one_if (has_turn x)) is in
      let acting = sum-set (acts {E = E}) s.views id v w at in
      let mine = kept.each id v at in
      let turn : InTurn kept.ticket kept.serving (Found kept.serving) = subst (InTurn kept.ticket kept.serving) is mine.turn in
      record {
        ticket = kept.ticket;
        serving = kept.serving;
        made = kept.made;
        history = kept.history;
        words = refl;
        fits = kept.fits;
        tickets = omega (arith, kept.tickets, waiting, waited);
        differ = λ own. let held = sum-set (holds {E = E} own) s.views id v w at in let before = kept.differ own in
            let was : holds own v ≡ one_if (nat_eq own kept.serving) = ap (λ (x : Stage). one_if (holds_ticket own x)) is in
            omega (arith, held, was, before);
        numbers_differ = λ number. let t = sum-set (times_in {E = E} number) s.views id v w at in let b = kept.numbers_differ number in omega arith;
        numbers_below = λ number there. let t = sum-set (times_in {E = E} number) s.views id v w at in kept.numbers_below number (omega arith);
        entries_below = kept.entries_below;
        each = each_set (Fits number_of kept.ticket kept.serving kept.made kept.history) s.views id w
            (record {
              turn = turn;
              own = record { later = []; begins = sym home.entries ∙ sym (append-nil (entries_of home.value)); others = absent_none number_of v.numbers };
              other = mine.other;
              whole = λ e. home.entries;
              lives = λ e. named;
              keeps_made = mine.keeps_made;
            })
            (λ j u ne e. kept.each j u e);
        seen = seen_set entries_of number_of kept.history s.views id v w kept.seen at (⊎_elim (λ (h : (0 < length v.numbers) × (v.seen ≡ kept.history)). inl (h.0, home.entries)) (λ (h : (0 < length v.other_numbers) × (v.other_seen ≡ kept.history)). inr h));
        value = inr (record { slot = refl; one = omega (arith, acting, acted, home.nobody) });
      }

  pub notes : (slots id : ℕ) (me : Place T E) → IsFound me.0.stage → 0 < length me.0.numbers → me.1 ≡ [] → Allows K slots id me 2 (λ n. n) (noted entries_of number_of (step slots 2 0 0 none) me)
  notes slots id me is named empty = allows entries_of number_of slots id me 2 (λ n. n) (noted entries_of number_of (step slots 2 0 0 none) me)
      (λ s kept at.
      let mine = kept.each id me.0 at in
      let turn : InTurn kept.ticket kept.serving (Found is.0) = subst (InTurn kept.ticket kept.serving) is.1 mine.turn in
      let own : me.0.stage ≡ Found kept.serving = is.1 ∙ ap (λ (k : ℕ). Found k) turn.0 in
      let home = home_found s kept id me.0 at own in
      let x : T = home.value in (
        noted_view kept.serving x me.0,
        takes 0 (Some x),
        ap (λ (h : List (maybe.Option (Option T))). get_elem? h 0) home.slot,
        subst (λ (h : List (maybe.Option (Option T))). K record { words = kept.ticket ∷ kept.serving ∷ length kept.history ∷ []; homes = set h 0 none; views = set s.views id (noted_view kept.serving x me.0) })
            (sym home.slot) (noted_kept s kept id me.0 at own named home),
        (λ own' is'.
            let same : kept.serving ≡ own' = cc (own, is') in
            record {
              value = x;
              goes_on = subst (Begins number_of me.0.numbers me.0.seen) (sym home.entries) mine.own;
              below = λ joined first. subst (λ (z : ℕ × List E). are_below number_of z.0 z.1 ≡ true) (λ i. (sym (mine.keeps_made joined first) i, sym home.entries i)) kept.entries_below;
              count = ap length (sym home.entries);
              after_is = λ i. (noted_view (same i) x me.0, (0, Some x) ∷ empty i);
            }),
      ))

  -- an own number stands among the numbers of its view
  own_times : (number own : ℕ) (joined : List ℕ) (v : View E) → v.numbers ≡ own ∷ joined → number ≡ own → 0 < count_by (nat_eq number) v.numbers
  own_times number own joined v is same =
      let there = one_there number own same in
      subst (λ (ns : List ℕ). 0 < count_by (nat_eq number) ns) (sym is) (omega (arith, there, sum_by-cons (λ (m : ℕ). one_if (nat_eq number m)) own joined))

  abbrev more_seen : List E → View E → View E
  more_seen added v = record v { seen = v.seen ++ added }

  -- the history goes on, and a view that lacks the number of the new entry has begun it still
  goes_further : (numbers : List ℕ) (seen history : List E) (e : E) → Begins number_of numbers seen history → count_by (nat_eq (number_of e)) numbers ≡ 0 → Begins number_of numbers seen (history ++ e ∷ [])
  goes_further numbers seen history e b free =
      record {
        later = b.later ++ e ∷ [];
        begins = ap (λ (h : List E). h ++ e ∷ []) b.begins ∙ append_assoc seen b.later (e ∷ []);
        others = absent_push number_of b.later e numbers b.others free;
      }

  entered_kept : (s : State (Option T) (View E)) (kept : K s) (id : ℕ) (v : View E) (own : ℕ) (joined : List ℕ) (e : E) → get_elem? s.views id ≡ some v → has_turn v.stage ≡ true → v.numbers ≡ own ∷ joined → number_of e ≡ own
      → K record { words = kept.ticket ∷ kept.serving ∷ (length kept.history + 1) ∷ []; homes = s.homes; views = set s.views id (more_seen (e ∷ []) v) }
  entered_kept s kept id v own joined e at turn is mark =
      let w : View E = more_seen (e ∷ []) v in
      let number : ℕ = number_of e in
      let mine = kept.each id v at in
      let all : v.seen ≡ kept.history = mine.whole turn in
      let out = out_turn s kept id v at turn in
      let here : acts v ≡ 1 = ap one_if turn in
      let listed : 0 < count_by (nat_eq number) v.numbers = own_times number own joined v is mark in
      let counted : 0 < times_in number v = omega arith in
      let there = sum-at (times_in {E = E} number) s.views id v at in
      let most_one = kept.numbers_differ number in
      let alone : (j : ℕ) (u : View E) → j ≢ id → get_elem? s.views j ≡ some u → times_in number u ≡ 0 = λ j u ne d. sum-alone (times_in {E = E} number) s.views id j v u at counted most_one d ne in
      record {
        ticket = kept.ticket;
        serving = kept.serving;
        made = kept.made;
        history = kept.history ++ e ∷ [];
        words = ap (λ (n : ℕ). kept.ticket ∷ kept.serving ∷ n ∷ []) (sym (length-append kept.history (e ∷ [])));
        fits = kept.fits;
        tickets = let waiting = sum-set (waits {E = E}) s.views id v w at in omega (arith, kept.tickets, waiting);
        differ = λ other. let held = sum-set (holds {E = E} other) s.views id v w at in let before = kept.differ other in omega (arith, held, before);
        numbers_differ = λ n. let t = sum-set (times_in {E = E} n) s.views id v w at in let b = kept.numbers_differ n in omega arith;
        numbers_below = λ n h. let t = sum-set (times_in {E = E} n) s.views id v w at in kept.numbers_below n (omega arith);
        entries_below = below_push number_of kept.made kept.history e kept.entries_below (kept.numbers_below number (omega arith));
        each = each_set (Fits number_of kept.ticket kept.serving kept.made (kept.history ++ e ∷ [])) s.views id w
            (record {
              turn = mine.turn;
              own = record { later = []; begins = ap (λ (h : List E). h ++ e ∷ []) (sym all) ∙ sym (append-nil (v.seen ++ e ∷ [])); others = absent_none number_of v.numbers };
              other = goes_further v.other_numbers v.other_seen kept.history e mine.other (omega arith);
              whole = λ t. ap (λ (h : List E). h ++ e ∷ []) all;
              lives = mine.lives;
              keeps_made = mine.keeps_made;
            })
            (λ j u ne d. let fit = kept.each j u d in let free = alone j u ne d in
            record {
              turn = fit.turn;
              own = goes_further u.numbers u.seen kept.history e fit.own (omega arith);
              other = goes_further u.other_numbers u.other_seen kept.history e fit.other (omega arith);
              whole = λ t. absurd (let none_else = sum-alone (acts {E = E}) s.views id j v u at (omega arith) (omega (arith, out.one)) d ne in let acted : acts u ≡ 1 = ap one_if t in omega arith);
              lives = fit.lives;
              keeps_made = fit.keeps_made;
            });
        seen = record { id = id; view = w; at = set_at s.views id v w at; all = inl (subst (λ (ns : List ℕ). 0 < length ns) (sym is) (omega arith), ap (λ (h : List E). h ++ e ∷ []) all) };
        value = inr (record { slot = out.slot; one = let acting = sum-set (acts {E = E}) s.views id v w at in omega (arith, acting, out.one) });
      }

  pub enters : (slots id : ℕ) (me : Place T E) (own : ℕ) (joined : List ℕ) (e : E) (added : List E) → has_turn me.0.stage ≡ true → me.0.numbers ≡ own ∷ joined → number_of e ≡ own → added ≡ e ∷ []
      → length me.0.seen + 1 < 18446744073709551616 → Allows K slots id me 2 (λ n. (n + 1) % 2 ^ 64) (entered added (step slots 2 1 0 none) me)
  enters slots id me own joined e added turn is mark one room = allows entries_of number_of slots id me 2 (λ n. (n + 1) % 2 ^ 64) (entered added (step slots 2 1 0 none) me)
      (λ s kept at.
      let all : me.0.seen ≡ kept.history = (kept.each id me.0 at).whole turn in
      let long : length me.0.seen ≡ length kept.history = ap length all in
      let fits : length kept.history + 1 < 2 ^ 64 = omega (arith, long, room) in
      let sum : (length kept.history + 1) % 2 ^ 64 ≡ length kept.history + 1 = mod-eq_of_lt fits in (
        more_seen added me.0,
        keeps,
        tt,
        subst (λ (z : ℕ × List E). K record { words = kept.ticket ∷ kept.serving ∷ z.0 ∷ []; homes = s.homes; views = set s.views id (more_seen z.1 me.0) }) (λ i. (sym sum i, sym one i))
            (entered_kept s kept id me.0 own joined e at turn is mark),
        refl,
      ))

  passed_kept : (s : State (Option T) (View E)) (kept : K s) (id : ℕ) (v : View E) (x : T) → get_elem? s.views id ≡ some v → has_turn v.stage ≡ true → entries_of x ≡ v.seen
      → K record { words = kept.ticket ∷ (kept.serving + 1) ∷ length kept.history ∷ []; homes = some (Some x) ∷ []; views = set s.views id (at_stage Idle v) }
  passed_kept s kept id v x at turn same =
      let w : View E = at_stage Idle v in
      let mine = kept.each id v at in
      let all : v.seen ≡ kept.history = mine.whole turn in
      let hand = in_hand kept.ticket kept.serving v.stage mine.turn turn in
      let few = most s kept id v at hand.held in
      let acting = sum-set (acts {E = E}) s.views id v w at in
      let acted : acts v ≡ 1 = ap one_if turn in
      let one = kept.differ kept.serving in
      record {
        ticket = kept.ticket;
        serving = kept.serving + 1;
        made = kept.made;
        history = kept.history;
        words = refl;
        fits = kept.fits;
        tickets = let waiting = sum-set (waits {E = E}) s.views id v w at in omega (arith, kept.tickets, waiting, hand.waited);
        differ = λ own. let held = sum-set (holds {E = E} own) s.views id v w at in let before = kept.differ own in omega (arith, held, before);
        numbers_differ = λ n. let t = sum-set (times_in {E = E} n) s.views id v w at in let b = kept.numbers_differ n in omega arith;
        numbers_below = λ n h. let t = sum-set (times_in {E = E} n) s.views id v w at in kept.numbers_below n (omega arith);
        entries_below = kept.entries_below;
        each = each_set (Fits number_of kept.ticket (kept.serving + 1) kept.made kept.history) s.views id w
            (record { turn = tt; own = mine.own; other = mine.other; whole = λ t. absurd (cc t); lives = λ t. absurd (cc t); keeps_made = mine.keeps_made })
            (λ j u ne d. let fit = kept.each j u d in
            record {
              turn = in_next_turn kept.ticket kept.serving u.stage fit.turn (sum-alone (holds {E = E} kept.serving) s.views id j v u at (omega (arith, hand.held)) one d ne);
              own = fit.own;
              other = fit.other;
              whole = fit.whole;
              lives = fit.lives;
              keeps_made = fit.keeps_made;
            });
        seen = seen_set entries_of number_of kept.history s.views id v w kept.seen at (λ h. h);
        value = inl (record { value = x; slot = refl; entries = same ∙ all; nobody = omega (arith, acting, acted, few) });
      }

  pub passes : (slots id : ℕ) (me : Place T E) (x : T) → has_turn me.0.stage ≡ true → me.1 ≡ (0, Some x) ∷ [] → entries_of x ≡ me.0.seen
      → Allows K slots id me 1 (λ n. (n + 1) % 2 ^ 64) (passed (step slots 1 1 0 none) me)
  passes slots id me x turn carried same = allows entries_of number_of slots id me 1 (λ n. (n + 1) % 2 ^ 64) (passed (step slots 1 1 0 none) me)
      (λ s kept at.
      let mine = kept.each id me.0 at in
      let hand = in_hand kept.ticket kept.serving me.0.stage mine.turn turn in
      let fits : kept.serving + 1 < 2 ^ 64 = omega (arith, hand.within, kept.fits) in
      let sum : (kept.serving + 1) % 2 ^ 64 ≡ kept.serving + 1 = mod-eq_of_lt fits in
      let out = out_turn s kept id me.0 at turn in
      let home : homes_after s.homes me.1 gives ≡ some (Some x) ∷ [] = λ i. homes_after (out.slot i) (carried i) gives in (
        at_stage Idle me.0,
        gives,
        tt,
        subst (λ (z : ℕ × List (maybe.Option (Option T))). K record { words = kept.ticket ∷ z.0 ∷ length kept.history ∷ []; homes = z.1; views = set s.views id (at_stage Idle me.0) }) (λ i. (sym sum i, sym home i))
            (passed_kept s kept id me.0 x at turn same),
        refl,
      ))
