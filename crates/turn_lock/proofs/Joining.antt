-- Joining keeps the rule of the lock.
use Rattle.std.proofs.Common.{◌≡◌, ◌≢◌, ℕ, ◌+◌, ◌<◌, ◌≤◌, Bool, true, false, List, [], ◌∷◌, ◌++◌, length, set, refl, sym, ap, ◌∙◌, subst, arith, inl, inr, ⊎_elim, cond, Option, length-append}
use Rattle.std.specs.Prelude.{nat_eq, nat_lt}
use Rattle.std.specs.List.{count_by, sum_by}
use Rattle.std.proofs.lemmas.List.{append-nil}
use Rattle.std.proofs.lemmas.List.Sums.{sum_by-append}
use Rattle.std.proofs.lemmas.Bool.Decides.{nat_tests}
use mathlib.Core.Option.{some, none, some-injective}
use mathlib.Core.Logic.{dite}
use native.Mathlib.Decide.{ℕ_discrete}
use lib.ListN.{get_elem?}
use Rattle.atomic_table.specs.Table.{State, step, keeps, Allows, Joins}
use Rattle.atomic_table.proofs.Lists.{set_else}
use Rattle.turn_lock.specs.declared.view.View.{View}
use Rattle.turn_lock.specs.declared.view.Stage.{Stage}
use Rattle.turn_lock.specs.declared.view.Stage.TheVariants.{Idle}
use Rattle.turn_lock.specs.Views.{has_ticket, holds_ticket, has_turn, with_other, spent_view, longer, joined_view}
use Rattle.turn_lock.specs.Rule.{times_in, Begins, Fits, HasSeenAll, IsSeen, IsHome, IsOut}
use Rattle.turn_lock.specs.Steps.{Place, IsAlone, merged}
use Rattle.turn_lock.proofs.Beginnings.{further, longer-first, longer-second}
use Rattle.turn_lock.proofs.Counts.{set_at, each_set, sum-set}
use Rattle.turn_lock.proofs.Entries.{absent_none, absent_append, absent_before, absent_behind, AreAbsent}
use Rattle.turn_lock.proofs.Keeping.{Kept, allows, one_if, waits, holds, acts, seen_set}

module _ {T E : Type 0} (entries_of : T → List E) (number_of : E → ℕ) where
  abbrev K : State (Option T) (View E) → Type 0
  K = Kept entries_of number_of

  no_times : (number : ℕ) (v : View E) → v.other_numbers ≡ [] → times_in number v ≡ count_by (nat_eq number) v.numbers
  no_times number v none_kept = let t : count_by (nat_eq number) v.other_numbers ≡ 0 = ap (λ (ns : List ℕ). count_by (nat_eq number) ns) none_kept in omega arith

  module _ (s : State (Option T) (View E)) (kept : K s) (id other : ℕ) (v w : View E) (at : get_elem? s.views id ≡ some v) (apart : ¬ (other ≡ id)) (there : get_elem? (set s.views id (with_other v w)) other ≡ some w)
      (mine : IsAlone v) (theirs : IsAlone w) where
    abbrev beside : List (View E)
    beside = set (set s.views id (with_other v w)) other spent_view

    was_there : get_elem? s.views other ≡ some w
    was_there = sym (set_else s.views id other (with_other v w) apart) ∙ there

    beside_sum : (f : View E → ℕ) → f (with_other v w) + f spent_view ≡ f v + f w → sum_by f beside ≡ sum_by f s.views
    beside_sum f same = let a = sum-set f (set s.views id (with_other v w)) other w spent_view there in let b = sum-set f s.views id v (with_other v w) at in omega arith

    staged : (f : Stage → ℕ) → f Idle ≡ 0 → f v.stage + f Idle ≡ f v.stage + f w.stage
    staged f none_idle = let t : f w.stage ≡ f Idle = ap f theirs.idle in omega arith

    times_beside : (number : ℕ) → times_in number (with_other v w) + times_in number (spent_view {E = E}) ≡ times_in number v + times_in number w
    times_beside number = let a = no_times number v mine.no_numbers in let b = no_times number w theirs.no_numbers in omega arith

    at_id : get_elem? beside id ≡ some (with_other v w)
    at_id = set_else (set s.views id (with_other v w)) other id spent_view (λ e. apart (sym e)) ∙ set_at s.views id v (with_other v w) at

    beside_seen : IsSeen kept.history beside
    beside_seen = dite (ℕ_discrete kept.seen.id id)
        (λ (e : kept.seen.id ≡ id).
        let is : kept.seen.view ≡ v = some-injective kept.seen.view v (sym kept.seen.at ∙ (ap (get_elem? s.views) e ∙ at)) in
        record {
          id = id;
          view = with_other v w;
          at = at_id;
          all = ⊎_elim (λ (h : (0 < length v.numbers) × (v.seen ≡ kept.history)). inl h)
              (λ (h : (0 < length v.other_numbers) × (v.other_seen ≡ kept.history)). absurd (let none_kept : length v.other_numbers ≡ 0 = ap length mine.no_numbers in let some_kept = h.0 in omega arith))
              (subst (HasSeenAll kept.history) is kept.seen.all);
        })
        (λ (ne : kept.seen.id ≢ id). dite (ℕ_discrete kept.seen.id other)
        (λ (e : kept.seen.id ≡ other).
        let is : kept.seen.view ≡ w = some-injective kept.seen.view w (sym kept.seen.at ∙ (ap (get_elem? s.views) e ∙ was_there)) in
        record {
          id = id;
          view = with_other v w;
          at = at_id;
          all = ⊎_elim (λ (h : (0 < length w.numbers) × (w.seen ≡ kept.history)). inr h)
              (λ (h : (0 < length w.other_numbers) × (w.other_seen ≡ kept.history)). absurd (let none_kept : length w.other_numbers ≡ 0 = ap length theirs.no_numbers in let some_kept = h.0 in omega arith))
              (subst (HasSeenAll kept.history) is kept.seen.all);
        })
        (λ (ne' : kept.seen.id ≢ other). record {
          id = kept.seen.id;
          view = kept.seen.view;
          at = set_else (set s.views id (with_other v w)) other kept.seen.id spent_view ne' ∙ (set_else s.views id kept.seen.id (with_other v w) ne ∙ kept.seen.at);
          all = kept.seen.all;
        }))

    beside_fits : (j : ℕ) (u : View E) → get_elem? beside j ≡ some u → Fits number_of kept.ticket kept.serving kept.made kept.history u
    beside_fits = each_set (Fits number_of kept.ticket kept.serving kept.made kept.history) (set s.views id (with_other v w)) other spent_view
        (record {
          turn = tt;
          own = record { later = kept.history; begins = refl; others = refl };
          other = record { later = kept.history; begins = refl; others = refl };
          whole = λ t. absurd (cc t);
          lives = λ t. absurd (cc t);
          keeps_made = λ js is. absurd (cc is);
        })
        (λ j u ne d. each_set (Fits number_of kept.ticket kept.serving kept.made kept.history) s.views id (with_other v w)
        (let here = kept.each id v at in let gone = kept.each other w was_there in
        record { turn = here.turn; own = here.own; other = gone.own; whole = here.whole; lives = here.lives; keeps_made = here.keeps_made })
        (λ k x ne' d'. kept.each k x d') j u d)

    beside_kept : K record { words = s.words; homes = s.homes; views = beside }
    beside_kept = record {
      ticket = kept.ticket;
      serving = kept.serving;
      made = kept.made;
      history = kept.history;
      words = kept.words;
      fits = kept.fits;
      tickets = let t = beside_sum (waits {E = E}) (staged (λ x. one_if (has_ticket x)) refl) in omega (arith, kept.tickets, t);
      differ = λ own. let t = beside_sum (holds {E = E} own) (staged (λ x. one_if (holds_ticket own x)) refl) in let b = kept.differ own in omega (arith, t, b);
      numbers_differ = λ number. let t = beside_sum (times_in {E = E} number) (times_beside number) in let b = kept.numbers_differ number in omega arith;
      numbers_below = λ number some_there. let t = beside_sum (times_in {E = E} number) (times_beside number) in kept.numbers_below number (omega arith);
      entries_below = kept.entries_below;
      each = beside_fits;
      seen = beside_seen;
      value = let acting = beside_sum (acts {E = E}) (staged (λ x. one_if (has_turn x)) refl) in ⊎_elim
          (λ (home : IsHome entries_of kept.history s.homes s.views). inl (record { value = home.value; slot = home.slot; entries = home.entries; nobody = omega (arith, acting, home.nobody) }))
          (λ (out : IsOut entries_of s.homes s.views). inr (record { slot = out.slot; one = omega (arith, acting, out.one) }))
          kept.value;
    }

  pub joins : (id : ℕ) (v : View E) (other : ℕ) (w : View E) → IsAlone v → IsAlone w → Joins K id v other w (with_other v w) spent_view
  joins id v other w mine theirs s kept at apart there = beside_kept s kept id other v w at apart there mine theirs

  -- Both lists begin the history: so both begin the longer, which begins the history.
  record AreMerged (v : View E) (history : List E) : Type 0 where
    goes_on : Begins number_of v.numbers v.seen (longer v.seen v.other_seen)
    other_goes_on : Begins number_of v.other_numbers v.other_seen (longer v.seen v.other_seen)
    own : Begins number_of (v.numbers ++ v.other_numbers) (longer v.seen v.other_seen) history

  self : (numbers : List ℕ) (xs ys : List E) → ys ≡ xs → Begins number_of numbers xs ys
  self numbers xs ys e = record { later = []; begins = e ∙ sym (append-nil xs); others = absent_none number_of numbers }

  merge_at : (v : View E) (history : List E) → Begins number_of v.numbers v.seen history → Begins number_of v.other_numbers v.other_seen history → (b : Bool) → nat_lt (length v.seen) (length v.other_seen) ≡ b → AreMerged v history
  merge_at v history own other true is =
      let le : length v.seen ≤ length v.other_seen = grind (arith, nat_tests) in
      let f = further v.seen v.other_seen own.later other.later (sym own.begins ∙ other.begins) le in
      let long : longer v.seen v.other_seen ≡ v.other_seen = ap (λ (b : Bool). cond b v.other_seen v.seen) is in
      let split_own : AreAbsent number_of (f.between ++ other.later) v.numbers = subst (λ (l : List E). AreAbsent number_of l v.numbers) f.ends own.others in
      record {
        goes_on = record { later = f.between; begins = long ∙ f.begins; others = absent_before number_of f.between other.later v.numbers split_own };
        other_goes_on = self v.other_numbers v.other_seen (longer v.seen v.other_seen) long;
        own = record {
          later = other.later;
          begins = other.begins ∙ ap (λ (l : List E). l ++ other.later) (sym long);
          others = absent_append number_of other.later v.numbers v.other_numbers (absent_behind number_of f.between other.later v.numbers split_own) other.others;
        };
      }
  merge_at v history own other false is =
      let le : length v.other_seen ≤ length v.seen = grind (arith, nat_tests) in
      let f = further v.other_seen v.seen other.later own.later (sym other.begins ∙ own.begins) le in
      let long : longer v.seen v.other_seen ≡ v.seen = ap (λ (b : Bool). cond b v.other_seen v.seen) is in
      let split_other : AreAbsent number_of (f.between ++ own.later) v.other_numbers = subst (λ (l : List E). AreAbsent number_of l v.other_numbers) f.ends other.others in
      record {
        goes_on = self v.numbers v.seen (longer v.seen v.other_seen) long;
        other_goes_on = record { later = f.between; begins = long ∙ f.begins; others = absent_before number_of f.between own.later v.other_numbers split_other };
        own = record {
          later = own.later;
          begins = own.begins ∙ ap (λ (l : List E). l ++ own.later) (sym long);
          others = absent_append number_of own.later v.numbers v.other_numbers own.others (absent_behind number_of f.between own.later v.other_numbers split_other);
        };
      }

  all_merged : (v : View E) (history : List E) → Begins number_of v.numbers v.seen history → Begins number_of v.other_numbers v.other_seen history → HasSeenAll history v → HasSeenAll history (joined_view v)
  all_merged v history own other =
      ⊎_elim
      (λ (h : (0 < length v.numbers) × (v.seen ≡ history)). let some_kept = h.0 in
      inl (omega (arith, length-append v.numbers v.other_numbers), longer-first v.seen v.other_seen other.later (h.1 ∙ other.begins) ∙ h.1))
      (λ (h : (0 < length v.other_numbers) × (v.other_seen ≡ history)). let some_kept = h.0 in
      inl (omega (arith, length-append v.numbers v.other_numbers), longer-second v.seen v.other_seen own.later (h.1 ∙ own.begins) ∙ h.1))

  merged_kept : (s : State (Option T) (View E)) (kept : K s) (id : ℕ) (v : View E) (own : ℕ) (joined : List ℕ) → get_elem? s.views id ≡ some v → v.stage ≡ Idle → v.numbers ≡ own ∷ joined
      → K record { words = kept.ticket ∷ kept.serving ∷ length kept.history ∷ []; homes = s.homes; views = set s.views id (joined_view v) }
  merged_kept s kept id v own joined at idle is =
      let w : View E = joined_view v in
      let mine = kept.each id v at in
      let are = merge_at v kept.history mine.own mine.other (nat_lt (length v.seen) (length v.other_seen)) refl in
      record {
        ticket = kept.ticket;
        serving = kept.serving;
        made = kept.made;
        history = kept.history;
        words = refl;
        fits = kept.fits;
        tickets = let t = sum-set (waits {E = E}) s.views id v w at in omega (arith, kept.tickets, t);
        differ = λ n. let t = sum-set (holds {E = E} n) s.views id v w at in let b = kept.differ n in omega (arith, t, b);
        numbers_differ = λ n. let t = sum-set (times_in {E = E} n) s.views id v w at in let b = kept.numbers_differ n in
            omega (arith, sum_by-append (λ (m : ℕ). one_if (nat_eq n m)) v.numbers v.other_numbers);
        numbers_below = λ n h. let t = sum-set (times_in {E = E} n) s.views id v w at in
            kept.numbers_below n (omega (arith, sum_by-append (λ (m : ℕ). one_if (nat_eq n m)) v.numbers v.other_numbers));
        entries_below = kept.entries_below;
        each = each_set (Fits number_of kept.ticket kept.serving kept.made kept.history) s.views id w
            (record {
              turn = mine.turn;
              own = are.own;
              other = record { later = kept.history; begins = refl; others = refl };
              whole = λ t. absurd (let off : has_turn v.stage ≡ false = ap has_turn idle in cc (t, off));
              lives = λ t. absurd (let off : has_turn v.stage ≡ false = ap has_turn idle in cc (t, off));
              keeps_made = λ js all. let first : own ≡ 0 = cc (sym (ap (λ (ns : List ℕ). ns ++ v.other_numbers) is) ∙ all) in mine.keeps_made joined (is ∙ ap (λ (n : ℕ). n ∷ joined) first);
            })
            (λ j u ne d. kept.each j u d);
        seen = seen_set entries_of number_of kept.history s.views id v w kept.seen at (all_merged v kept.history mine.own mine.other);
        value = let acting = sum-set (acts {E = E}) s.views id v w at in ⊎_elim
            (λ (home : IsHome entries_of kept.history s.homes s.views). inl (record { value = home.value; slot = home.slot; entries = home.entries; nobody = omega (arith, acting, home.nobody) }))
            (λ (out : IsOut entries_of s.homes s.views). inr (record { slot = out.slot; one = omega (arith, acting, out.one) }))
            kept.value;
      }

  pub merges : (slots id : ℕ) (me : Place T E) (own : ℕ) (joined : List ℕ) → me.0.stage ≡ Idle → me.0.numbers ≡ own ∷ joined → Allows K slots id me 0 (λ n. n) (merged number_of (step slots 0 0 0 none) me)
  merges slots id me own joined idle is = allows entries_of number_of slots id me 0 (λ n. n) (merged number_of (step slots 0 0 0 none) me)
      (λ s kept at.
      let mine = kept.each id me.0 at in
      let are = merge_at me.0 kept.history mine.own mine.other (nat_lt (length me.0.seen) (length me.0.other_seen)) refl in
      (joined_view me.0, keeps, tt, merged_kept s kept id me.0 own joined at idle is, record { goes_on = are.goes_on; other_goes_on = are.other_goes_on; after_is = refl }))
