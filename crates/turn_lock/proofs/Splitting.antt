-- Splitting keeps the rule of the lock.
use Rattle.std.proofs.Common.{◌≡◌, ◌≢◌, ℕ, ◌+◌, ◌<◌, true, List, [], ◌∷◌, ◌++◌, set, refl, sym, ◌∙◌, subst, arith, inl, inr, ⊎_elim, Option}
use Rattle.std.specs.Prelude.{nat_eq}
use Rattle.std.specs.List.{count_by, sum_by}
use Rattle.std.proofs.lemmas.List.Sums.{sum_by-cons, sum_by_push}
use mathlib.Core.Option.{some, none}
use mathlib.Core.Logic.{dite}
use Rattle.std.proofs.Math.Decide.{dec_lt}
use native.Mathlib.Decide.{ℕ_discrete}
use lib.ListN.{get_elem?}
use Rattle.atomic_table.specs.Table.{State, step, keeps, Allows, Splits}
use Rattle.atomic_table.proofs.Lists.{at_snoc, at_longer}
use Rattle.turn_meaning.specs.Numbers.{are_of_others, are_below}
use Rattle.turn_lock.specs.declared.view.View.{View}
use Rattle.turn_lock.specs.Views.{with_one_more, split_view}
use Rattle.turn_lock.specs.Rule.{times_in, Fits, IsHome, IsOut}
use Rattle.turn_lock.specs.Steps.{Place, told}
use Rattle.turn_lock.proofs.Counts.{each_set, sum-set, sum-at, sum-two}
use Rattle.turn_lock.proofs.Entries.{both, below_before, below_behind, below_others, below_more, absent_append}
use Rattle.turn_lock.proofs.Keeping.{Kept, allows, one_if, waits, holds, acts, one_there, none_there, seen_set, stays}

module _ {T E : Type 0} (entries_of : T → List E) (number_of : E → ℕ) where
  abbrev K : State (Option T) (View E) → Type 0
  K = Kept entries_of number_of

  -- the number of an own pass is below the number of passes made
  first_below : (s : State (Option T) (View E)) (kept : K s) (id : ℕ) (v : View E) (own : ℕ) (joined : List ℕ) → get_elem? s.views id ≡ some v → v.numbers ≡ own ∷ joined → 0 < times_in own v
  first_below s kept id v own joined at is =
      let there = one_there own own refl in
      let listed : 0 < count_by (nat_eq own) v.numbers = subst (λ (ns : List ℕ). 0 < count_by (nat_eq own) ns) (sym is) (omega (arith, there, sum_by-cons (λ (m : ℕ). one_if (nat_eq own m)) own joined)) in
      omega arith

  -- no entry that pass 0 has seen carries the number of passes made
  next_unused : (s : State (Option T) (View E)) (kept : K s) (id : ℕ) (v : View E) (joined : List ℕ) → get_elem? s.views id ≡ some v → v.numbers ≡ 0 ∷ joined → are_of_others number_of v.made v.seen ≡ true
  next_unused s kept id v joined at is =
      let mine = kept.each id v at in
      let all : are_below number_of kept.made (v.seen ++ mine.own.later) ≡ true = subst (λ (h : List E). are_below number_of kept.made h ≡ true) mine.own.begins kept.entries_below in
      subst (λ (n : ℕ). are_of_others number_of n v.seen ≡ true) (sym (mine.keeps_made joined is))
      (below_others number_of kept.made v.seen (below_before number_of kept.made v.seen mine.own.later all))

  pub tells : (slots id : ℕ) (me : Place T E) → Allows K slots id me 0 (λ n. n) (told number_of (step slots 0 0 0 none) me)
  tells slots id me = allows entries_of number_of slots id me 0 (λ n. n) (told number_of (step slots 0 0 0 none) me)
      (λ s kept at. (me.0, keeps, tt, stays entries_of number_of s kept id me.0 at, (refl, (λ joined is. next_unused s kept id me.0 joined at is))))

  no_count : (number other : ℕ) → number ≢ other → count_by (nat_eq number) (other ∷ []) ≡ 0
  no_count number other ne = let t = none_there number other ne in omega (arith, sum_by-cons (λ (m : ℕ). one_if (nat_eq number m)) other [])

  one_count : (number other : ℕ) → number ≡ other → count_by (nat_eq number) (other ∷ []) ≡ 1
  one_count number other e = let t = one_there number other e in omega (arith, sum_by-cons (λ (m : ℕ). one_if (nat_eq number m)) other [])

  module _ (s : State (Option T) (View E)) (kept : K s) (id : ℕ) (v : View E) (joined : List ℕ) (at : get_elem? s.views id ≡ some v) (is : v.numbers ≡ 0 ∷ joined) where
    abbrev parted : List (View E)
    parted = set s.views id (with_one_more v) ++ split_view v ∷ []

    -- a count over the views afterwards
    parted_sum : (f : View E → ℕ) → f (with_one_more v) ≡ f v → sum_by f parted ≡ sum_by f s.views + f (split_view v)
    parted_sum f same = let a = sum_by_push f (set s.views id (with_one_more v)) (split_view v) in let b = sum-set f s.views id v (with_one_more v) at in omega arith

    made_is : v.made ≡ kept.made
    made_is = (kept.each id v at).keeps_made joined is

    some_made : 0 < kept.made
    some_made = kept.numbers_below 0 (let t = first_below s kept id v 0 joined at is in let u = sum-at (times_in {E = E} 0) s.views id v at in omega arith)

    parted_times : (number : ℕ) → (number ≡ kept.made → (sum_by (times_in number) s.views ≡ 0) × (times_in number (split_view v) ≡ 1)) × (number ≢ kept.made → times_in number (split_view v) ≡ 0)
    parted_times number = (
      (λ e. (
        dite (dec_lt 0 (sum_by (times_in {E = E} number) s.views)) (λ lt. absurd (let b = kept.numbers_below number lt in omega arith)) (λ no. omega arith),
        let t = one_count number v.made (e ∙ sym made_is) in omega arith,
      )),
      (λ ne. let t = no_count number v.made (λ e. ne (e ∙ made_is)) in omega arith),
    )

    parted_fits : (j : ℕ) (u : View E) → get_elem? parted j ≡ some u → Fits number_of kept.ticket kept.serving (kept.made + 1) kept.history u
    parted_fits j u e = ⊎_elim
        (λ d. each_set (Fits number_of kept.ticket kept.serving (kept.made + 1) kept.history) s.views id (with_one_more v)
        (let mine = kept.each id v at in
        record { turn = mine.turn; own = mine.own; other = mine.other; whole = mine.whole; lives = mine.lives; keeps_made = λ js is'. omega (arith, made_is) })
        (λ k w ne d'. let fit = kept.each k w d' in
        record {
          turn = fit.turn;
          own = fit.own;
          other = fit.other;
          whole = fit.whole;
          lives = fit.lives;
          keeps_made = λ js is'. absurd (
              let mine = first_below s kept id v 0 joined at is in
              let theirs = first_below s kept k w 0 js d' is' in
              let two = sum-two (times_in {E = E} 0) s.views id k v w at d' ne in
              let one = kept.numbers_differ 0 in
              omega arith);
        })
        j u d)
        (λ (same : split_view v ≡ u). subst (Fits number_of kept.ticket kept.serving (kept.made + 1) kept.history) same
        (let mine = kept.each id v at in
        let behind : are_below number_of kept.made mine.own.later ≡ true = below_behind number_of kept.made v.seen mine.own.later (subst (λ (h : List E). are_below number_of kept.made h ≡ true) mine.own.begins kept.entries_below) in
        let free_later : are_of_others number_of v.made mine.own.later ≡ true = subst (λ (n : ℕ). are_of_others number_of n mine.own.later ≡ true) (sym made_is) (below_others number_of kept.made mine.own.later behind) in
        record {
          turn = tt;
          own = record { later = mine.own.later; begins = mine.own.begins; others = absent_append number_of mine.own.later (v.made ∷ []) [] (both _ _ free_later refl) refl };
          other = record { later = kept.history; begins = refl; others = refl };
          whole = λ t. absurd (cc t);
          lives = λ t. absurd (cc t);
          keeps_made = λ js is'. absurd (let zero_made : v.made ≡ 0 = cc is' in let some = some_made in omega (arith, made_is));
        }))
        (at_snoc (set s.views id (with_one_more v)) (split_view v) u j e)

    split_kept : K record { words = s.words; homes = s.homes; views = parted }
    split_kept = record {
      ticket = kept.ticket;
      serving = kept.serving;
      made = kept.made + 1;
      history = kept.history;
      words = kept.words;
      fits = kept.fits;
      tickets = omega (arith, kept.tickets, parted_sum (waits {E = E}) refl);
      differ = λ own. let held = parted_sum (holds {E = E} own) refl in let before = kept.differ own in omega (arith, held, before);
      numbers_differ = λ number. let t = parted_sum (times_in {E = E} number) refl in let b = kept.numbers_differ number in let p = parted_times number in
          dite (ℕ_discrete number kept.made) (λ e. let q = p.0 e in omega arith) (λ ne. let q = p.1 ne in omega arith);
      numbers_below = λ number there. let t = parted_sum (times_in {E = E} number) refl in let p = parted_times number in
          dite (ℕ_discrete number kept.made) (λ e. omega arith) (λ ne. let q = p.1 ne in let b = kept.numbers_below number (omega arith) in omega arith);
      entries_below = below_more number_of kept.made kept.history kept.entries_below;
      each = parted_fits;
      seen = let set_seen = seen_set entries_of number_of kept.history s.views id v (with_one_more v) kept.seen at (λ h. h) in
          record { id = set_seen.id; view = set_seen.view; at = at_longer (set s.views id (with_one_more v)) (split_view v ∷ []) set_seen.id set_seen.view set_seen.at; all = set_seen.all };
      value = let acting = parted_sum (acts {E = E}) refl in ⊎_elim
          (λ (home : IsHome entries_of kept.history s.homes s.views). inl (record { value = home.value; slot = home.slot; entries = home.entries; nobody = omega (arith, acting, home.nobody) }))
          (λ (out : IsOut entries_of s.homes s.views). inr (record { slot = out.slot; one = omega (arith, acting, out.one) }))
          kept.value;
    }

  pub splits : (id : ℕ) (v : View E) (joined : List ℕ) → v.numbers ≡ 0 ∷ joined → Splits K id v (with_one_more v) (split_view v)
  splits id v joined is s kept at = split_kept s kept id v joined at is
