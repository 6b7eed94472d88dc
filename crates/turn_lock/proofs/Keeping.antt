-- The steps on the ticket and on the turn keep the rule of the lock.
use Rattle.std.proofs.Common.{◌≡◌, ◌≢◌, ◌==◌, ℕ, ◌+◌, ◌<◌, ◌≤◌, Bool, List, [], ◌∷◌, length, set, get_or, refl, sym, ap, ◌∙◌, subst, arith, inl, inr, ⊎_elim, cond, Option, eq-eqb, ne_eqb}
use Rattle.std.specs.Prelude.{nat_eq}
use Rattle.std.specs.List.{sum_by}
use Rattle.std.proofs.lemmas.Bool.Decides.{nat_tests}
use mathlib.Core.Option as maybe
use mathlib.Core.Option.{some, none, some-injective}
use mathlib.Core.Logic.{dite}
use native.Mathlib.Decide.{ℕ_discrete}
use lib.ListN.{get_elem?}
use prog.Atomic.{either}
use Rattle.atomic_table.specs.Table.{State, Me, step, Act, keeps, Valid, carried_after, homes_after, Allows}
use Rattle.atomic_table.proofs.Lists.{set_else, set_again}
use Rattle.turn_lock.specs.declared.view.View.{View}
use Rattle.turn_lock.specs.declared.view.Stage.{Stage}
use Rattle.turn_lock.specs.declared.view.Stage.TheVariants.{Idle, Drawn, Found, Noted}
use Rattle.turn_lock.specs.Views.{has_ticket, holds_ticket, has_turn, at_stage}
use Rattle.turn_lock.specs.Rule.{InTurn, times_in, Fits, HasSeenAll, IsSeen, IsHome, IsOut, IsKept}
use Rattle.turn_lock.specs.Steps.{Place, drew, looked}
use Rattle.turn_lock.proofs.Counts.{set_at, each_set, sum-set, sum-zero}

-- what a step owes, where the words are these
abbrev pub Goes : {S V : Type 0} → (State S V → Type 0) → List ℕ → List (maybe.Option S) → List V → ℕ → Me S V → ℕ → (ℕ → ℕ) → (ℕ → Me S V → Type 0) → Type 0
Goes {S} {V} holds words homes views id me i f then =
    (w : V) × (a : Act S) × Valid homes me.1 a × holds record { words = set words i (f (get_or words i 0)); homes = homes_after homes me.1 a; views = set views id w }
    × then (get_or words i 0) (w, carried_after me.1 a)

-- a test as a number, as `count_by` counts it
abbrev pub one_if : Bool → ℕ
one_if b = cond b 1 0

-- whether a ticket is held, and this one, as numbers
abbrev pub waits : {E : Type 0} → View E → ℕ
waits view = cond (has_ticket view.stage) 1 0

abbrev pub holds : {E : Type 0} → ℕ → View E → ℕ
holds own view = cond (holds_ticket own view.stage) 1 0

abbrev pub acts : {E : Type 0} → View E → ℕ
acts view = cond (has_turn view.stage) 1 0

pub one_there : (a b : ℕ) → a ≡ b → one_if (nat_eq a b) ≡ 1
one_there a b e = grind (arith, nat_tests)

pub none_there : (a b : ℕ) → a ≢ b → one_if (nat_eq a b) ≡ 0
none_there a b n = grind (arith, nat_tests)

-- a ticket that is below the next one is not the next
not_yet : (ticket serving : ℕ) (stage : Stage) → InTurn ticket serving stage → one_if (holds_ticket ticket stage) ≡ 0
not_yet ticket serving Idle h = refl
not_yet ticket serving (Drawn own) h = none_there ticket own (λ e. omega arith)
not_yet ticket serving (Found own) h = none_there ticket own (λ e. omega arith)
not_yet ticket serving (Noted own) h = none_there ticket own (λ e. omega arith)

in_turn_more : (ticket serving : ℕ) (stage : Stage) → InTurn ticket serving stage → InTurn (ticket + 1) serving stage
in_turn_more ticket serving Idle h = tt
in_turn_more ticket serving (Drawn own) h = (h.0, omega arith)
in_turn_more ticket serving (Found own) h = (h.0, omega arith)
in_turn_more ticket serving (Noted own) h = (h.0, omega arith)

module _ {T E : Type 0} (entries_of : T → List E) (number_of : E → ℕ) where
  abbrev pub Kept : State (Option T) (View E) → Type 0
  Kept = IsKept entries_of number_of

  -- it is enough that a step goes on at the words that the rule tells
  pub allows : (slots id : ℕ) (me : Place T E) (i : ℕ) (f : ℕ → ℕ) (then : ℕ → Place T E → Type 0)
      → ((s : State (Option T) (View E)) (kept : Kept s) → get_elem? s.views id ≡ some me.0 → Goes Kept (kept.ticket ∷ kept.serving ∷ length kept.history ∷ []) s.homes s.views id me i f then)
      → Allows Kept slots id me i f then
  allows slots id me i f then go s kept len at below = subst (λ (ws : List ℕ). Goes Kept ws s.homes s.views id me i f then) (sym kept.words) (go s kept at)

  -- a view that has seen the same still has
  pub seen_set : (history : List E) (views : List (View E)) (id : ℕ) (v w : View E) → IsSeen history views → get_elem? views id ≡ some v → (HasSeenAll history v → HasSeenAll history w) → IsSeen history (set views id w)
  seen_set history views id v w seen at same = dite (ℕ_discrete seen.id id)
      (λ (e : seen.id ≡ id). let is : seen.view ≡ v = some-injective seen.view v (sym seen.at ∙ (ap (get_elem? views) e ∙ at)) in
      record { id = id; view = w; at = set_at views id v w at; all = same (subst (HasSeenAll history) is seen.all) })
      (λ (ne : seen.id ≢ id). record { id = seen.id; view = seen.view; at = set_else views id seen.id w ne ∙ seen.at; all = seen.all })

  -- the ticket `kept.ticket` was drawn
  drawn : (s : State (Option T) (View E)) (kept : Kept s) (id : ℕ) (v : View E) → get_elem? s.views id ≡ some v → v.stage ≡ Idle → kept.ticket + 1 < 18446744073709551616
      → Kept record { words = (kept.ticket + 1) ∷ kept.serving ∷ length kept.history ∷ []; homes = s.homes; views = set s.views id (at_stage (Drawn kept.ticket) v) }
  drawn s kept id v at idle room =
      let w : View E = at_stage (Drawn kept.ticket) v in
      let free : (j : ℕ) (u : View E) → get_elem? s.views j ≡ some u → holds kept.ticket u ≡ 0 = λ j u e. not_yet kept.ticket kept.serving u.stage (kept.each j u e).turn in
      let nobody : sum_by (holds {E = E} kept.ticket) s.views ≡ 0 = sum-zero (holds {E = E} kept.ticket) s.views free in
      let waited : waits v ≡ 0 = ap (λ (x : Stage). one_if (has_ticket x)) idle in
      let waiting = sum-set (waits {E = E}) s.views id v w at in
      let acted : acts v ≡ 0 = ap (λ (x : Stage). one_if (has_turn x)) idle in
      let acting = sum-set (acts {E = E}) s.views id v w at in
      let first : kept.serving ≤ kept.ticket = omega (arith, kept.tickets) in
      let mine = kept.each id v at in
      record {
        ticket = kept.ticket + 1;
        serving = kept.serving;
        made = kept.made;
        history = kept.history;
        words = refl;
        fits = room;
        tickets = omega (arith, kept.tickets, waiting, waited);
        differ = λ own. let held = sum-set (holds {E = E} own) s.views id v w at in let before = kept.differ own in
            let was : holds own v ≡ 0 = ap (λ (x : Stage). one_if (holds_ticket own x)) idle in
            dite (ℕ_discrete own kept.ticket)
            (λ e. let none : sum_by (holds {E = E} own) s.views ≡ 0 = ap (λ (n : ℕ). sum_by (holds {E = E} n) s.views) e ∙ nobody in let is = one_there own kept.ticket e in omega (arith, held, was, none, is))
            (λ ne. let is = none_there own kept.ticket ne in omega (arith, held, was, is, before));
        numbers_differ = λ number. let t = sum-set (times_in {E = E} number) s.views id v w at in let b = kept.numbers_differ number in omega arith;
        numbers_below = λ number there. let t = sum-set (times_in {E = E} number) s.views id v w at in kept.numbers_below number (omega arith);
        entries_below = kept.entries_below;
        each = each_set (Fits number_of (kept.ticket + 1) kept.serving kept.made kept.history) s.views id w
            (record { turn = (first, omega arith); own = mine.own; other = mine.other; whole = λ e. absurd (cc e); lives = λ e. absurd (cc e); keeps_made = mine.keeps_made })
            (λ j u ne e. let fit = kept.each j u e in record { turn = in_turn_more kept.ticket kept.serving u.stage fit.turn; own = fit.own; other = fit.other; whole = fit.whole; lives = fit.lives; keeps_made = fit.keeps_made });
        seen = seen_set kept.history s.views id v w kept.seen at (λ h. h);
        value = ⊎_elim
            (λ (home : IsHome entries_of kept.history s.homes s.views). inl (record { value = home.value; slot = home.slot; entries = home.entries; nobody = omega (arith, acting, acted, home.nobody) }))
            (λ (out : IsOut entries_of s.homes s.views). inr (record { slot = out.slot; one = omega (arith, acting, acted, out.one) }))
            kept.value;
      }

  -- the turn was found
  pub found : (s : State (Option T) (View E)) (kept : Kept s) (id : ℕ) (v : View E) → get_elem? s.views id ≡ some v → v.stage ≡ Drawn kept.serving
      → Kept record { words = kept.ticket ∷ kept.serving ∷ length kept.history ∷ []; homes = s.homes; views = set s.views id (at_stage (Found kept.serving) v) }
  found s kept id v at is =
      let w : View E = at_stage (Found kept.serving) v in
      let waited : waits v ≡ 1 = ap (λ (x : Stage). one_if (has_ticket x)) is in
      let waiting = sum-set (waits {E = E}) s.views id v w at in
      let acted : acts v ≡ 0 = ap (λ (x : Stage). one_if (has_turn x)) is in
      let acting = sum-set (acts {E = E}) s.views id v w at in
      let mine = kept.each id v at in
      let turn : InTurn kept.ticket kept.serving (Drawn kept.serving) = subst (InTurn kept.ticket kept.serving) is mine.turn in
      record {
        ticket = kept.ticket;
        serving = kept.serving;
        made = kept.made;
        history = kept.history;
        words = refl;
        fits = kept.fits;
        tickets = omega (arith, kept.tickets, waiting, waited);
        differ = λ own. let held = sum-set (holds {E = E} own) s.views id v w at in let before = kept.differ own in
            let was : holds own v ≡ one_if (nat_eq own kept.serving) = ap (λ (x : Stage). one_if (holds_ticket own x)) is in
            omega (arith, held, was, before);
        numbers_differ = λ number. let t = sum-set (times_in {E = E} number) s.views id v w at in let b = kept.numbers_differ number in omega arith;
        numbers_below = λ number there. let t = sum-set (times_in {E = E} number) s.views id v w at in kept.numbers_below number (omega arith);
        entries_below = kept.entries_below;
        each = each_set (Fits number_of kept.ticket kept.serving kept.made kept.history) s.views id w
            (record { turn = (refl, turn.1); own = mine.own; other = mine.other; whole = λ e. absurd (cc e); lives = λ e. absurd (cc e); keeps_made = mine.keeps_made })
            (λ j u ne e. kept.each j u e);
        seen = seen_set kept.history s.views id v w kept.seen at (λ h. h);
        value = ⊎_elim
            (λ (home : IsHome entries_of kept.history s.homes s.views). inl (record { value = home.value; slot = home.slot; entries = home.entries; nobody = omega (arith, acting, acted, home.nobody) }))
            (λ (out : IsOut entries_of s.homes s.views). inr (record { slot = out.slot; one = omega (arith, acting, acted, out.one) }))
            kept.value;
      }

  -- nothing changes where a view is set to itself
  pub stays : (s : State (Option T) (View E)) (kept : Kept s) (id : ℕ) (v : View E) → get_elem? s.views id ≡ some v
      → Kept record { words = kept.ticket ∷ kept.serving ∷ length kept.history ∷ []; homes = s.homes; views = set s.views id v }
  stays s kept id v at = subst (λ (z : List ℕ × List (View E)). Kept record { words = z.0; homes = s.homes; views = z.1 }) (λ i. (kept.words i, sym (set_again s.views id v at) i)) kept

  pub draws : (slots id : ℕ) (me : Place T E) (next : ℕ) → me.0.stage ≡ Idle → next + 1 < 18446744073709551616
      → Allows Kept slots id me 0 (λ n. either (n == next) (next + 1) n) (drew (step slots 0 next (next + 1) none) me)
  draws slots id me next idle room = allows slots id me 0 (λ n. either (n == next) (next + 1) n) (drew (step slots 0 next (next + 1) none) me)
      (λ s kept at. dite (ℕ_discrete kept.ticket next)
      (λ (e : kept.ticket ≡ next).
      let n : either (kept.ticket == next) (next + 1) kept.ticket ≡ kept.ticket + 1 = ap (λ (b : Bool). either b (next + 1) kept.ticket) (eq-eqb kept.ticket next e) ∙ ap (λ (k : ℕ). k + 1) (sym e) in (
        at_stage (Drawn next) me.0,
        keeps,
        tt,
        subst (λ (z : ℕ × ℕ). Kept record { words = z.0 ∷ kept.serving ∷ length kept.history ∷ []; homes = s.homes; views = set s.views id (at_stage (Drawn z.1) me.0) }) (λ i. (sym n i, e i))
            (drawn s kept id me.0 at idle (subst (λ (k : ℕ). k + 1 < 18446744073709551616) (sym e) room)),
        ((λ h. refl), (λ ne. absurd (ne e))),
      ))
      (λ (ne : kept.ticket ≢ next).
      let n : either (kept.ticket == next) (next + 1) kept.ticket ≡ kept.ticket = ap (λ (b : Bool). either b (next + 1) kept.ticket) (ne_eqb kept.ticket next ne) in (
        me.0,
        keeps,
        tt,
        subst (λ (k : ℕ). Kept record { words = k ∷ kept.serving ∷ length kept.history ∷ []; homes = s.homes; views = set s.views id me.0 }) (sym n) (stays s kept id me.0 at),
        ((λ h. absurd (ne h)), (λ h. refl)),
      )))

  pub looks : (slots id : ℕ) (me : Place T E) (own : ℕ) → me.0.stage ≡ Drawn own → Allows Kept slots id me 1 (λ n. n) (looked (step slots 1 0 0 none) me)
  looks slots id me own is = allows slots id me 1 (λ n. n) (looked (step slots 1 0 0 none) me)
      (λ s kept at. dite (ℕ_discrete kept.serving own)
      (λ (e : kept.serving ≡ own). (
        at_stage (Found own) me.0,
        keeps,
        tt,
        subst (λ (k : ℕ). Kept record { words = kept.ticket ∷ kept.serving ∷ length kept.history ∷ []; homes = s.homes; views = set s.views id (at_stage (Found k) me.0) }) e
            (found s kept id me.0 at (is ∙ ap (λ (k : ℕ). Drawn k) (sym e))),
        (λ own' is'. let same : own ≡ own' = cc (is, is') in ((λ h. ap (λ (k : ℕ). (at_stage (Found k) me.0, me.1)) same), (λ ne. absurd (ne (e ∙ same))))),
      ))
      (λ (ne : kept.serving ≢ own). (
        me.0,
        keeps,
        tt,
        stays s kept id me.0 at,
        (λ own' is'. let same : own ≡ own' = cc (is, is') in ((λ h. absurd (ne (h ∙ sym same))), (λ h. refl))),
      )))
