-- Where every pass is joined into pass 0, the value is home with what pass 0 has seen.
use Rattle.std.proofs.Common.{◌≡◌, ◌≢◌, ℕ, ◌+◌, ◌<◌, ◌≤◌, Bool, true, false, List, [], ◌∷◌, length, refl, sym, ap, ◌∙◌, subst, arith, ⊎_elim, Option, Some}
use Rattle.std.specs.Prelude.{nat_eq}
use Rattle.std.specs.List.{count_by, sum_by}
use mathlib.Core.Option as maybe
use mathlib.Core.Option.{some, none, some-injective}
use mathlib.Core.Logic.{dite}
use native.Mathlib.Decide.{ℕ_discrete}
use lib.ListN.{get_elem?}
use Rattle.atomic_table.specs.Table.{State, Final, Seen}
use Rattle.turn_lock.specs.declared.view.View.{View}
use Rattle.turn_lock.specs.declared.view.Stage.{Stage}
use Rattle.turn_lock.specs.declared.view.Stage.TheVariants.{Idle, Drawn, Found, Noted}
use Rattle.atomic_table.specs.declared.shared.Seat.{Seat}
use Rattle.turn_meaning.specs.Passes.{Pass, HasJoinedAll}
use Rattle.atomic_table.specs.Seated.{TableId}
use Rattle.turn_lock.specs.Views.{has_turn, joined_in, read_pass, IsSettled, IsPassAt}
use Rattle.turn_lock.specs.Rule.{times_in, HasSeenAll, IsHome, IsOut}
use Rattle.turn_lock.proofs.Counts.{sum-at, sum-two, sum-zero}
use Rattle.turn_lock.specs.Steps.{IsAlone}
use Rattle.turn_lock.proofs.Tallies.{some_number, tally_all, tally_each}
use Rattle.turn_lock.proofs.Keeping.{Kept, one_if, acts}

module _ {T E : Type 0} (entries_of : T → List E) (number_of : E → ℕ) (s : State (Option T) (View E)) (kept : Kept entries_of number_of s) (id : ℕ) (v : View E) (joined : List ℕ) (at : get_elem? s.views id ≡ some v)
    (is : v.numbers ≡ 0 ∷ joined) (mine : IsAlone v) (all : v.made ≡ length joined + 1) where
  made_is : v.made ≡ kept.made
  made_is = (kept.each id v at).keeps_made joined is

  -- every number that was given is among those of pass 0
  counted : (number : ℕ) → number < kept.made → 0 < times_in number v
  counted number lt =
      let once : (n : ℕ) → count_by (nat_eq n) v.numbers ≤ 1 = λ n. let t = sum-at (times_in {E = E} n) s.views id v at in let u = kept.numbers_differ n in omega arith in
      let below : (n : ℕ) → 0 < count_by (nat_eq n) v.numbers → n < kept.made = λ n h. let t = sum-at (times_in {E = E} n) s.views id v at in kept.numbers_below n (omega arith) in
      let many : length v.numbers ≡ kept.made = omega (arith, ap length is, made_is, all) in
      let listed = tally_each kept.made v.numbers once (tally_all kept.made v.numbers below ∙ many) number lt in
      omega arith

  -- so no other view has a number
  no_number : (j : ℕ) (u : View E) (number : ℕ) → j ≢ id → get_elem? s.views j ≡ some u → ¬ (0 < times_in number u)
  no_number j u number ne d some_there =
      let there = sum-at (times_in {E = E} number) s.views j u d in
      let here = counted number (kept.numbers_below number (omega arith)) in
      let two = sum-two (times_in {E = E} number) s.views id j v u at d ne in
      let one = kept.numbers_differ number in
      absurd (omega arith)

  no_first : (j : ℕ) (u : View E) → j ≢ id → get_elem? s.views j ≡ some u → ¬ (0 < length u.numbers)
  no_first j u ne d lt = let n = some_number u.numbers lt in no_number j u n.0 ne d (omega (arith, n.1))

  no_other : (j : ℕ) (u : View E) → j ≢ id → get_elem? s.views j ≡ some u → ¬ (0 < length u.other_numbers)
  no_other j u ne d lt = let n = some_number u.other_numbers lt in no_number j u n.0 ne d (omega (arith, n.1))

  seen_whole : v.seen ≡ kept.history
  seen_whole = dite (ℕ_discrete kept.seen.id id)
      (λ (e : kept.seen.id ≡ id).
      let same : kept.seen.view ≡ v = some-injective kept.seen.view v (sym kept.seen.at ∙ (ap (get_elem? s.views) e ∙ at)) in
      ⊎_elim (λ (h : (0 < length v.numbers) × (v.seen ≡ kept.history)). h.1)
      (λ (h : (0 < length v.other_numbers) × (v.other_seen ≡ kept.history)). absurd (let t : length v.other_numbers ≡ 0 = ap length mine.no_numbers in let u = h.0 in omega arith))
      (subst (HasSeenAll kept.history) same kept.seen.all))
      (λ (ne : kept.seen.id ≢ id).
      ⊎_elim (λ (h : (0 < length kept.seen.view.numbers) × (kept.seen.view.seen ≡ kept.history)). absurd (no_first kept.seen.id kept.seen.view ne kept.seen.at h.0))
      (λ (h : (0 < length kept.seen.view.other_numbers) × (kept.seen.view.other_seen ≡ kept.history)). absurd (no_other kept.seen.id kept.seen.view ne kept.seen.at h.0))
      kept.seen.all)

  rests : (b : Bool) → (b ≡ true → ⊥) → one_if b ≡ 0
  rests true h = absurd (h refl)
  rests false h = refl

  nobody : sum_by (acts {E = E}) s.views ≡ 0
  nobody = sum-zero (acts {E = E}) s.views
      (λ j u d. dite (ℕ_discrete j id)
      (λ e. let same : u ≡ v = some-injective u v (sym d ∙ (ap (get_elem? s.views) e ∙ at)) in ap (λ (x : View E). one_if (has_turn x.stage)) same ∙ ap (λ (x : Stage). one_if (has_turn x)) mine.idle)
      (λ ne. rests (has_turn u.stage) (λ t. no_first j u ne d ((kept.each j u d).lives t))))

  pub ends : (x : T) × (s.homes ≡ some (Some x) ∷ []) × (entries_of x ≡ v.seen)
  ends = ⊎_elim (λ (home : IsHome entries_of kept.history s.homes s.views). (home.value, home.slot, home.entries ∙ sym seen_whole))
      (λ (out : IsOut entries_of s.homes s.views). absurd (omega (arith, out.one, nobody))) kept.value

settled_idle : {T : Type 0} (stage : Stage) (carried : List (ℕ × Option T)) → IsSettled stage carried → has_turn stage ≡ false → stage ≡ Idle
settled_idle Idle carried h t = refl
settled_idle (Drawn own) carried h t = absurd h
settled_idle (Found own) carried h t = absurd h
settled_idle (Noted own) carried h t = absurd (cc t)

-- the slot of a table that is closed with the seat of pass 0 has a value whose entries are those that the pass has seen
pub record IsThere {T E : Type 0} (entries_of : T → List E) (slot : Option T) (seen : List E) : Type 0 where
  pub value : T
  pub full : slot ≡ Some value
  pub entries : entries_of value ≡ seen

pub ended : {T E : Type 0} (entries_of : T → List E) (number_of : E → ℕ) (number made count : ℕ) (place : Seat (Option T) (View E)) (pass : Pass TableId E) → IsPassAt number made count place → read_pass number made place ≡ pass
    → pass.has_turn ≡ false → pass.number ≡ 0 → HasJoinedAll pass → (words : List ℕ) (slots : List (Option T)) → Final (Seen (Kept entries_of number_of) place.id place.me.0) words slots
    → (slot : Option T) → get_elem? slots 0 ≡ some slot → IsThere entries_of slot pass.seen
ended {T} entries_of number_of number made count place pass at is idle first all words slots last slot there =
    let joined : List ℕ = joined_in place.me.0.numbers in
    let own : number ≡ 0 = ap (λ p. p.number) is ∙ first in
    let each : HasJoinedAll (read_pass number made place) = subst HasJoinedAll (sym is) all in
    let resting : place.me.0.stage ≡ Idle = settled_idle place.me.0.stage place.me.1 at.settled (ap (λ p. p.has_turn) is ∙ idle) in
    let found = ends entries_of number_of last.0 last.1.0 place.id place.me.0 joined last.1.1 (at.numbers ∙ ap (λ (n : ℕ). n ∷ joined) own)
    (record { idle = resting; no_numbers = at.no_other_numbers; no_seen = at.no_other_seen })
    (at.made_is own ∙ each) in
    let full : get_elem? slots 0 ≡ some (Some found.0) = last.4 0 (Some found.0) (ap (λ (homes : List (maybe.Option (Option T))). get_elem? homes 0) found.1) in
    record { value = found.0; full = some-injective slot (Some found.0) (sym there ∙ full); entries = found.2 ∙ ap (λ p. p.seen) is }
