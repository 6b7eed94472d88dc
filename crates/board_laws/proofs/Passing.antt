-- Passes: numbers, what pass 0 knows at a point, and joins.
use Rattle.std.proofs.Common.{◌≡◌, ℕ, ◌+◌, ◌<◌, Bool, true, false, [], ◌∷◌, ◌++◌, ◌||◌, length, filter_map, slice_get, nat_lt, Option, Some, None, inl, inr, ⊎_elim, refl, sym, ap, ◌∙◌, subst, true≢false, append-nil, ltb-true, lt-ltb, Decides}
use Rattle.std.specs.List.{cons_option}
use Rattle.std.proofs.lemmas.Bool.{cases_Bool}
use Rattle.std.proofs.lemmas.List.Folds.{list_any-append}
use Rattle.edit_log_meaning.specs.Log.{Edit}
use Rattle.module_graph_meaning.specs.Walks.{Dependencies}
use Rattle.turn_meaning.specs.Passes.{Pass, Joins}
use Rattle.list_laws.proofs.Members.{Member, all_at, all_of, any_none, place_member}
use Rattle.list_laws.proofs.Places.{get_behind}
use Rattle.board_meaning.specs.Events.{Event, EditMade, Claim, Install, Stale, Release, Close, Entry, History, edit_in, log_of, version_after}
use Rattle.board_meaning.specs.Ready.{is_close, is_closed}
use Rattle.board_meaning.specs.Legal.{IsLegal}
use Rattle.board_meaning.specs.Points.{number_of, are_below, IsPoint}
use Rattle.board_laws.proofs.Histories.{log_append}
use Rattle.board_laws.proofs.Told.{edits_were_made}
use Rattle.board_laws.proofs.Entries.{closes_are_of_front}
use Rattle.board_laws.proofs.Pointing.{place_of, not_same}

pub below_is_less : (made : ℕ) (H : History) → Decides (are_below made H) ((place : ℕ) (e : Entry) → slice_get H place ≡ Some e → e.pass < made)
below_is_less made H = (
  λ b p e s. ltb-true e.pass made (all_at (λ (x : Entry). nat_lt x.pass made) H e b (place_member H p e s)),
  λ f. all_of (λ (x : Entry). nat_lt x.pass made) H (λ x m. let q = place_of H x m in lt-ltb x.pass made (f q.0 x q.1)),
)

-- ---- what pass 0 knows

close_is : (e : Event) → is_close e ≡ true → e ≡ Close
close_is (EditMade edit) h = absurd (true≢false (sym h))
close_is (Claim n) h = absurd (true≢false (sym h))
close_is (Install c) h = absurd (true≢false (sym h))
close_is (Stale c n k) h = absurd (true≢false (sym h))
close_is (Release c) h = absurd (true≢false (sym h))
close_is Close h = refl

none_made : (xs : History) → ((x : Entry) → Member x xs → edit_in x ≡ None) → log_of xs ≡ []
unfolding log_of
none_made [] f = refl
none_made (x ∷ xs) f = ap (λ (o : Option Edit). cons_option o (filter_map edit_in xs)) (f x (inl refl)) ∙ none_made xs (λ y m. f y (inr m))

module _ (dependencies : Dependencies) (seen point : History) (p : IsPoint dependencies seen 0 point) where
  later : History
  later = p.goes_on.later

  legal : IsLegal dependencies (seen ++ later)
  unfolding later
  legal = subst (IsLegal dependencies) p.goes_on.begins p.legal

  -- where a later entry stands, and that it is of another pass
  stands_at : (x : Entry) → Member x later → (i : ℕ) × (slice_get (seen ++ later) i ≡ Some x)
  stands_at x m = let q = place_of later x m in (length seen + q.0, get_behind seen later q.0 (length seen + q.0) refl ∙ q.1)

  not_front : (x : Entry) → Member x later → x.pass ≡ 0 → ⊥
  unfolding later
  not_front x m e = not_same 0 x.pass (all_at _ later x p.goes_on.others m) (sym e)

  no_edit : (x : Entry) → Member x later → edit_in x ≡ None
  no_edit x m = by (edit_in x) refl
    where
      by : (o : Option Edit) → edit_in x ≡ o → edit_in x ≡ None
      by None h = h
      by (Some edit) h = let q = stands_at x m in absurd (not_front x m (edits_were_made dependencies (seen ++ later) q.0 x edit legal q.1 h).1)

  no_close : (x : Entry) → Member x later → is_close x.event ≡ false
  no_close x m = ⊎_elim (λ h. let q = stands_at x m in absurd (not_front x m (closes_are_of_front dependencies (seen ++ later) q.0 x legal q.1 (close_is x.event h)).0)) (λ h. h) (cases_Bool (is_close x.event))

  same_log : log_of point ≡ log_of seen
  unfolding later
  same_log = ap log_of p.goes_on.begins ∙ log_append seen later ∙ ap (λ z. log_of seen ++ z) (none_made later no_edit) ∙ append-nil (log_of seen)

  same_closed : is_closed point ≡ is_closed seen
  unfolding later is_closed
  same_closed =
      ap is_closed p.goes_on.begins ∙ list_any-append (λ (x : Entry). is_close x.event) seen later
      ∙ ap (λ (b : Bool). is_closed seen || b) (any_none (λ (x : Entry). is_close x.event) later no_close) ∙ or_none (is_closed seen)
    where
      or_none : (b : Bool) → (b || false) ≡ b
      or_none true = refl
      or_none false = refl

pub front_knows : (dependencies : Dependencies) (seen point : History) → IsPoint dependencies seen 0 point
    → (log_of point ≡ log_of seen) × (version_after point ≡ version_after seen) × (is_closed point ≡ is_closed seen)
front_knows dependencies seen point p =
    (same_log dependencies seen point p, ap length (same_log dependencies seen point p), same_closed dependencies seen point p)

-- ---- joins

pub joins_are_seen : {Lock : Type 0} (dependencies : Dependencies) (before other after : Pass Lock Entry) → IsLegal dependencies before.seen → IsLegal dependencies other.seen
    → Joins number_of before other after
    → IsPoint dependencies before.seen before.number after.seen × IsPoint dependencies other.seen other.number after.seen
joins_are_seen dependencies before other after l m j =
    let legal : IsLegal dependencies after.seen = ⊎_elim (λ e. subst (IsLegal dependencies) (sym e) l) (λ e. subst (IsLegal dependencies) (sym e) m) j.longer in
    (record { goes_on = j.goes_on; legal = legal }, record { goes_on = j.other_goes_on; legal = legal })
