-- Edits after which no module is ungrounded.
use Rattle.std.proofs.Common.{◌≡◌, ℕ, suc, true, false, not, List, [], ◌∷◌, length, take, slice_get, None, Some, cond, is_some, nat_lt, ◌&&◌, ⊎_elim, refl, sym, ap, ◌∙◌, subst, true≢false, arith, ltb-false}
use Rattle.std.specs.List.{list_any}
use Rattle.std.proofs.lemmas.Option.{same_Some}
use Rattle.std.proofs.lemmas.Bool.{false_from_ne_true}
use Rattle.name_meaning.specs.Names.{Name, Text, same_name, is_among}
use Rattle.name_meaning.specs.Rows.{row_of}
use Rattle.name_laws.proofs.Order.{among_member, member_among, same_sound, same_itself}
use Rattle.name_laws.proofs.Rows.{row_with}
use Rattle.list_laws.proofs.Members.{Member, any_not, in_append}
use Rattle.list_laws.proofs.Places.{take_more}
use Rattle.edit_log_meaning.specs.Log.{Edit, Put, Drop, Library, edited, edited_name, text_of, is_present}
use Rattle.edit_log_laws.specs.LogLaws.{left_by}
use Rattle.edit_log_laws.proofs.Libraries.{text_edited}
use Rattle.module_graph_meaning.specs.Walks.{Dependencies, direct, is_grounded, is_ungrounded, ungrounded_names}
use Rattle.module_graph_meaning.specs.Reach.{reach}
use Rattle.module_graph_meaning.specs.Graphs.{Graph, HoldsDependencies, graph_reach}
use Rattle.module_graph_laws.proofs.Agreement.{direct_same}
use Rattle.module_graph_laws.proofs.Graphs.{left_ungrounded, graph_reaches, edited_holds}
use Rattle.module_graph_laws.proofs.Reaching.{reach_closed, reach_first}
use Rattle.module_graph_laws.proofs.Walking.{ungrounded_dependency}
use Rattle.verdict_board.proofs.EditSteps.{ungrounded_present}

-- ---- no module was ungrounded before the edit

module _ (D : Dependencies) (L : Library) (edit : Edit) (sound : (x : Name) → is_ungrounded D L x ≡ false) where
  abbrev after : Library
  after = edited L edit

  abbrev n : Name
  n = edited_name edit

  text_left : (x : Name) → same_name x n ≡ false → text_of after x ≡ text_of L x
  text_left x h = text_edited L edit x ∙ ap (λ b. cond b (left_by edit) (text_of L x)) h

  not_grounded : (x : Name) → is_present L x ≡ true → is_grounded D L x ≡ false → ⊥
  not_grounded x p g = true≢false (sym (λ i. p i && not (sound x i)) ∙ g)

  -- names other than the edited one, each present after the edit, of which each has one as a dependency
  none_walk : (P : Name → Type 0) → ((x : Name) → P x → (same_name x n ≡ false) × (is_present after x ≡ true) × ((d : Name) × Member d (direct D after x) × P d)) → (x : Name) → P x → ⊥
  none_walk P h x p = not_grounded x (before x p).0 (left_ungrounded D L P before x p)
    where
      before : (x : Name) → P x → (is_present L x ≡ true) × ((d : Name) × Member d (direct D L x) × P d)
      before x p =
          let q = h x p in
          let text = text_left x q.0 in
          (ap is_some (sym text) ∙ q.1, (q.2.0, subst (Member q.2.0) (direct_same D after L x text) q.2.1, q.2.2))

  next_on : (x : Name) → is_ungrounded D after x ≡ true → (d : Name) × Member d (direct D after x) × (is_ungrounded D after d ≡ true)
  next_on x u = let q = ungrounded_dependency D after x u in (q.0, among_member (direct D after x) q.0 q.1, q.2)

  -- where the edited module is not ungrounded, none is
  pub none_but_edited : is_ungrounded D after n ≡ false → (x : Name) → is_ungrounded D after x ≡ false
  none_but_edited h x =
      false_from_ne_true (is_ungrounded D after x) (none_walk (λ z. is_ungrounded D after z ≡ true)
      (λ z u. (false_from_ne_true (same_name z n) (λ s. true≢false (sym u ∙ ap (is_ungrounded D after) (same_sound z n s) ∙ h)), ungrounded_present D after z u, next_on z u)) x)

  -- none is where no direct dependency of the edited module reaches it before the edit
  pub none_apart : ((d : Name) → Member d (direct D after n) → is_among (reach D L d) n ≡ false) → (x : Name) → is_ungrounded D after x ≡ false
  none_apart apart = none_but_edited (false_from_ne_true (is_ungrounded D after n) (λ u.
      let q = next_on n u in
      none_walk IsReached step q.0 (q.2, (q.0, q.1, reach_first D L q.0))))
    where
      IsReached : Name → Type 0
      IsReached z = (is_ungrounded D after z ≡ true) × ((d : Name) × Member d (direct D after n) × Member z (reach D L d))

      other : (z : Name) → IsReached z → same_name z n ≡ false
      other z p =
          false_from_ne_true (same_name z n) (λ s. true≢false (sym (member_among (reach D L p.1.0) n (subst (λ y. Member y (reach D L p.1.0)) (same_sound z n s) p.1.2)) ∙ apart p.1.0 p.1.1))

      step : (z : Name) → IsReached z → (same_name z n ≡ false) × (is_present after z ≡ true) × ((d : Name) × Member d (direct D after z) × IsReached d)
      step z p =
          let q = next_on z p.0 in
          let before = subst (Member q.0) (direct_same D after L z (text_left z (other z p))) q.1 in
          (other z p, ungrounded_present D after z p.0, (q.0, q.1, (q.2, (p.1.0, p.1.1, reach_closed D L p.1.0 z q.0 p.1.2 before))))

-- a dropped module is absent
pub none_dropped : (D : Dependencies) (L : Library) (n : Name) → ((x : Name) → is_ungrounded D L x ≡ false) → (x : Name) → is_ungrounded D (edited L (Drop n)) x ≡ false
none_dropped D L n sound =
    none_but_edited D L (Drop n) sound (false_from_ne_true (is_ungrounded D (edited L (Drop n)) n) (λ u.
    true≢false (sym (ungrounded_present D (edited L (Drop n)) n u) ∙ ap is_some (text_edited L (Drop n) n ∙ ap (λ b. cond b None (text_of L n)) (same_itself n)))))

-- what is told of several names by a walk over the graph
pub none_reaches : (D : Dependencies) (L : Library) (graph : Graph) → HoldsDependencies graph D L → (n : Name) (names : List Name) → list_any (λ from. is_among (graph_reach graph from) n) names ≡ false
    → (d : Name) → Member d names → is_among (reach D L d) n ≡ false
none_reaches D L graph holds n names h d m = ap (λ reached. is_among reached n) (sym (graph_reaches graph D L holds d)) ∙ any_not (λ from. is_among (graph_reach graph from) n) names d h m

-- of one more name
pub apart_more : (D : Dependencies) (L : Library) (n : Name) (names : List Name) (i : ℕ) (from : Name) → slice_get names i ≡ Some from → ((d : Name) → Member d (take i names) → is_among (reach D L d) n ≡ false)
    → is_among (reach D L from) n ≡ false → (d : Name) → Member d (take (suc i) names) → is_among (reach D L d) n ≡ false
apart_more D L n names i from here so_far h d m =
    ⊎_elim (λ q. so_far d q) (λ q. ⊎_elim (λ e. ap (λ z. is_among (reach D L z) n) e ∙ h) (λ none. absurd none) q)
    (in_append (take i names) (from ∷ []) d (subst (Member d) (take_more names i from here) m))

-- no module is ungrounded after a text is put under a name that none of its direct dependencies reaches
pub none_put : (D : Dependencies) (L : Library) (n : Name) (t : Text) (graph : Graph) → HoldsDependencies graph D L → ((x : Name) → is_ungrounded D L x ≡ false)
    → ((d : Name) → Member d (D n t) → is_among (reach D L d) n ≡ false) → (x : Name) → is_ungrounded D (edited L (Put n t)) x ≡ false
none_put D L n t graph holds sound h = none_apart D L (Put n t) sound apart
  where
    put : direct D (edited L (Put n t)) n ≡ D n t
    put =
        let present : is_present (edited L (Put n t)) n ≡ true = ap is_some (text_edited L (Put n t) n ∙ ap (λ b. cond b (Some t) (text_of L n)) (same_itself n)) in
        let after = edited_holds graph D L holds (Put n t) in
        same_Some _ _ (sym (after.rows n present) ∙ row_with n (D n t) graph n ∙ ap (λ b. cond b (Some (D n t)) (row_of graph n)) (same_itself n))

    apart : (d : Name) → Member d (direct D (edited L (Put n t)) n) → is_among (reach D L d) n ≡ false
    apart d m = h d (subst (Member d) put m)

-- where none is listed, none is ungrounded
pub listed_none : (D : Dependencies) (L : Library) (names : List Name) → names ≡ ungrounded_names D L → (count : ℕ) → count ≡ length names → nat_lt 0 count ≡ false → (x : Name) → is_ungrounded D L x ≡ false
unfolding is_ungrounded is_among
listed_none D L names e count long none x = ap (λ z. is_among z x) (sym e) ∙ by names (ap (nat_lt 0) (sym long) ∙ none)
  where
    by : (names : List Name) → nat_lt 0 (length names) ≡ false → is_among names x ≡ false
    by [] h = refl
    by (y ∷ names) h = let none = ltb-false 0 (length (y ∷ names)) h in absurd (omega (arith, none))
