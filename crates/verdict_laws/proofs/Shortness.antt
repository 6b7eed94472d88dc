-- Names from which no walk has so many further names, and what they reach.
use Rattle.std.proofs.Common.{◌≡◌, ℕ, zero, suc, Bool, true, false, not, ◌||◌, filter, length, ◌⊎◌, inl, inr, ⊎_elim, sym, ap, ◌∙◌, subst, true≢false}
use Rattle.std.proofs.lemmas.Bool.{cases_Bool, or_cases, or_left, or_right}
use Rattle.name_meaning.specs.Names.{Name, is_among, same_name}
use Rattle.edit_log_meaning.specs.Log.{Library}
use Rattle.list_laws.proofs.Members.{Member, in_filter, filter_in}
use Rattle.name_laws.proofs.Order.{among_member, member_among, same_sound, same_itself}
use Rattle.module_graph_meaning.specs.Walks.{Dependencies, direct, walking}
use Rattle.module_graph_meaning.specs.Reach.{reach}
use Rattle.module_graph_laws.proofs.Walking.{present_in, depends_present, walking_step, walking_less, walks_on}
use Rattle.module_graph_laws.proofs.Reaching.{IsClosed, reach_closed, reach_first, reach_least}

module _ (dependencies : Dependencies) (library : Library) where
  abbrev pub Short : ℕ → Name → Type 0
  Short n name = Member name (walking dependencies library n) → ⊥

  pub short_more : (n : ℕ) (name : Name) → Short n name → Short (suc n) name
  short_more n name s m = s (walking_less dependencies library n name m)

  pub short_step : (n : ℕ) (name d : Name) → Short (suc n) name → Member d (direct dependencies library name) → Short n d
  short_step n name d s m w = s (walking_step dependencies library n name d m w)

  short_down : (n : ℕ) (name d : Name) → Short n name → Member d (direct dependencies library name) → Short n d
  unfolding walking
  short_down zero name d s m = absurd (s (present_in dependencies library name (depends_present dependencies library name d m)))
  short_down (suc n) name d s m = short_more n d (short_step n name d s m)

  pub short_grounded : (n : ℕ) (name : Name) → Short n name → is_among (walking dependencies library (length library)) name ≡ false
  short_grounded n name s =
      ⊎_elim (λ e. absurd (s (walks_on dependencies library name (among_member (walking dependencies library (length library)) name e) n))) (λ e. e)
      (cases_Bool (is_among (walking dependencies library (length library)) name))

  short_of : (n : ℕ) (name : Name) → not (is_among (walking dependencies library n) name) ≡ true → Short n name
  short_of n name h m = true≢false (sym h ∙ ap not (member_among (walking dependencies library n) name m))

  of_short : (n : ℕ) (name : Name) → Short n name → not (is_among (walking dependencies library n) name) ≡ true
  of_short n name s = ⊎_elim (λ e. absurd (s (among_member (walking dependencies library n) name e))) (λ e. ap not e) (cases_Bool (is_among (walking dependencies library n) name))

  abbrev is_short_or : ℕ → Name → Name → Bool
  is_short_or n name other = same_name name other || not (is_among (walking dependencies library n) other)

  -- all that a name reaches but itself is shorter
  pub short_reached : (n : ℕ) (name other : Name) → Short (suc n) name → Member other (reach dependencies library name) → same_name name other ≡ false → Short n other
  short_reached n name other s m f =
      let q = reach_least dependencies library name (filter (is_short_or n name) (reach dependencies library name)) closed
      (filter_in (is_short_or n name) (reach dependencies library name) name (reach_first dependencies library name) (or_left (same_name name name) (not (is_among (walking dependencies library n) name)) (same_itself name))) other m in
      let r = in_filter (is_short_or n name) (reach dependencies library name) other q in
      ⊎_elim (λ e. absurd (true≢false (sym e ∙ f))) (λ e. short_of n other e) (or_cases (same_name name other) (not (is_among (walking dependencies library n) other)) r.1)
    where
      down : (x d : Name) → (same_name name x ≡ true) ⊎ (not (is_among (walking dependencies library n) x) ≡ true) → Member d (direct dependencies library x) → Short n d
      down x d (inl e) k = short_step n name d s (subst (λ z. Member d (direct dependencies library z)) (sym (same_sound name x e)) k)
      down x d (inr e) k = short_down n x d (short_of n x e) k

      closed : IsClosed dependencies library name (filter (is_short_or n name) (reach dependencies library name))
      closed x d p k =
          let r = in_filter (is_short_or n name) (reach dependencies library name) x p in
          filter_in (is_short_or n name) (reach dependencies library name) d (reach_closed dependencies library name x d r.0 k)
          (or_right (same_name name d) (not (is_among (walking dependencies library n) d)) (of_short n d (down x d (or_cases (same_name name x) (not (is_among (walking dependencies library n) x)) r.1) k)))

  -- what a reached name reaches is reached
  pub reach_within_reach : (name other : Name) → Member other (reach dependencies library name) → (x : Name) → Member x (reach dependencies library other) → Member x (reach dependencies library name)
  reach_within_reach name other m x k = reach_least dependencies library other (reach dependencies library name) (reach_closed dependencies library name) m x k
