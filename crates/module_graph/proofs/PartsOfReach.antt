-- What a name reaches, by what its direct dependencies reach.
use Rattle.std.proofs.Common.{◌≡◌, List, [], ◌∷◌, ◌++◌, inl, ⊎_elim, refl, sym, ◌∙◌, subst}
use Rattle.name_meaning.specs.Names.{Name, is_ascending, with_name}
use Rattle.edit_log_meaning.specs.Log.{Library}
use Rattle.module_graph_meaning.specs.Walks.{Dependencies, direct}
use Rattle.module_graph_meaning.specs.Reach.{reach}
use Rattle.list_laws.proofs.Members.{Member, in_append, append_left}
use Rattle.name_laws.proofs.Order.{in_with, with_new, with_old, with_ascending}
use Rattle.module_graph_laws.proofs.Reaching.{one_list, reach_closed, reach_first, reach_least, reach_ascending}
use Rattle.module_graph.specs.ReachParts.{IsJoin, IsReachAmong, AreParts}

module _ (dependencies : Dependencies) (library : Library) where
  -- what a direct dependency reaches is reached
  pub dependency_reach : (name d x : Name) → Member d (direct dependencies library name) → Member x (reach dependencies library d) → Member x (reach dependencies library name)
  dependency_reach name d x m h =
      reach_least dependencies library d (reach dependencies library name) (reach_closed dependencies library name)
      (reach_closed dependencies library name name d (reach_first dependencies library name) m) x h

  -- a name without dependencies reaches itself alone
  pub bare_reach : (name : Name) → ((d : Name) → Member d (direct dependencies library name) → ⊥) → name ∷ [] ≡ reach dependencies library name
  unfolding is_ascending
  bare_reach name none =
      one_list (name ∷ []) (reach dependencies library name) refl (reach_ascending dependencies library name)
      (λ x m. ⊎_elim (λ q. subst (λ z. Member z (reach dependencies library name)) (sym q) (reach_first dependencies library name)) (λ q. absurd q) m)
      (reach_least dependencies library name (name ∷ [])
      (λ x d m n. ⊎_elim (λ q. absurd (none d (subst (λ z. Member d (direct dependencies library z)) q n))) (λ q. absurd q) m) (inl refl))

  -- the joined reaches of all direct dependencies, and the name
  pub joined_reach : (name : Name) (lists : List (List Name)) (names : List Name) → AreParts dependencies library (direct dependencies library name) (direct dependencies library name) lists → IsJoin lists names
      → with_name name names ≡ reach dependencies library name
  joined_reach name lists names k j =
      one_list (with_name name names) (reach dependencies library name) (with_ascending name names j.ascending) (reach_ascending dependencies library name) within
      (reach_least dependencies library name (with_name name names) closed (with_new name names))
    where
      within : (x : Name) → Member x (with_name name names) → Member x (reach dependencies library name)
      within x m =
          ⊎_elim (λ e. subst (λ z. Member z (reach dependencies library name)) (sym e) (reach_first dependencies library name))
          (λ n. let q = j.comes x n in let r = k.reaches q.0 q.1 in dependency_reach name r.0 x r.1 (subst (Member x) r.2 q.2))
          (in_with name names x m)

      own : (d : Name) → Member d (direct dependencies library name) → Member d (with_name name names)
      own d n = let q = k.holds d n in with_old name names d (j.has q.0 d q.1 q.2)

      closed : (x d : Name) → Member x (with_name name names) → Member d (direct dependencies library x) → Member d (with_name name names)
      closed x d m n =
          ⊎_elim (λ e. own d (subst (λ z. Member d (direct dependencies library z)) e n))
          (λ w. let q = j.comes x w in let r = k.reaches q.0 q.1 in
          with_old name names d (j.has q.0 d q.1 (subst (Member d) (sym r.2) (reach_closed dependencies library r.0 x d (subst (Member x) r.2 q.2) n))))
          (in_with name names x m)

  -- ---- parts, one after another

  pub parts_none : (names : List Name) → AreParts dependencies library names [] []
  parts_none names = record { reaches = λ list m. absurd m; holds = λ name m. absurd m }

  -- one more part
  pub parts_add : (names done : List Name) (lists : List (List Name)) (list : List Name) → AreParts dependencies library names done lists → IsReachAmong dependencies library names list
      → AreParts dependencies library names done (lists ++ list ∷ [])
  parts_add names done lists list k r = record {
    reaches = λ other m. ⊎_elim (λ q. k.reaches other q)
        (λ q. ⊎_elim (λ e. (r.0, r.1, e ∙ r.2)) (λ none. absurd none) q) (in_append lists (list ∷ []) other m);
    holds = λ name m. let q = k.holds name m in (q.0, append_left lists (list ∷ []) q.0 q.1, q.2);
  }

  -- one more name that is in a part
  pub parts_more : (names done : List Name) (lists : List (List Name)) (name : Name) → AreParts dependencies library names done lists → (list : List Name) → Member list lists → Member name list
      → AreParts dependencies library names (done ++ name ∷ []) lists
  parts_more names done lists name k list m n = record {
    reaches = k.reaches;
    holds = λ other o. ⊎_elim (λ q. k.holds other q)
        (λ q. ⊎_elim (λ e. (list, m, subst (λ z. Member z list) (sym e) n)) (λ none. absurd none) q) (in_append done (name ∷ []) other o);
  }
