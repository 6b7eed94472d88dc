-- The graph that is read off a library's texts, one module after another.
use Rattle.std.proofs.Common.{◌≡◌, ℕ, suc, ◌<◌, length, ◌-◌, arith, zero, Bool, true, false, inl, inr, Option, List, [], ◌∷◌, ◌++◌, take, slice_get, Some, None, is_some, cond, refl, sym, ap, ◌∙◌, subst, true≢false}
use Rattle.std.proofs.lemmas.Bool.{and_parts}
use Rattle.std.proofs.lemmas.List.{length-map}
use Rattle.name_meaning.specs.Names.{Name, same_name, comes_before, is_among, is_ascending, with_name}
use Rattle.name_meaning.specs.Rows.{row_names, row_of, with_row}
use Rattle.name_laws.proofs.Order.{same_sound}
use Rattle.name_laws.proofs.Rows.{different, not_before, row_with, names_with_row, row_among}
use Rattle.edit_log_meaning.specs.Log.{Library, is_present, names_of}
use Rattle.edit_log_laws.proofs.Libraries.{present_among}
use Rattle.list_laws.proofs.Members.{Member, place_member, all_at}
use Rattle.list_laws.proofs.Places.{take_more, place_within, length_take}
use Rattle.module_graph_meaning.specs.Walks.{Dependencies, direct}
use Rattle.module_graph_meaning.specs.Graphs.{Graph, HoldsDependencies}

-- A name that comes after all others stands at the end.
with_last : (n : Name) (names : List Name) → ((m : Name) → Member m names → comes_before m n ≡ true) → with_name n names ≡ names ++ n ∷ []
unfolding with_name
with_last n [] h = refl
with_last n (m ∷ names) h =
    (λ i. cond (different m n (h m (inl refl)) i) (m ∷ names) (cond (not_before m n (h m (inl refl)) i) (n ∷ m ∷ names) (m ∷ with_name n names)))
    ∙ ap (λ z. m ∷ z) (with_last n names (λ k p. h k (inr p)))

-- The names before a place come before the name there.
before_here : (names : List Name) (i : ℕ) (n : Name) → is_ascending names ≡ true → slice_get names i ≡ Some n → (m : Name) → Member m (take i names) → comes_before m n ≡ true
unfolding is_ascending
before_here [] i n t h m p = absurd (cc)
before_here (k ∷ names) zero n t h m p = absurd p
before_here (k ∷ names) (suc i) n t h m (inl e) =
    subst (λ z. comes_before z n ≡ true) (sym e) (all_at (comes_before k) names n (and_parts _ _ t).0 (place_member names i n h))
before_here (k ∷ names) (suc i) n t h m (inr p) = before_here names i n (and_parts _ _ t).1 h m p

module _ (dependencies : Dependencies) (library : Library) where
  -- The graph has the first names of the library, each with its direct dependencies.
  pub record HoldsFirst (graph : Graph) : Type 0 where
    pub names : row_names graph ≡ take (length graph) (names_of library)
    pub rows : (name : Name) (own : List Name) → row_of graph name ≡ Some own → own ≡ direct dependencies library name

  pub none_held : HoldsFirst []
  unfolding row_of
  none_held = record { names = refl; rows = λ name own h. absurd (cc) }

  module _ (graph : Graph) (n : Name) (t : is_ascending (names_of library) ≡ true) (here : slice_get (names_of library) (length graph) ≡ Some n) (held : HoldsFirst graph) where
    abbrev pub more : Graph
    more = with_row n (direct dependencies library n) graph

    names_more : row_names more ≡ take (suc (length graph)) (names_of library)
    names_more =
        names_with_row n (direct dependencies library n) graph
        ∙ ap (with_name n) held.names
        ∙ with_last n (take (length graph) (names_of library)) (before_here (names_of library) (length graph) n t here)
        ∙ sym (take_more (names_of library) (length graph) n here)

    pub one_more : length more ≡ suc (length graph)
    one_more =
        let w = place_within (names_of library) (length graph) n here in
        sym (length-map more (λ (row : Name × List Name). row.0)) ∙ ap length names_more ∙ length_take (names_of library) (suc (length graph)) (omega (arith, w))

    pub next_held : HoldsFirst more
    next_held = record { names = names_more ∙ ap (λ k. take k (names_of library)) (sym one_more); rows = rows }
      where
        by : (name : Name) (own : List Name) (b : Bool) → same_name name n ≡ b → cond b (Some (direct dependencies library n)) (row_of graph name) ≡ Some own → own ≡ direct dependencies library name
        by name own true e h = let q : direct dependencies library n ≡ own = cc in sym q ∙ ap (direct dependencies library) (sym (same_sound name n e))
        by name own false e h = held.rows name own h

        rows : (name : Name) (own : List Name) → row_of more name ≡ Some own → own ≡ direct dependencies library name
        rows name own h = by name own (same_name name n) refl (sym (row_with n (direct dependencies library n) graph name) ∙ h)

    -- One name less is left.
    pub less_left : length (names_of library) - length more < length (names_of library) - length graph
    less_left = let w = place_within (names_of library) (length graph) n here in let m = one_more in omega (arith, w, m)

  -- All of it.
  pub all_held : (graph : Graph) → slice_get (names_of library) (length graph) ≡ None → HoldsFirst graph → HoldsDependencies graph dependencies library
  all_held graph past held = record { names = names; rows = rows }
    where
      taken : {A : Type 0} (xs : List A) (i : ℕ) → slice_get xs i ≡ None → take i xs ≡ xs
      taken [] zero h = refl
      taken [] (suc i) h = refl
      taken (x ∷ xs) zero h = absurd (cc)
      taken (x ∷ xs) (suc i) h = ap (λ z. x ∷ z) (taken xs i h)

      names : row_names graph ≡ names_of library
      names = held.names ∙ taken (names_of library) (length graph) past

      rows : (name : Name) → is_present library name ≡ true → row_of graph name ≡ Some (direct dependencies library name)
      rows name p = by (row_of graph name) refl (row_among graph name ∙ ap (λ z. is_among z name) names ∙ sym (present_among library name) ∙ p)
        where
          by : (o : Option (List Name)) → row_of graph name ≡ o → is_some o ≡ true → o ≡ Some (direct dependencies library name)
          by None h q = absurd (true≢false (sym q))
          by (Some own) h q = ap (λ z. Some z) (held.rows name own h)
