-- Walks of graphs, and of libraries whose dependencies a graph holds.
use Rattle.std.proofs.Common.{◌≡◌, ℕ, zero, suc, Bool, true, false, not, cond, List, [], ◌∷◌, length, filter, flat_map, unwrap_or, Option, Some, None, is_some, ◌&&◌, ◌⊎◌, inl, inr, refl, sym, ap, ◌∙◌, true≢false}
use Rattle.std.specs.List.{list_any}
use Rattle.std.proofs.lemmas.Bool.{cases_Bool, and_from, and_parts, not_from_false}
use Rattle.name_meaning.specs.Names.{Name, Text, same_name, is_among, with_name, with_names}
use Rattle.name_meaning.specs.Rows.{row_names, row_of, without_row}
use Rattle.edit_log_meaning.specs.Log.{Library, Module, Edit, Put, Drop, edited, names_of, without_module, text_of, is_present}
use Rattle.module_graph_meaning.specs.Walks.{Dependencies, of_text, direct, walking, ungrounded_names, is_ungrounded, is_grounded}
use Rattle.module_graph_meaning.specs.Reach.{reach_within, reach}
use Rattle.module_graph_meaning.specs.Graphs.{Graph, row_dependencies, row_library, graph_reach, is_graph_ungrounded, graph_grounded, HoldsDependencies}
use Rattle.module_graph_laws.specs.GraphLaws.{graph_edited}
use Rattle.list_laws.proofs.Members.{Member}
use Rattle.name_laws.proofs.Order.{among_member, same_sound}
use Rattle.name_laws.proofs.Rows.{row_with, row_without, row_among, names_with_row}
use Rattle.edit_log_laws.proofs.Libraries.{present_among, text_edited, names_with}
use Rattle.module_graph_laws.proofs.Agreement.{direct_same}
use Rattle.module_graph_laws.proofs.Walking.{names_count, walking_step, walking_present, present_in, in_present, ungrounded_dependency, ungrounded_in, in_ungrounded}

-- ---- the same names and the same direct dependencies

module _ (first second : Dependencies) (library other : Library) (names : names_of library ≡ names_of other)
    (rows : (n : Name) → direct first library n ≡ direct second other n) where
  walking_alike : (k : ℕ) → walking first library k ≡ walking second other k
  unfolding walking
  walking_alike zero = names
  walking_alike (suc k) = λ i. filter (λ n. list_any (is_among (walking_alike k i)) (rows n i)) (names i)

  long_alike : length library ≡ length other
  long_alike = sym (names_count first library) ∙ ap length names ∙ names_count second other

  within_alike : (name : Name) (k : ℕ) → reach_within first library name k ≡ reach_within second other name k
  unfolding reach_within
  within_alike name zero = refl
  within_alike name (suc k) = λ i. with_names (flat_map (λ n. rows n i) (within_alike name k i)) (within_alike name k i)

  pub reach_alike : (name : Name) → reach first library name ≡ reach second other name
  unfolding reach
  reach_alike name = within_alike name (length library) ∙ ap (reach_within second other name) long_alike

  pub ungrounded_alike : (name : Name) → is_ungrounded first library name ≡ is_ungrounded second other name
  unfolding is_ungrounded ungrounded_names
  ungrounded_alike name = ap (λ known. is_among known name) (walking_alike (length library) ∙ ap (walking second other) long_alike)

  present_alike : (name : Name) → is_present library name ≡ is_present other name
  present_alike name = present_among library name ∙ ap (λ known. is_among known name) names ∙ sym (present_among other name)

  pub grounded_alike : (name : Name) → is_grounded first library name ≡ is_grounded second other name
  grounded_alike name = λ i. present_alike name i && not (ungrounded_alike name i)

-- ---- a graph as a library

pub row_library_names : (graph : Graph) → names_of (row_library graph) ≡ row_names graph
row_library_names [] = refl
row_library_names (row ∷ graph) = ap (λ z. row.0 ∷ z) (row_library_names graph)

pub row_present : (graph : Graph) (n : Name) → is_present (row_library graph) n ≡ is_some (row_of graph n)
unfolding text_of row_of
row_present [] n = refl
row_present (row ∷ graph) n = by (same_name n row.0) (row_present graph n)
  where
    by : (b : Bool) → is_some (text_of (row_library graph) n) ≡ is_some (row_of graph n) → is_some (cond b (Some []) (text_of (row_library graph) n)) ≡ is_some (cond b (Some row.1) (row_of graph n))
    by true h = refl
    by false h = h

pub row_direct : (graph : Graph) (n : Name) → direct (row_dependencies graph) (row_library graph) n ≡ unwrap_or (row_of graph n) []
unfolding direct
row_direct graph n = by (text_of (row_library graph) n) (row_of graph n) (row_present graph n)
  where
    by : (text : Option Text) (row : Option (List Name)) → is_some text ≡ is_some row → of_text (λ t. unwrap_or row []) text ≡ unwrap_or row []
    by None None h = refl
    by None (Some row) h = absurd (true≢false (sym h))
    by (Some t) row h = refl

-- ---- a graph that holds the dependencies of a library

absent_direct : (dependencies : Dependencies) (library : Library) (n : Name) → is_present library n ≡ false → direct dependencies library n ≡ []
unfolding direct
absent_direct dependencies library n h = by (text_of library n) h
  where
    by : (text : Option Text) → is_some text ≡ false → of_text (dependencies n) text ≡ []
    by None e = refl
    by (Some t) e = absurd (true≢false e)

absent_row : (row : Option (List Name)) → is_some row ≡ false → unwrap_or row [] ≡ []
absent_row None h = refl
absent_row (Some r) h = absurd (true≢false h)

module _ (graph : Graph) (dependencies : Dependencies) (library : Library) (holds : HoldsDependencies graph dependencies library) where
  held_names : names_of (row_library graph) ≡ names_of library
  held_names = row_library_names graph ∙ holds.names

  pub held_present : (n : Name) → is_some (row_of graph n) ≡ is_present library n
  held_present n = row_among graph n ∙ ap (λ known. is_among known n) holds.names ∙ sym (present_among library n)

  held_rows : (n : Name) → direct (row_dependencies graph) (row_library graph) n ≡ direct dependencies library n
  held_rows n = row_direct graph n ∙ by (cases_Bool (is_present library n))
    where
      by : (is_present library n ≡ true) ⊎ (is_present library n ≡ false) → unwrap_or (row_of graph n) [] ≡ direct dependencies library n
      by (inl h) = ap (λ row. unwrap_or row []) (holds.rows n h)
      by (inr h) = absent_row (row_of graph n) (held_present n ∙ h) ∙ sym (absent_direct dependencies library n h)

  pub graph_reaches : (name : Name) → graph_reach graph name ≡ reach dependencies library name
  unfolding graph_reach
  graph_reaches name = reach_alike (row_dependencies graph) dependencies (row_library graph) library held_names held_rows name

  pub graph_is_ungrounded : (name : Name) → is_graph_ungrounded graph name ≡ is_ungrounded dependencies library name
  unfolding is_graph_ungrounded
  graph_is_ungrounded name = ungrounded_alike (row_dependencies graph) dependencies (row_library graph) library held_names held_rows name

  pub graph_grounds : graph_grounded graph ≡ filter (is_grounded dependencies library) (names_of library)
  unfolding graph_grounded
  graph_grounds = λ i. filter (λ n. grounded_alike (row_dependencies graph) dependencies (row_library graph) library held_names held_rows n i) (holds.names i)

-- ---- a graph after an edit of its library

direct_some : (dependencies : Dependencies) (library : Library) (n : Name) (t : Text) → text_of library n ≡ Some t → direct dependencies library n ≡ dependencies n t
unfolding direct
direct_some dependencies library n t h = ap (of_text (dependencies n)) h

names_kept : (p : Module → Bool) (q : Name × List Name → Bool) → ((n : Name) (t : Text) (d : List Name) → p (record { name = n; text = t }) ≡ q (n, d))
    → (graph : Graph) (library : Library) → row_names graph ≡ names_of library → row_names (filter q graph) ≡ names_of (filter p library)
names_kept p q same [] [] h = refl
names_kept p q same [] (own ∷ library) h = absurd (cc)
names_kept p q same (row ∷ graph) [] h = absurd (cc)
names_kept p q same (row ∷ graph) (own ∷ library) h =
    let e : row.0 ≡ own.name = cc in
    let f : row_names graph ≡ names_of library = cc in
    by (p own) (q row) (same own.name own.text row.1 ∙ ap (λ (n : Name). q (n, row.1)) (sym e)) e (names_kept p q same graph library f)
  where
    by : (b c : Bool) → b ≡ c → row.0 ≡ own.name → row_names (filter q graph) ≡ names_of (filter p library)
        → row_names (cond c (row ∷ filter q graph) (filter q graph)) ≡ names_of (cond b (own ∷ filter p library) (filter p library))
    by true true s e h = λ i. e i ∷ h i
    by true false s e h = absurd (true≢false s)
    by false true s e h = absurd (true≢false (sym s))
    by false false s e h = h

names_after : (dependencies : Dependencies) (graph : Graph) (library : Library) (edit : Edit) → row_names graph ≡ names_of library → row_names (graph_edited dependencies graph edit) ≡ names_of (edited library edit)
unfolding without_row without_module
names_after dependencies graph library (Put n t) h = names_with_row n (dependencies n t) graph ∙ ap (with_name n) h ∙ sym (names_with n t library)
names_after dependencies graph library (Drop n) h = names_kept (λ (own : Module). not (same_name n own.name)) (λ (row : Name × List Name). not (same_name n row.0)) (λ m t d. refl) graph library h

module _ (graph : Graph) (dependencies : Dependencies) (library : Library) (holds : HoldsDependencies graph dependencies library) where
  -- the row of a name that an edit leaves as it is
  row_left : (edit : Edit) (name : Name) → is_present (edited library edit) name ≡ true → text_of (edited library edit) name ≡ text_of library name
      → row_of graph name ≡ Some (direct dependencies (edited library edit) name)
  row_left edit name p same =
      holds.rows name (ap is_some (sym same) ∙ p) ∙ ap Some (sym (direct_same dependencies (edited library edit) library name same))

  row_put : (n : Name) (t : Text) (name : Name) (b : Bool) → same_name name n ≡ b → is_present (edited library (Put n t)) name ≡ true
      → cond b (Some (dependencies n t)) (row_of graph name) ≡ Some (direct dependencies (edited library (Put n t)) name)
  row_put n t name true e p =
      ap Some (sym (direct_some dependencies (edited library (Put n t)) name t (text_edited library (Put n t) name ∙ ap (λ c. cond c (Some t) (text_of library name)) e) ∙ ap (λ m. dependencies m t) (same_sound name n e)))
  row_put n t name false e p = row_left (Put n t) name p (text_edited library (Put n t) name ∙ ap (λ c. cond c (Some t) (text_of library name)) e)

  row_dropped : (n : Name) (name : Name) (b : Bool) → same_name name n ≡ b → is_present (edited library (Drop n)) name ≡ true
      → cond b None (row_of graph name) ≡ Some (direct dependencies (edited library (Drop n)) name)
  row_dropped n name true e p = absurd (true≢false (sym p ∙ ap is_some (text_edited library (Drop n) name ∙ ap (λ c. cond c None (text_of library name)) e)))
  row_dropped n name false e p = row_left (Drop n) name p (text_edited library (Drop n) name ∙ ap (λ c. cond c None (text_of library name)) e)

  pub edited_holds : (edit : Edit) → HoldsDependencies (graph_edited dependencies graph edit) dependencies (edited library edit)
  edited_holds edit = record { names = names_after dependencies graph library edit holds.names; rows = rows edit }
    where
      rows : (edit : Edit) (name : Name) → is_present (edited library edit) name ≡ true → row_of (graph_edited dependencies graph edit) name ≡ Some (direct dependencies (edited library edit) name)
      rows (Put n t) name p = row_with n (dependencies n t) graph name ∙ row_put n t name (same_name name n) refl p
      rows (Drop n) name p = row_without n graph name ∙ row_dropped n name (same_name name n) refl p

pub empty_holds : (dependencies : Dependencies) → HoldsDependencies [] dependencies []
unfolding text_of
empty_holds dependencies = record { names = refl; rows = λ n p. absurd (true≢false (sym p)) }

-- ---- peeling

module _ (dependencies : Dependencies) (library : Library) where
  -- a present name all of whose present dependencies are grounded is grounded
  pub peeled_grounded : (n : Name) → is_present library n ≡ true
      → ((d : Name) → Member d (direct dependencies library n) → is_present library d ≡ true → is_grounded dependencies library d ≡ true)
      → is_grounded dependencies library n ≡ true
  peeled_grounded n p h = and_from (is_present library n) (not (is_ungrounded dependencies library n)) p (by (cases_Bool (is_ungrounded dependencies library n)))
    where
      clash : (b : Bool) → not b ≡ true → b ≡ true → ⊥
      clash true f g = true≢false (sym f)
      clash false f g = true≢false (sym g)

      by : (is_ungrounded dependencies library n ≡ true) ⊎ (is_ungrounded dependencies library n ≡ false) → not (is_ungrounded dependencies library n) ≡ true
      by (inr u) = not_from_false (is_ungrounded dependencies library n) u
      by (inl u) =
          let q = ungrounded_dependency dependencies library n u in
          let present : is_present library q.0 ≡ true = in_present dependencies library q.0 (walking_present dependencies library (length library) q.0 (ungrounded_in dependencies library q.0 q.2)) in
          absurd (clash (is_ungrounded dependencies library q.0)
          (and_parts (is_present library q.0) (not (is_ungrounded dependencies library q.0)) (h q.0 (among_member (direct dependencies library n) q.0 q.1) present)).1 q.2)

  -- present names each of which has one of them as a dependency are ungrounded
  pub left_ungrounded : (P : Name → Type 0) → ((n : Name) → P n → (is_present library n ≡ true) × ((d : Name) × Member d (direct dependencies library n) × P d))
      → (n : Name) → P n → is_grounded dependencies library n ≡ false
  unfolding walking
  left_ungrounded P h n p = not_grounded (is_present library n) (is_ungrounded dependencies library n) (in_ungrounded dependencies library n (walks (length library) n p))
    where
      not_grounded : (b c : Bool) → c ≡ true → (b && not c) ≡ false
      not_grounded true true e = refl
      not_grounded true false e = absurd (true≢false (sym e))
      not_grounded false c e = refl

      walks : (k : ℕ) (n : Name) → P n → Member n (walking dependencies library k)
      walks zero n p = present_in dependencies library n (h n p).0
      walks (suc k) n p = let q = (h n p).1 in walking_step dependencies library k n q.0 q.1 (walks k q.0 q.2)
