-- The candidates of a board over each change of its tables.
use Rattle.std.proofs.Common.{◌≡◌, ℕ, zero, suc, ◌<◌, ◌≤◌, Bool, true, false, cond, not, List, [], ◌∷◌, ◌++◌, get_or, length, replicate, set, slice_get, take, option_map, Some, None, is_some, ◌⊎◌, inl, inr, ⊎_elim, refl, sym, ap, ◌∙◌, subst, true≢false, arith}
use Rattle.std.proofs.lemmas.List.{length-map, length-replicate, length-take}
use Rattle.std.proofs.lemmas.Option.{slice_get-get_or, slice_get-map, same_Some}
use Rattle.name_meaning.specs.Names.{Name, same_name, is_ascending, with_name}
use Rattle.name_meaning.specs.Rows.{Rows, row_names, row_of, with_row, IsTable, IsGap}
use Rattle.name_laws.proofs.Order.{same_sound, with_present, among_member}
use Rattle.name_laws.proofs.Rows.{row_with, names_with_row, row_among, row_absent, gap_absent, table_with, row_at}
use Rattle.module_graph_meaning.specs.Graphs.{Graph}
use Rattle.list_laws.proofs.Members.{Member, in_append, append_left, append_right, place_member}
use Rattle.list_laws.proofs.Places.{place_within, take_more, get_take, length_take}
use Rattle.std.proofs.Math.ListN.{length-set}
use Rattle.verdict_board.specs.declared.stage.Stage.{Stage}
use Rattle.verdict_board.specs.Stages.{is_waiting, standing_in}
use Rattle.list_laws.proofs.Writes.{AreEmpty, set_here, set_found, set_left, set_value}
use Rattle.name_laws.proofs.Sorted.{one_place}
use Rattle.verdict_board.specs.PlaceSets.{NoneBefore}
use Rattle.verdict_board.specs.Readiness.{awaits_claim, lacks_verdict, IsBlocked, IsLacking, IsParked, IsReadyAt, IsUnreadyAt, NoneLacks, AreCandidates, AreAll, AreMarked}

-- ---- lists

all_true : (n i : ℕ) → slice_get (replicate n true) i ≡ Some false → ⊥
all_true zero i h = cc
all_true (suc n) zero h = cc
all_true (suc n) (suc i) h = all_true n i h

pub all_new : {W : Type 0} (items : W → List ℕ) (count : ℕ) (candidate : List Bool) (parked : List W) → candidate ≡ replicate count true → AreEmpty items parked count → AreAll items count candidate parked
all_new items count candidate parked c p = record {
  each_candidate = ap length c ∙ length-replicate count true;
  each_parked = p.long;
  all = λ place h. all_true count place (ap (λ xs. slice_get xs place) (sym c) ∙ h);
  none_parked = λ at place list h m. subst (λ xs. Member place xs) (p.each at list h) m;
}

-- one place more is marked
pub marked_more : (before now : List Bool) (places : List ℕ) (i place : ℕ) → slice_get places i ≡ Some place → AreMarked before now (take i places) → AreMarked before (set now place true) (take (suc i) places)
marked_more before now places i place h m other f =
    let old : slice_get now other ≡ Some false = ⊎_elim (λ q. absurd (true≢false (sym q.1))) (λ q. q) (set_found now place true other false f) in (
      (m other old).0,
      λ among. ⊎_elim (λ q. (m other old).1 q)
          (λ q. ⊎_elim (λ (e : other ≡ place). true≢false (sym (set_value now place true false (subst (λ (z : ℕ). slice_get (set now place true) z ≡ Some false) e f)))) (λ none. none) q)
          (in_append (take i places) (place ∷ []) other (subst (Member other) (take_more places i place h) among)),
    )

-- ---- rows

module _ {A : Type 0} (rows : Rows A) where
  pub named_at : (i : ℕ) (n : Name) (v : A) → slice_get rows i ≡ Some (n, v) → slice_get (row_names rows) i ≡ Some n
  named_at i n v h = slice_get-map (λ (row : Name × A). row.0) rows i ∙ ap (option_map (λ (row : Name × A). row.0)) h

  -- what stands under the name at a place
  pub row_here : IsTable rows → (i : ℕ) (n m : Name) (v : A) → slice_get (row_names rows) i ≡ Some n → slice_get rows i ≡ Some (m, v) → row_of rows n ≡ Some v
  row_here t i n m v g h = subst (λ (z : Name). row_of rows z ≡ Some v) (same_Some _ _ (sym (named_at i m v h) ∙ g)) (row_at m v rows i t h)

  pub not_found : (i : ℕ) (n : Name) → IsGap (row_names rows) n i → row_of rows n ≡ None
  not_found i n gap = row_absent n rows (λ m. gap_absent n (row_names rows) i gap m)

  pub names_long : length (row_names rows) ≡ length rows
  names_long = length-map rows (λ (row : Name × A). row.0)

-- ---- the names of the stages, after the stage of one of them is another

module _ {Answer : Type 0} (stages : Rows (Stage Answer)) (t : IsTable stages) (n : Name) (stage : Stage Answer) (there : is_some (row_of stages n) ≡ true) where
  pub names_put : row_names (with_row n stage stages) ≡ row_names stages
  names_put = names_with_row n stage stages ∙ with_present n (row_names stages) t (among_member (row_names stages) n (sym (row_among stages n) ∙ there))

  pub long_put : length (with_row n stage stages) ≡ length stages
  long_put = sym (names_long (with_row n stage stages)) ∙ ap length names_put ∙ names_long stages

-- ---- names without a standing verdict

module _ {Answer : Type 0} (stages : Rows (Stage Answer)) (t : IsTable stages) where
  pub stage_lacks : (place : ℕ) (n m : Name) (stage : Stage Answer) (b : Bool) → slice_get (row_names stages) place ≡ Some n → slice_get stages place ≡ Some (m, stage) → not (is_some (standing_in stage)) ≡ b
      → lacks_verdict (row_of stages n) ≡ b
  stage_lacks place n m stage b g h e = ap lacks_verdict (row_here stages t place n m stage g h) ∙ e

  pub absent_lacks : (n : Name) (place : ℕ) → IsGap (row_names stages) n place → lacks_verdict (row_of stages n) ≡ false
  absent_lacks n place gap = ap lacks_verdict (not_found stages place n gap)

  pub none_more : (names : List Name) (i : ℕ) (name : Name) → slice_get names i ≡ Some name → NoneLacks stages (take i names) → lacks_verdict (row_of stages name) ≡ false → NoneLacks stages (take (suc i) names)
  none_more names i name h none e other among =
      ⊎_elim (λ q. none other q)
      (λ q. ⊎_elim (λ (same : other ≡ name). subst (λ (z : Name). lacks_verdict (row_of stages z) ≡ false) (sym same) e) (λ none. absurd none) q)
      (in_append (take i names) (name ∷ []) other (subst (Member other) (take_more names i name h) among))

-- ---- the first candidates

get_first : {A : Type 0} (xs : List A) (count i : ℕ) (x : A) → slice_get (take count xs) i ≡ Some x → slice_get xs i ≡ Some x
get_first xs count i x h =
    let w = place_within (take count xs) i x h in
    let l = length-take count xs in
    sym (get_take xs i count (omega (arith, w, l))) ∙ h

pub first_all : {W : Type 0} (items : W → List ℕ) (count more : ℕ) (candidate : List Bool) (parked : List W) → count ≤ more → AreAll items more candidate parked → AreAll items count (take count candidate) (take count parked)
first_all items count more candidate parked less a = record {
  each_candidate = length_take candidate count (let e = a.each_candidate in omega (arith, e, less));
  each_parked = length_take parked count (let e = a.each_parked in omega (arith, e, less));
  all = λ place h. a.all place (get_first candidate count place false h);
  none_parked = λ at place list h m. a.none_parked at place list (get_first parked count at list h) m;
}

module _ {Answer W : Type 0} (stages : Rows (Stage Answer)) (graph : Graph) (items : W → List ℕ) where
  -- modules that are all candidates
  pub all_kept : (count : ℕ) (candidate : List Bool) (parked : List W) → IsTable stages → row_names stages ≡ row_names graph → count ≡ length stages → AreAll items count candidate parked → AreCandidates stages graph items candidate parked
  all_kept count candidate parked t names long a = record {
    table = t;
    names = names;
    each_candidate = a.each_candidate ∙ long;
    each_parked = a.each_parked ∙ long;
    within = λ at place list h m. absurd (a.none_parked at place list h m);
    closed = λ place name h f. absurd (a.all place f);
  }

  module _ (candidate : List Bool) (parked : List W) (k : AreCandidates stages graph items candidate parked) where
    -- a module more is parked, or none is
    pub parked_more : (at : ℕ) (old new : W) → slice_get parked at ≡ Some old → ((place : ℕ) → Member place (items old) → Member place (items new))
        → ((place : ℕ) → Member place (items new) → place < length stages) → AreCandidates stages graph items candidate (set parked at new)
    parked_more at old new h more within = record {
      table = k.table;
      names = k.names;
      each_candidate = k.each_candidate;
      each_parked = length-set parked at new ∙ k.each_parked;
      within = λ other place list g m.
          ⊎_elim (λ q. within place (subst (λ (w : W). Member place (items w)) q.1 m)) (λ q. k.within other place list q m) (set_found parked at new other list g);
      closed = λ place name g f. ⊎_elim (λ w. inl w) (λ p. inr (still place name p)) (k.closed place name g f);
    }
      where
        still : (place : ℕ) (name : Name) → IsParked stages graph items parked place name → IsParked stages graph items (set parked at new) place name
        still place name p =
            ⊎_elim
            (λ (same : p.at ≡ at).
            let list : Some old ≡ Some p.list = sym h ∙ ap (slice_get parked) (sym same) ∙ p.lists in
            let equal : p.list ≡ old = cc in
            record {
              other = p.other;
              blocked = p.blocked;
              at = p.at;
              named = p.named;
              list = new;
              lists = ap (slice_get (set parked at new)) same ∙ set_here parked at new (place_within parked at old h);
              waits = more place (subst (λ (w : W). Member place (items w)) equal p.waits);
            })
            (λ q. record {
              other = p.other;
              blocked = p.blocked;
              at = p.at;
              named = p.named;
              list = p.list;
              lists = q;
              waits = p.waits;
            })
            (set_left parked at new p.at p.list p.lists)

    -- a module is no candidate any more
    pub closed_more : (place : ℕ) → ((name : Name) → slice_get (row_names stages) place ≡ Some name → (awaits_claim (row_of stages name) ≡ false) ⊎ IsParked stages graph items parked place name)
        → AreCandidates stages graph items (set candidate place false) parked
    closed_more place own = record {
      table = k.table;
      names = k.names;
      each_candidate = length-set candidate place false ∙ k.each_candidate;
      each_parked = k.each_parked;
      within = k.within;
      closed = λ other name h f.
          ⊎_elim (λ q. subst (λ (i : ℕ). (awaits_claim (row_of stages name) ≡ false) ⊎ IsParked stages graph items parked i name) (sym q.0) (own name (ap (slice_get (row_names stages)) (sym q.0) ∙ h))) (λ q. k.closed other name h q)
          (set_found candidate place false other false f);
    }

    -- ---- a look at a module

    pub places_same : length graph ≡ length stages
    places_same = sym (names_long graph) ∙ ap length (sym k.names) ∙ names_long stages

    pub no_candidate : (place : ℕ) → slice_get candidate place ≡ Some false → IsUnreadyAt stages graph place
    no_candidate place f name h = ⊎_elim (λ w. inl w) (λ p. inr (p.other, p.blocked)) (k.closed place name h f)

    pub none_ready_before : (begin : ℕ) → NoneBefore begin candidate → (place : ℕ) → place < begin → IsUnreadyAt stages graph place
    none_ready_before begin none place before name h = no_candidate place (out (get_or candidate place false) refl) name h
      where
        here : slice_get candidate place ≡ Some (get_or candidate place false)
        here =
            let within = place_within (row_names stages) place name h in
            let named = names_long stages in
            let each = k.each_candidate in
            slice_get-get_or candidate place false (omega (arith, within, named, each))

        out : (b : Bool) → get_or candidate place false ≡ b → slice_get candidate place ≡ Some false
        out true q = absurd (none place before (here ∙ ap Some q))
        out false q = here ∙ ap Some q

    pub not_waiting : (place : ℕ) (m : Name) (stage : Stage Answer) → slice_get stages place ≡ Some (m, stage) → is_waiting stage ≡ false
        → (name : Name) → slice_get (row_names stages) place ≡ Some name → awaits_claim (row_of stages name) ≡ false
    not_waiting place m stage h w name g = ap awaits_claim (row_here stages k.table place name m stage g h) ∙ w

    pub blocked : (place : ℕ) (m : Name) (dependencies : List Name) (other : ℕ) → slice_get graph place ≡ Some (m, dependencies) → (found : IsLacking stages dependencies other)
        → (name : Name) → slice_get (row_names stages) place ≡ Some name → IsBlocked stages graph name found.name
    blocked place m dependencies other h found name g = record {
      dependencies = dependencies;
      row = row_here graph (ap is_ascending (sym k.names) ∙ k.table) place name m dependencies (ap (λ names. slice_get names place) (sym k.names) ∙ g) h;
      depends = found.among;
      lacks = found.lacks;
    }

    pub ready_here : (place : ℕ) (n m : Name) (stage : Stage Answer) (dependencies : List Name) → slice_get stages place ≡ Some (n, stage) → is_waiting stage ≡ true
        → slice_get graph place ≡ Some (m, dependencies) → NoneLacks stages dependencies → IsReadyAt stages graph place
    ready_here place n m stage dependencies h w g rests =
        let named = named_at stages place n stage h in (
          n,
          named,
          record {
            waits = ap awaits_claim (row_at n stage stages place k.table h) ∙ w;
            dependencies = dependencies;
            row = row_here graph (ap is_ascending (sym k.names) ∙ k.table) place n m dependencies (ap (λ names. slice_get names place) (sym k.names) ∙ named) g;
            rests = rests;
          },
        )

    -- the list of those that are parked is as it was, though written anew
    pub parked_same : (at : ℕ) (old new : W) → slice_get parked at ≡ Some old → items new ≡ items old → AreCandidates stages graph items candidate (set parked at new)
    parked_same at old new h e = parked_more at old new h (λ place m. subst (Member place) (sym e) m) (λ place m. k.within at place old h (subst (Member place) e m))

    -- none is parked at a module that has a standing verdict
    pub parked_none : (at : ℕ) (n : Name) (new : W) → slice_get (row_names stages) at ≡ Some n → lacks_verdict (row_of stages n) ≡ false → items new ≡ [] → AreCandidates stages graph items candidate (set parked at new)
    parked_none at n new named stands e = record {
      table = k.table;
      names = k.names;
      each_candidate = k.each_candidate;
      each_parked = length-set parked at new ∙ k.each_parked;
      within = λ other place list g m.
          ⊎_elim (λ q. absurd (subst (Member place) (ap items q.1 ∙ e) m)) (λ q. k.within other place list q m) (set_found parked at new other list g);
      closed = λ place name g f. ⊎_elim (λ w. inl w) (λ p. inr (still place name p)) (k.closed place name g f);
    }
      where
        still : (place : ℕ) (name : Name) → IsParked stages graph items parked place name → IsParked stages graph items (set parked at new) place name
        still place name p = record {
          other = p.other;
          blocked = p.blocked;
          at = p.at;
          named = p.named;
          list = p.list;
          lists = ⊎_elim
              (λ (same : p.at ≡ at).
              let one : p.other ≡ n = same_Some _ _ (sym p.named ∙ ap (slice_get (row_names stages)) same ∙ named) in
              absurd (true≢false (sym p.blocked.lacks ∙ ap (λ (z : Name). lacks_verdict (row_of stages z)) one ∙ stands)))
              (λ q. q) (set_left parked at new p.at p.list p.lists);
          waits = p.waits;
        }

    -- a module has other direct dependencies, and is a candidate
    pub wired : (n : Name) (dependencies : List Name) (place : ℕ) → slice_get (row_names stages) place ≡ Some n → AreCandidates stages (with_row n dependencies graph) items (set candidate place true) parked
    wired n dependencies place named = record {
      table = k.table;
      names = names_same;
      each_candidate = length-set candidate place true ∙ k.each_candidate;
      each_parked = k.each_parked;
      within = k.within;
      closed = λ other name h f.
          let before : slice_get candidate other ≡ Some false = ⊎_elim (λ q. absurd (true≢false (sym q.1))) (λ q. q) (set_found candidate place true other false f) in
          ⊎_elim (λ w. inl w) (λ p. inr (still other name h f p)) (k.closed other name h before);
    }
      where
        names_same : row_names stages ≡ row_names (with_row n dependencies graph)
        names_same =
            sym (with_present n (row_names stages) k.table (place_member (row_names stages) place n named)) ∙ ap (with_name n) k.names ∙ sym (names_with_row n dependencies graph)

        -- another module has the direct dependencies that it had
        row_left : (other : ℕ) (name : Name) → slice_get (row_names stages) other ≡ Some name → slice_get (set candidate place true) other ≡ Some false → (b : Bool) → same_name name n ≡ b
            → cond b (Some dependencies) (row_of graph name) ≡ row_of graph name
        row_left other name h f true q =
            let here : place ≡ other = one_place (row_names stages) place other n k.table named (h ∙ ap Some (same_sound name n q)) in
            absurd (true≢false (sym (set_value candidate place true false (ap (slice_get (set candidate place true)) here ∙ f))))
        row_left other name h f false q = refl

        still : (other : ℕ) (name : Name) → slice_get (row_names stages) other ≡ Some name → slice_get (set candidate place true) other ≡ Some false → IsParked stages graph items parked other name
            → IsParked stages (with_row n dependencies graph) items parked other name
        still other name h f p = record {
          other = p.other;
          blocked = record {
            dependencies = p.blocked.dependencies;
            row = row_with n dependencies graph name ∙ row_left other name h f (same_name name n) refl ∙ p.blocked.row;
            depends = p.blocked.depends;
            lacks = p.blocked.lacks;
          };
          at = p.at;
          named = p.named;
          list = p.list;
          lists = p.lists;
          waits = p.waits;
        }

    -- a module is parked
    pub parked_one : (place at : ℕ) (m : Name) (dependencies : List Name) (old new : W) → place < length stages → slice_get graph place ≡ Some (m, dependencies) → IsLacking stages dependencies at
        → slice_get parked at ≡ Some old → items new ≡ items old ++ place ∷ [] → AreCandidates stages graph items candidate (set parked at new)
    parked_one place at m dependencies old new less g found h e =
        parked_more at old new h (λ other i. subst (Member other) (sym e) (append_left (items old) (place ∷ []) other i))
        (λ other i. ⊎_elim (λ q. k.within at other old h q) (λ q. ⊎_elim (λ (same : other ≡ place). subst (λ (z : ℕ). z < length stages) (sym same) less) (λ none. absurd none) q)
        (in_append (items old) (place ∷ []) other (subst (Member other) e i)))

    pub is_parked : (place at : ℕ) (m : Name) (dependencies : List Name) (old new : W) → slice_get graph place ≡ Some (m, dependencies) → (found : IsLacking stages dependencies at)
        → slice_get parked at ≡ Some old → items new ≡ items old ++ place ∷ [] → (name : Name) → slice_get (row_names stages) place ≡ Some name
        → IsParked stages graph items (set parked at new) place name
    is_parked place at m dependencies old new g found h e name named = record {
      other = found.name;
      blocked = blocked place m dependencies at g found name named;
      at = at;
      named = found.named;
      list = new;
      lists = set_here parked at new (place_within parked at old h);
      waits = subst (Member place) (sym e) (append_right (items old) (place ∷ []) place (inl refl));
    }

    -- ---- another stage

    -- the stage of a module is another, and of the modules that were no candidates some are candidates again
    pub put : (now : List Bool) (n : Name) (stage : Stage Answer) → is_some (row_of stages n) ≡ true → length now ≡ length candidate
        → ((place : ℕ) → slice_get now place ≡ Some false → slice_get candidate place ≡ Some false)
        → ((place : ℕ) → slice_get (row_names stages) place ≡ Some n → slice_get now place ≡ Some false → is_waiting stage ≡ false)
        → ((at place : ℕ) (list : W) → slice_get (row_names stages) at ≡ Some n → slice_get parked at ≡ Some list → Member place (items list) → slice_get now place ≡ Some false
        → lacks_verdict (Some stage) ≡ true)
        → AreCandidates (with_row n stage stages) graph items now parked
    put now n stage there long left own free = record {
      table = table_with n stage stages k.table;
      names = names_put stages k.table n stage there ∙ k.names;
      each_candidate = long ∙ k.each_candidate ∙ sym (long_put stages k.table n stage there);
      each_parked = k.each_parked ∙ sym (long_put stages k.table n stage there);
      within = λ at place list h m. let w = k.within at place list h m in let l = long_put stages k.table n stage there in omega (arith, w, l);
      closed = λ place name h f.
          let g = ap (λ names. slice_get names place) (sym (names_put stages k.table n stage there)) ∙ h in
          by place name (same_name name n) refl g f;
    }
      where
        stage_of : (m : Name) (b : Bool) → same_name m n ≡ b → row_of (with_row n stage stages) m ≡ cond b (Some stage) (row_of stages m)
        stage_of m b q = row_with n stage stages m ∙ ap (λ (c : Bool). cond c (Some stage) (row_of stages m)) q

        lacks : (place : ℕ) (name : Name) (p : IsParked stages graph items parked place name) → slice_get now place ≡ Some false → (b : Bool) → same_name p.other n ≡ b
            → lacks_verdict (row_of (with_row n stage stages) p.other) ≡ true
        lacks place name p f true q =
            ap lacks_verdict (stage_of p.other true q)
            ∙ free p.at place p.list (subst (λ (z : Name). slice_get (row_names stages) p.at ≡ Some z) (same_sound p.other n q) p.named) p.lists p.waits f
        lacks place name p f false q = ap lacks_verdict (stage_of p.other false q) ∙ p.blocked.lacks

        by : (place : ℕ) (name : Name) (b : Bool) → same_name name n ≡ b → slice_get (row_names stages) place ≡ Some name → slice_get now place ≡ Some false
            → (awaits_claim (row_of (with_row n stage stages) name) ≡ false) ⊎ IsParked (with_row n stage stages) graph items parked place name
        by place name true q g f =
            inl (ap awaits_claim (stage_of name true q) ∙ own place (subst (λ (z : Name). slice_get (row_names stages) place ≡ Some z) (same_sound name n q) g) f)
        by place name false q g f =
            ⊎_elim (λ w. inl (ap awaits_claim (stage_of name false q) ∙ w))
            (λ p. inr (record {
              other = p.other;
              blocked = record {
                dependencies = p.blocked.dependencies;
                row = p.blocked.row;
                depends = p.blocked.depends;
                lacks = lacks place name p f (same_name p.other n) refl;
              };
              at = p.at;
              named = ap (λ names. slice_get names p.at) (names_put stages k.table n stage there) ∙ p.named;
              list = p.list;
              lists = p.lists;
              waits = p.waits;
            }))
            (k.closed place name g (left place f))

    -- a module does not wait for a claim any more, and has no standing verdict
    pub put_claimed : (n : Name) (stage : Stage Answer) → is_some (row_of stages n) ≡ true → is_waiting stage ≡ false → lacks_verdict (Some stage) ≡ true
        → AreCandidates (with_row n stage stages) graph items candidate parked
    put_claimed n stage there waits lacks = put candidate n stage there refl (λ place f. f) (λ place g f. waits) (λ at place list g h m f. lacks)

    -- a module waits for a claim, and is a candidate
    pub put_waiting : (n : Name) (stage : Stage Answer) (place : ℕ) → slice_get (row_names stages) place ≡ Some n → is_some (row_of stages n) ≡ true → lacks_verdict (Some stage) ≡ true
        → AreCandidates (with_row n stage stages) graph items (set candidate place true) parked
    put_waiting n stage place at there lacks =
        put (set candidate place true) n stage there (length-set candidate place true)
        (λ other f. ⊎_elim (λ q. absurd (true≢false (sym q.1))) (λ q. q) (set_found candidate place true other false f))
        (λ other g f. absurd (true≢false (sym (set_value candidate place true false (ap (slice_get (set candidate place true)) (one_place (row_names stages) place other n k.table at g) ∙ f)))))
        (λ other own list g h m f. lacks)

    -- a module has a standing verdict, and those that were parked at it are candidates
    pub put_standing : (now : List Bool) (n : Name) (stage : Stage Answer) (place : ℕ) (list : W) → slice_get (row_names stages) place ≡ Some n → is_some (row_of stages n) ≡ true
        → is_waiting stage ≡ false → slice_get parked place ≡ Some list → length now ≡ length candidate
        → AreMarked candidate now (items list)
        → AreCandidates (with_row n stage stages) graph items now parked
    put_standing now n stage place list at there waits lists long left =
        put now n stage there long (λ other f. (left other f).0) (λ other g f. waits)
        (λ other own found g h m f.
        let same : place ≡ other = one_place (row_names stages) place other n k.table at g in
        let equal : Some list ≡ Some found = sym lists ∙ ap (slice_get parked) same ∙ h in
        let one : found ≡ list = cc in
        absurd ((left own f).1 (subst (λ (w : W). Member own (items w)) one m)))
