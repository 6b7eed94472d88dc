-- The steps in which names are taken off a graph.
use Rattle.std.proofs.Common.{◌≡◌, ℕ, zero, suc, ◌+◌, ◌-◌, ◌<◌, ◌≤◌, Bool, true, false, List, [], ◌∷◌, ◌++◌, length, set, replicate, slice_get, unwrap_or, Some, is_some, ◌⊎◌, inl, inr, ⊎_elim, refl, sym, ap, ◌∙◌, subst, true≢false, arith}
use Rattle.std.proofs.lemmas.Bool.{cases_lt}
use Rattle.std.proofs.lemmas.List.{length-replicate}
use Rattle.name_meaning.specs.Names.{Name}
use Rattle.name_meaning.specs.Rows.{row_names, IsTable, row_of, IsGap}
use Rattle.edit_log_meaning.specs.Log.{is_present}
use Rattle.module_graph_meaning.specs.Walks.{direct, is_grounded}
use Rattle.module_graph_meaning.specs.Graphs.{Graph, row_dependencies, row_library}
use Rattle.list_laws.proofs.Members.{Member, place_member, in_append, append_left, append_right}
use Rattle.list_laws.proofs.Places.{place_within}
use Rattle.name_laws.proofs.Rows.{gap_absent, row_at, place_of_member}
use Rattle.name_laws.proofs.Sorted.{one_place}
use Rattle.module_graph_laws.proofs.Graphs.{row_direct, row_present, row_library_names, peeled_grounded, left_ungrounded}
use Rattle.module_graph_laws.proofs.Walking.{present_in}
use Rattle.module_graph.specs.Peeling.{IsPassed, IsWaiting, IsPeeling, TellsGrounded, IsOpenAt, AllPassed}
use Rattle.module_graph.specs.PeelingState.{places}
use Rattle.list_laws.proofs.Writes.{set_long, set_here, set_found, set_left, set_stays, item_at}

-- ---- places of names

row_named : (graph : Graph) (i : ℕ) (row : Name × List Name) → slice_get graph i ≡ Some row → slice_get (row_names graph) i ≡ Some row.0
row_named [] i row h = absurd (cc)
row_named (x ∷ graph) zero row h = let e : x ≡ row = cc in ap (λ (z : Name × List Name). Some z.0) e
row_named (x ∷ graph) (suc i) row h = row_named graph i row h

named_row : (graph : Graph) (i : ℕ) (n : Name) → slice_get (row_names graph) i ≡ Some n → (d : List Name) × (slice_get graph i ≡ Some (n, d))
named_row [] i n h = absurd (cc)
named_row (x ∷ graph) zero n h = let e : x.0 ≡ n = cc in (x.1, ap (λ (m : Name). Some (m, x.1)) e)
named_row (x ∷ graph) (suc i) n h = named_row graph i n h

pub names_long : (graph : Graph) → length (row_names graph) ≡ length graph
names_long [] = refl
names_long (x ∷ graph) = ap suc (names_long graph)

-- ---- what is passed

-- a name whose place is taken off is passed, and so is a name without a place
pub passed_taken : (graph : Graph) (taken : List Bool) (name : Name) (other : ℕ) → IsTable graph → slice_get (row_names graph) other ≡ Some name → slice_get taken other ≡ Some true → IsPassed graph taken name
passed_taken graph taken name other t h e place g = subst (λ k. slice_get taken k ≡ Some true) (one_place (row_names graph) other place name t h g) e

pub passed_absent : (graph : Graph) (taken : List Bool) (name : Name) (place : ℕ) → IsGap (row_names graph) name place → IsPassed graph taken name
passed_absent graph taken name place gap other h = absurd (gap_absent name (row_names graph) place gap (place_member (row_names graph) other name h))

passed_later : (graph : Graph) (taken : List Bool) (i : ℕ) (name : Name) → IsPassed graph taken name → IsPassed graph (set taken i true) name
passed_later graph taken i name h place g = set_stays taken i true place (h place g)

pub open_as : (graph : Graph) (taken known : List Bool) (dependencies row : List Name) (from seen at other : ℕ) → taken ≡ known → dependencies ≡ row → from ≡ seen
    → IsOpenAt graph taken dependencies from at other → IsOpenAt graph known row seen at other
open_as graph taken known dependencies row from seen at other t d f =
    λ h. subst (λ n. IsOpenAt graph known row n at other) f (subst (λ l. IsOpenAt graph known l from at other) d (subst (λ l. IsOpenAt graph l dependencies from at other) t h))

pub all_passed_as : (graph : Graph) (taken known : List Bool) (dependencies row : List Name) (from seen : ℕ) → taken ≡ known → dependencies ≡ row → from ≡ seen
    → AllPassed graph taken dependencies from → AllPassed graph known row seen
all_passed_as graph taken known dependencies row from seen t d f =
    λ h. subst (λ n. AllPassed graph known row n) f (subst (λ l. AllPassed graph known l from) d (subst (λ l. AllPassed graph l dependencies from) t h))

pub open_within : (graph : Graph) (taken : List Bool) (dependencies : List Name) (from at other : ℕ) → IsOpenAt graph taken dependencies from at other → other < length graph
open_within graph taken dependencies from at other found =
    let long = names_long graph in
    let within = place_within (row_names graph) other found.name found.named in
    omega (arith, long, within)

-- one more dependency is passed
pub passed_more : (graph : Graph) (taken : List Bool) (dependencies : List Name) (from at : ℕ) (here : Name)
    → ((before : ℕ) (name : Name) → from ≤ before → before < at → slice_get dependencies before ≡ Some name → IsPassed graph taken name)
    → slice_get dependencies at ≡ Some here → IsPassed graph taken here
    → (before : ℕ) (name : Name) → from ≤ before → before < at + 1 → slice_get dependencies before ≡ Some name → IsPassed graph taken name
passed_more graph taken dependencies from at here so_far found passed before name low high h =
    ⊎_elim (λ lt. so_far before name low lt h)
    (λ le. let same : before ≡ at = omega (arith, le, high) in
    let own : Some here ≡ Some name = sym found ∙ ap (slice_get dependencies) (sym same) ∙ h in
    let equal : here ≡ name = cc in subst (IsPassed graph taken) equal passed)
    (cases_lt before at)

module _ {W : Type 0} (items : W → List ℕ) (graph : Graph) where
  -- ---- no name is taken off yet

  all_false : (n i : ℕ) (b : Bool) → slice_get (replicate n false) i ≡ Some b → b ≡ false
  all_false zero i b h = absurd (cc)
  all_false (suc n) zero b h = cc
  all_false (suc n) (suc i) b h = all_false n i b h

  all_zero : (n i k : ℕ) → slice_get (replicate n 0) i ≡ Some k → k ≡ 0
  all_zero zero i k h = absurd (cc)
  all_zero (suc n) zero k h = cc
  all_zero (suc n) (suc i) k h = all_zero n i k h

  pub in_places : (from more k : ℕ) → from ≤ k → k < from + more → Member k (places from more)
  unfolding places
  in_places from zero k low high = absurd (omega (arith, low, high))
  in_places from (suc more) k low high = ⊎_elim (λ e. inl e) (λ lt. inr (in_places (suc from) more k lt (omega (arith, high)))) split
    where
      split : (k ≡ from) ⊎ (suc from ≤ k)
      split = ⊎_elim (λ lt. inl (omega (arith, lt, low))) (λ le. inr le) (cases_lt k (suc from))

  places_in : (from more k : ℕ) → Member k (places from more) → k < from + more
  unfolding places
  places_in from zero k m = absurd m
  places_in from (suc more) k (inl e) = omega (arith, e)
  places_in from (suc more) k (inr m) = let h = places_in (suc from) more k m in omega (arith, h)

  pub first_state : (taken : List Bool) (waiting : List W) (seen ready : List ℕ) → IsTable graph → taken ≡ replicate (length graph) false → length waiting ≡ length graph
      → ((i : ℕ) (list : W) → slice_get waiting i ≡ Some list → items list ≡ []) → seen ≡ replicate (length graph) 0 → ready ≡ []
      → IsPeeling items graph taken waiting seen ready (places 0 (length graph))
  first_state taken waiting seen ready t a b c d e = record {
    table = t;
    each_taken = ap length a ∙ length-replicate (length graph) false;
    each_waiting = b;
    each_seen = ap length d ∙ length-replicate (length graph) 0;
    ready_within = λ k m. absurd (subst (Member k) e m);
    pending_within = λ k m. let h = places_in 0 (length graph) k m in omega (arith, h);
    waiting_within = λ o k list h m. absurd (subst (Member k) (c o list h) m);
    sound = λ k n h g. absurd (true≢false (all_false (length graph) k true (subst (λ l. slice_get l k ≡ Some true) a g)));
    passed = λ k from before row n h g lt m. absurd (let z = all_zero (length graph) k from (subst (λ l. slice_get l k ≡ Some from) d g) in omega (arith, z, lt));
    kept = λ k lt. inr (inl (in_places 0 (length graph) k (omega arith) (omega (arith, lt))));
  }

  pub pending_as : (taken : List Bool) (waiting : List W) (seen ready pending other : List ℕ) → pending ≡ other → IsPeeling items graph taken waiting seen ready pending → IsPeeling items graph taken waiting seen ready other
  pending_as taken waiting seen ready pending other e s = subst (λ p. IsPeeling items graph taken waiting seen ready p) e s

  pub ready_as : (taken : List Bool) (waiting : List W) (seen ready other pending : List ℕ) → ready ≡ other → IsPeeling items graph taken waiting seen ready pending → IsPeeling items graph taken waiting seen other pending
  ready_as taken waiting seen ready other pending e s = subst (λ r. IsPeeling items graph taken waiting seen r pending) e s

  -- ---- the name was taken off already

  pub step_over : (taken : List Bool) (waiting : List W) (seen ready pending : List ℕ) (place : ℕ) → IsPeeling items graph taken waiting seen ready (place ∷ pending)
      → slice_get taken place ≡ Some true → IsPeeling items graph taken waiting seen ready pending
  step_over taken waiting seen ready pending place s h = record {
    table = s.table;
    each_taken = s.each_taken;
    each_waiting = s.each_waiting;
    each_seen = s.each_seen;
    ready_within = s.ready_within;
    pending_within = λ k m. s.pending_within k (inr m);
    waiting_within = s.waiting_within;
    sound = s.sound;
    passed = s.passed;
    kept = λ k lt. ⊎_elim (λ q. inl q) (λ q. ⊎_elim (λ m. ⊎_elim (λ e. inl (subst (λ z. slice_get taken z ≡ Some true) (sym e) h)) (λ r. inr (inl r)) m) (λ w. inr (inr w)) q) (s.kept k lt);
  }

  -- ---- the name waits for an open dependency

  pub step_wait : (taken : List Bool) (waiting : List W) (seen ready pending : List ℕ) (place from at other : ℕ) (row : Name × List Name) (list more : W)
      → IsPeeling items graph taken waiting seen ready (place ∷ pending)
      → slice_get graph place ≡ Some row → slice_get seen place ≡ Some from → IsOpenAt graph taken row.1 from at other
      → slice_get waiting other ≡ Some list → items more ≡ items list ++ place ∷ []
      → IsPeeling items graph taken (set waiting other more) (set seen place at) ready pending
  step_wait taken waiting seen ready pending place from at other row list more s here seen_here found lists added = record {
    table = s.table;
    each_taken = s.each_taken;
    each_waiting = set_long waiting other more ∙ s.each_waiting;
    each_seen = set_long seen place at ∙ s.each_seen;
    ready_within = s.ready_within;
    pending_within = λ k m. s.pending_within k (inr m);
    waiting_within = λ o k l h m. ⊎_elim (λ q. inside k (subst (λ z. Member k (items z)) q.1 m)) (λ q. s.waiting_within o k l q m) (set_found waiting other more o l h);
    sound = s.sound;
    passed = λ k f before r n h g lt e. ⊎_elim (λ q. now_passed k f before r n h q.0 q.1 lt e) (λ q. s.passed k f before r n h q lt e) (set_found seen place at k f g);
    kept = λ k lt. ⊎_elim (λ q. inl q) (λ q. inr (⊎_elim (λ m. ⊎_elim (λ e. inr (waits k e)) (λ r. inl r) m) (λ w. inr (still k w)) q)) (s.kept k lt);
  }
    where
      inside : (k : ℕ) → Member k (items more) → k < length graph
      inside k m = ⊎_elim (λ q. s.waiting_within other k list lists q) (λ q. ⊎_elim (λ e. s.pending_within k (inl e)) (λ z. absurd z) q) (in_append (items list) (place ∷ []) k (subst (Member k) added m))

      now_passed : (k f before : ℕ) (r : Name × List Name) (n : Name) → slice_get graph k ≡ Some r → k ≡ place → f ≡ at → before < f → slice_get r.1 before ≡ Some n → IsPassed graph taken n
      now_passed k f before r n h same is lt e =
          let own : Some r ≡ Some row = sym h ∙ ap (slice_get graph) same ∙ here in
          let equal : r ≡ row = cc in
          let there : slice_get row.1 before ≡ Some n = subst (λ (z : Name × List Name). slice_get z.1 before ≡ Some n) equal e in
          ⊎_elim (λ q. s.passed place from before row n here seen_here q there) (λ q. found.passed before n q (omega (arith, lt, is)) there) (cases_lt before from)

      waits : (k : ℕ) → k ≡ place → IsWaiting items graph taken (set waiting other more) ready k
      waits k e = record {
        row = row;
        at = ap (slice_get graph) e ∙ here;
        other = other;
        name = found.name;
        named = found.named;
        depends = place_member row.1 at found.name found.here;
        list = more;
        lists = set_here waiting other more (place_within waiting other list lists);
        waits = subst (Member k) (sym added) (append_right (items list) (place ∷ []) k (inl e));
        not_taken = inl found.not_taken;
      }

      still : (k : ℕ) → IsWaiting items graph taken waiting ready k → IsWaiting items graph taken (set waiting other more) ready k
      still k w = ⊎_elim
          (λ e. let same : Some w.list ≡ Some list = sym w.lists ∙ ap (slice_get waiting) e ∙ lists in
          let equal : w.list ≡ list = cc in
          record {
            row = w.row;
            at = w.at;
            other = w.other;
            name = w.name;
            named = w.named;
            depends = w.depends;
            list = more;
            lists = ap (slice_get (set waiting other more)) e ∙ set_here waiting other more (place_within waiting other list lists);
            waits = subst (Member k) (sym added) (append_left (items list) (place ∷ []) k (subst (λ z. Member k (items z)) equal w.waits));
            not_taken = w.not_taken;
          })
          (λ e. record {
            row = w.row;
            at = w.at;
            other = w.other;
            name = w.name;
            named = w.named;
            depends = w.depends;
            list = w.list;
            lists = e;
            waits = w.waits;
            not_taken = w.not_taken;
          })
          (set_left waiting other more w.other w.list w.lists)

  -- ---- the name is taken off

  pub step_take : (taken : List Bool) (waiting : List W) (seen ready pending : List ℕ) (place from : ℕ) (row : Name × List Name)
      → IsPeeling items graph taken waiting seen ready (place ∷ pending)
      → slice_get graph place ≡ Some row → slice_get seen place ≡ Some from → AllPassed graph taken row.1 from
      → IsPeeling items graph (set taken place true) waiting seen (ready ++ place ∷ []) pending
  step_take taken waiting seen ready pending place from row s here seen_here all = record {
    table = s.table;
    each_taken = set_long taken place true ∙ s.each_taken;
    each_waiting = s.each_waiting;
    each_seen = s.each_seen;
    ready_within = λ k m. ⊎_elim (λ q. s.ready_within k q) (λ q. ⊎_elim (λ e. s.pending_within k (inl e)) (λ z. absurd z) q) (in_append ready (place ∷ []) k m);
    pending_within = λ k m. s.pending_within k (inr m);
    waiting_within = s.waiting_within;
    sound = λ k n h g. ⊎_elim (λ q. grounded k n h q.0) (λ q. s.sound k n h q) (set_found taken place true k true g);
    passed = λ k f before r n h g lt e. passed_later graph taken place n (s.passed k f before r n h g lt e);
    kept = λ k lt. ⊎_elim (λ q. inl (set_stays taken place true k q))
        (λ q. ⊎_elim (λ m. ⊎_elim (λ e. inl (ap (slice_get (set taken place true)) e ∙ now_taken)) (λ r. inr (inl r)) m) (λ w. inr (inr (still k w))) q)
        (s.kept k lt);
  }
    where
      now_taken : slice_get (set taken place true) place ≡ Some true
      now_taken = set_here taken place true (let t = s.each_taken in let p = s.pending_within place (inl refl) in omega (arith, t, p))

      all_passed : (d : Name) → Member d row.1 → IsPassed graph taken d
      all_passed d m =
          let q = place_of_member row.1 d m in
          ⊎_elim (λ lt. s.passed place from q.0 row d here seen_here lt q.1) (λ le. all q.0 d le q.1) (cases_lt q.0 from)

      grounded : (k : ℕ) (n : Name) → slice_get (row_names graph) k ≡ Some n → k ≡ place → is_grounded (row_dependencies graph) (row_library graph) n ≡ true
      grounded k n h e =
          let own : Some row.0 ≡ Some n = sym (row_named graph place row here) ∙ ap (slice_get (row_names graph)) (sym e) ∙ h in
          let named : row.0 ≡ n = cc in
          let found : row_of graph n ≡ Some row.1 = row_at n row.1 graph place s.table (here ∙ ap (λ (m : Name). Some (m, row.1)) named) in
          let dependencies : direct (row_dependencies graph) (row_library graph) n ≡ row.1 = row_direct graph n ∙ ap (λ r. unwrap_or r []) found in
          peeled_grounded (row_dependencies graph) (row_library graph) n (row_present graph n ∙ ap is_some found) (λ d m p.
          let q = place_of_member (row_names graph) d (subst (Member d) (row_library_names graph) (present_in (row_dependencies graph) (row_library graph) d p)) in
          s.sound q.0 d q.1 (all_passed d (subst (Member d) dependencies m) q.0 q.1))

      still : (k : ℕ) → IsWaiting items graph taken waiting ready k → IsWaiting items graph (set taken place true) waiting (ready ++ place ∷ []) k
      still k w = record {
        row = w.row;
        at = w.at;
        other = w.other;
        name = w.name;
        named = w.named;
        depends = w.depends;
        list = w.list;
        lists = w.lists;
        waits = w.waits;
        not_taken = ⊎_elim
            (λ q. ⊎_elim (λ e. inr (append_right ready (place ∷ []) w.other (inl e))) (λ e. inl e) (set_left taken place true w.other false q))
            (λ m. inr (append_left ready (place ∷ []) w.other m)) w.not_taken;
      }

  -- ---- those that wait for a name are looked at

  pub step_wake : (taken : List Bool) (waiting : List W) (seen ready : List ℕ) (place : ℕ) (list none : W)
      → IsPeeling items graph taken waiting seen (ready ++ place ∷ []) [] → slice_get waiting place ≡ Some list → items none ≡ []
      → IsPeeling items graph taken (set waiting place none) seen ready (items list)
  step_wake taken waiting seen ready place list none s lists empty = record {
    table = s.table;
    each_taken = s.each_taken;
    each_waiting = set_long waiting place none ∙ s.each_waiting;
    each_seen = s.each_seen;
    ready_within = λ k m. s.ready_within k (append_left ready (place ∷ []) k m);
    pending_within = λ k m. s.waiting_within place k list lists m;
    waiting_within = λ o k l h m. ⊎_elim (λ q. absurd (subst (Member k) (ap items q.1 ∙ empty) m)) (λ q. s.waiting_within o k l q m) (set_found waiting place none o l h);
    sound = s.sound;
    passed = s.passed;
    kept = λ k lt. ⊎_elim (λ q. inl q) (λ q. inr (⊎_elim (λ m. absurd m) (λ w. waits k w) q)) (s.kept k lt);
  }
    where
      at_place : (k : ℕ) (w : IsWaiting items graph taken waiting (ready ++ place ∷ []) k) → w.other ≡ place → Member k (items list)
      at_place k w e =
          let same : Some w.list ≡ Some list = sym w.lists ∙ ap (slice_get waiting) e ∙ lists in
          let equal : w.list ≡ list = cc in
          subst (λ z. Member k (items z)) equal w.waits

      waits : (k : ℕ) → IsWaiting items graph taken waiting (ready ++ place ∷ []) k → Member k (items list) ⊎ IsWaiting items graph taken (set waiting place none) ready k
      waits k w = ⊎_elim (λ e. inl (at_place k w e)) (λ e. ⊎_elim (λ q. inr (still e (inl q))) (λ m. ⊎_elim (λ r. inr (still e (inr r))) (λ r. ⊎_elim (λ z. inl (at_place k w z)) (λ z. absurd z) r) (in_append ready (place ∷ []) w.other m)) w.not_taken) (set_left waiting place none w.other w.list w.lists)
        where
          still : slice_get (set waiting place none) w.other ≡ Some w.list → (slice_get taken w.other ≡ Some false) ⊎ Member w.other ready → IsWaiting items graph taken (set waiting place none) ready k
          still e q = record {
            row = w.row;
            at = w.at;
            other = w.other;
            name = w.name;
            named = w.named;
            depends = w.depends;
            list = w.list;
            lists = e;
            waits = w.waits;
            not_taken = q;
          }

  -- ---- no name is left to be looked at

  pub all_told : (taken : List Bool) (waiting : List W) (seen : List ℕ) → IsPeeling items graph taken waiting seen [] [] → TellsGrounded graph taken
  all_told taken waiting seen s = (s.each_taken, told)
    where
      Left : Name → Type 0
      Left n = (k : ℕ) × (slice_get (row_names graph) k ≡ Some n) × (slice_get taken k ≡ Some false)

      told : (place : ℕ) (name : Name) → slice_get (row_names graph) place ≡ Some name → slice_get taken place ≡ Some (is_grounded (row_dependencies graph) (row_library graph) name)
      told place name h =
          let long = names_long graph in
          let within = place_within (row_names graph) place name h in
          let each = s.each_taken in
          let q = item_at taken place (omega (arith, long, within, each)) in
          by q.0 q.1
        where
          dependency : (n : Name) → Left n → (is_present (row_library graph) n ≡ true) × ((d : Name) × Member d (direct (row_dependencies graph) (row_library graph) n) × Left d)
          dependency n l =
              let long = names_long graph in
              let within = place_within (row_names graph) l.0 n l.1 in
              ⊎_elim (λ t. absurd (let same : Some true ≡ Some false = sym t ∙ l.2 in cc)) (λ q. ⊎_elim (λ m. absurd m) (λ w. waits n l w) q) (s.kept l.0 (omega (arith, long, within)))
            where
              waits : (n : Name) (l : Left n) → IsWaiting items graph taken waiting [] l.0 → (is_present (row_library graph) n ≡ true) × ((d : Name) × Member d (direct (row_dependencies graph) (row_library graph) n) × Left d)
              waits n l w =
                  let own : Some w.row.0 ≡ Some n = sym (row_named graph l.0 w.row w.at) ∙ l.1 in
                  let named : w.row.0 ≡ n = cc in
                  let found : row_of graph n ≡ Some w.row.1 = row_at n w.row.1 graph l.0 s.table (w.at ∙ ap (λ (m : Name). Some (m, w.row.1)) named) in
                  let dependencies : direct (row_dependencies graph) (row_library graph) n ≡ w.row.1 = row_direct graph n ∙ ap (λ r. unwrap_or r []) found in
                  (row_present graph n ∙ ap is_some found, (w.name, subst (Member w.name) (sym dependencies) w.depends, (w.other, w.named, ⊎_elim (λ f. f) (λ m. absurd m) w.not_taken)))

          by : (b : Bool) → slice_get taken place ≡ Some b → slice_get taken place ≡ Some (is_grounded (row_dependencies graph) (row_library graph) name)
          by true e = e ∙ ap Some (sym (s.sound place name h e))
          by false e = e ∙ ap Some (sym (left_ungrounded (row_dependencies graph) (row_library graph) Left dependency name (place, h, e)))

-- ---- the places that are left

pub places_next : (from count : ℕ) → from < count → places from (count - from) ≡ from ∷ places (from + 1) (count - (from + 1))
unfolding places
places_next from count h =
    let e : count - from ≡ suc (count - (from + 1)) = omega (arith, h) in
    let f : suc from ≡ from + 1 = omega arith in
    ap (places from) e ∙ ap (λ k. from ∷ places k (count - (from + 1))) f

pub places_end : (from count : ℕ) → count ≤ from → places from (count - from) ≡ []
unfolding places
places_end from count h = let e : count - from ≡ 0 = omega (arith, h) in ap (places from) e
