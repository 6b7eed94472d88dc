-- A list of words is accepted exactly where it asks for a run, and it asks for one run at most.
use Rattle.std.proofs.Common.{◌≡◌, ◌⊎◌, inl, inr, ℕ, ◌+◌, ◌-◌, Bool, true, false, cond, List, [], ◌∷◌, ◌++◌, length, take, drop, refl, sym, ap, ◌∙◌, subst, arith}
use Rattle.std.specs.Prelude.{Option, Some, None, nat_eq, nat_le, ◌==◌, ◌&&◌, not, option_map, option_and_then, codes}
use Rattle.std.specs.List.{starts_with}
use Rattle.std.specs.Str.{bytes_eq}
use Rattle.std.proofs.lemmas.Bool.{and_parts, not-true}
use Rattle.std.proofs.lemmas.Option.{same_Some}
use Rattle.std.proofs.lemmas.List.{length-append, append-nil}
use Rattle.std.proofs.lemmas.Slice.Eq.{bytes_eq-Decides}
use Rattle.std.proofs.lemmas.Bool.Decides.{nat_tests}
use Rattle.list_laws.proofs.Places.{take_front, take_length, drop_front, take_drop}
use Rattle.printing_meaning.specs.Numbers.{is_digit, is_number}
use Rattle.command_words_meaning.specs.WordLists.{Task, Run, default_workers, worker_part, is_folder, play_of, check_of, generate_of, task_of, with_part, without_part, part_in_front, part_at_end, first_of, run_of}
use Rattle.command_words_meaning.specs.WordAnswers.{IsPart, Asks}

-- the word begins with `-`
abbrev is_dashed : List ℕ → Bool
is_dashed [] = false
is_dashed (byte ∷ bytes) = byte == 45

abbrev first_is_dashed : List (List ℕ) → Bool
first_is_dashed [] = false
first_is_dashed (word ∷ words) = is_dashed word

-- how many words stand behind a command's first word, the worker part not counted
abbrev count_for : Bool → Bool → ℕ
count_for play check = cond play 0 (cond check 1 3)

abbrev word_count : List ℕ → ℕ
word_count word = count_for (bytes_eq word (codes "play")) (bytes_eq word (codes "check"))

-- a tested value that is there has passed its test
passed : {A : Type 0} (b : Bool) (found : Option A) (value : A) → cond b found None ≡ Some value → b ≡ true
passed true found value h = refl
passed false found value h = absurd cc

digit_undashed : (byte : ℕ) → is_digit byte ≡ true → (byte == 45) ≡ false
digit_undashed byte h = let least : nat_le 48 byte ≡ true = (and_parts (nat_le 48 byte) (nat_le byte 57) h).0 in grind (arith, nat_tests)

number_undashed : (word : List ℕ) → is_number word ≡ true → is_dashed word ≡ false
number_undashed [] h = absurd cc
number_undashed (digit ∷ []) h = digit_undashed digit h
number_undashed (digit ∷ second ∷ digits) h =
    let behind = (and_parts (not (digit == 48)) _ h).1 in digit_undashed digit (and_parts (is_digit digit) _ behind).0

folder_undashed : (word : List ℕ) → is_folder word ≡ true → is_dashed word ≡ false
folder_undashed [] h = absurd cc
folder_undashed (byte ∷ bytes) h = not-true (byte == 45) h

-- what a command's words are like behind its first word
record IsShaped (words : List (List ℕ)) (count : ℕ) : Type 0 where
  undashed : first_is_dashed words ≡ false
  counted : length words ≡ count

play_shaped : (words : List (List ℕ)) (task : Task) → play_of words ≡ Some task → IsShaped words 0
play_shaped [] task h = record { undashed = refl; counted = refl }
play_shaped (word ∷ words) task h = absurd cc

check_shaped : (words : List (List ℕ)) (task : Task) → check_of words ≡ Some task → IsShaped words 1
check_shaped [] task h = absurd cc
check_shaped (folder ∷ []) task h = record { undashed = folder_undashed folder (passed (is_folder folder) _ task h); counted = refl }
check_shaped (folder ∷ second ∷ words) task h = absurd cc

generate_shaped : (words : List (List ℕ)) (task : Task) → generate_of words ≡ Some task → IsShaped words 3
generate_shaped [] task h = absurd cc
generate_shaped (start ∷ []) task h = absurd cc
generate_shaped (start ∷ modules ∷ []) task h = absurd cc
generate_shaped (start ∷ modules ∷ edits ∷ []) task h =
    record { undashed = number_undashed start (tested (is_number start) _ _ _ _ h); counted = refl }
  where
    tested : (a b c : Bool) (value : ℕ) (f : ℕ → Option Task) → option_and_then f (cond ((a && b) && c) (Some value) None) ≡ Some task → a ≡ true
    tested true b c value f i = refl
    tested false b c value f i = absurd cc
generate_shaped (start ∷ modules ∷ edits ∷ fourth ∷ words) task h = absurd cc

task_shaped : (word : List ℕ) (words : List (List ℕ)) (task : Task) → task_of word words ≡ Some task → IsShaped words (word_count word)
task_shaped word words task h = by_word (bytes_eq word (codes "play")) (bytes_eq word (codes "check")) (bytes_eq word (codes "gen")) h
  where
    by_word : (a b c : Bool) → cond a (play_of words) (cond b (check_of words) (cond c (generate_of words) None)) ≡ Some task → IsShaped words (count_for a b)
    by_word true b c i = play_shaped words task i
    by_word false true c i = check_shaped words task i
    by_word false false true i = generate_shaped words task i
    by_word false false false i = absurd cc

-- a worker part begins with `-`
part_dashed : (word : List ℕ) (words : List (List ℕ)) (workers : ℕ) → worker_part (word ∷ words) ≡ Some workers → is_dashed word ≡ true
part_dashed word [] workers h = begun word (passed (starts_with nat_eq word (codes "--workers=")) _ workers h)
  where
    begun : (bytes : List ℕ) → starts_with nat_eq bytes (codes "--workers=") ≡ true → is_dashed bytes ≡ true
    begun [] i = absurd cc
    begun (byte ∷ bytes) i = let here : (45 == byte) ≡ true = (and_parts (45 == byte) _ i).0 in grind (arith, nat_tests)
part_dashed word (number ∷ []) workers h =
    let same : word ≡ codes "--workers" = (bytes_eq-Decides word (codes "--workers")).0 (passed (bytes_eq word (codes "--workers")) _ workers h) in
    ap is_dashed same
part_dashed word (number ∷ third ∷ words) workers h = absurd cc

-- Two readings of the same words.

same_fronts : (part rest other behind : List (List ℕ)) → length part ≡ length other → part ++ rest ≡ other ++ behind → (part ≡ other) × (rest ≡ behind)
same_fronts [] rest [] behind n e = (refl, e)
same_fronts [] rest (q ∷ other) behind n e = absurd cc
same_fronts (p ∷ part) rest [] behind n e = absurd cc
same_fronts (p ∷ part) rest (q ∷ other) behind n e =
    let first : p ≡ q = cc in
    let behind_them : part ++ rest ≡ other ++ behind = cc in
    let fewer : length part ≡ length other = cc in
    let same = same_fronts part rest other behind fewer behind_them in
    ((λ i. first i ∷ same.0 i), same.1)

-- lists that are one have as many words
same_counts : (a b c d : List (List ℕ)) → a ++ b ≡ c ++ d → length a + length b ≡ length c + length d
same_counts a b c d e = sym (length-append a b) ∙ ap length e ∙ length-append c d

-- a part in front and a part at the end of the same words
same_ends : (part rest other behind : List (List ℕ)) (workers : ℕ) → IsPart part workers → first_is_dashed behind ≡ false → length rest ≡ length behind
    → part ++ rest ≡ behind ++ other → (part ≡ other) × (rest ≡ behind)
same_ends [] rest [] behind workers p u n e = (refl, e ∙ append-nil behind)
same_ends [] rest (q ∷ other) behind workers p u n e =
    let counts = same_counts [] rest behind (q ∷ other) e in absurd (omega (arith, counts, n))
same_ends (p ∷ part) [] other [] workers h u n e = (sym (append-nil (p ∷ part)) ∙ e, refl)
same_ends (p ∷ part) (r ∷ rest) other [] workers h u n e = absurd cc
same_ends (p ∷ part) rest other (r ∷ behind) workers h u n e =
    let first : p ≡ r = cc in
    let dashed : is_dashed p ≡ true = part_dashed p part workers h in
    let undashed : is_dashed p ≡ false = ap is_dashed first ∙ u in
    absurd cc

abbrev Stands : List (List ℕ) → List (List ℕ) → List (List ℕ) → Type 0
Stands words part rest = (words ≡ part ++ rest) ⊎ (words ≡ rest ++ part)

same_words : (words part rest other behind : List (List ℕ)) (count a b : ℕ) → IsShaped rest count → IsShaped behind count → IsPart part a → IsPart other b
    → Stands words part rest → Stands words other behind → (part ≡ other) × (rest ≡ behind)
same_words words part rest other behind count a b s t p q (inl x) (inl y) =
    let e : part ++ rest ≡ other ++ behind = sym x ∙ y in
    let counts = same_counts part rest other behind e in
    let n : length part ≡ length other = omega (arith, counts, s.counted, t.counted) in
    same_fronts part rest other behind n e
same_words words part rest other behind count a b s t p q (inl x) (inr y) =
    same_ends part rest other behind a p t.undashed (s.counted ∙ sym t.counted) (sym x ∙ y)
same_words words part rest other behind count a b s t p q (inr x) (inl y) =
    let same = same_ends other behind part rest b q s.undashed (t.counted ∙ sym s.counted) (sym y ∙ x) in (sym same.0, sym same.1)
same_words words part rest other behind count a b s t p q (inr x) (inr y) =
    let same = same_fronts rest part behind other (s.counted ∙ sym t.counted) (sym x ∙ y) in (same.1, same.0)

same_workers : (part : List (List ℕ)) (a b : ℕ) → IsPart part a → IsPart part b → a ≡ b
same_workers [] a b p q = p ∙ sym q
same_workers (word ∷ words) a b p q = same_Some a b (sym p ∙ q)

first_word : (words : List (List ℕ)) (word : List ℕ) (part rest : List (List ℕ))
    → (words ≡ word ∷ (part ++ rest)) ⊎ (words ≡ word ∷ (rest ++ part)) → (tail : List (List ℕ)) (first : List ℕ) → words ≡ first ∷ tail
    → (word ≡ first) × Stands tail part rest
first_word words word part rest (inl e) tail first h = (cc, inl cc)
first_word words word part rest (inr e) tail first h = (cc, inr cc)

-- words ask for one run at most
pub asks_once : (words : List (List ℕ)) (a b : Run) → Asks words a → Asks words b → a ≡ b
asks_once [] a b x y = none x.stands
  where
    none : ([] ≡ x.word ∷ (x.part ++ x.rest)) ⊎ ([] ≡ x.word ∷ (x.rest ++ x.part)) → a ≡ b
    none (inl e) = absurd cc
    none (inr e) = absurd cc
asks_once (first ∷ tail) a b x y =
    let s = first_word (first ∷ tail) x.word x.part x.rest x.stands tail first refl in
    let t = first_word (first ∷ tail) y.word y.part y.rest y.stands tail first refl in
    let one : task_of first x.rest ≡ Some a.task = subst (λ w. task_of w x.rest ≡ Some a.task) s.0 x.task in
    let two : task_of first y.rest ≡ Some b.task = subst (λ w. task_of w y.rest ≡ Some b.task) t.0 y.task in
    let same =
    same_words tail x.part x.rest y.part y.rest (word_count first) a.workers b.workers (task_shaped first x.rest a.task one)
    (task_shaped first y.rest b.task two) x.workers y.workers s.1 t.1 in
    let task : a.task ≡ b.task = same_Some a.task b.task (sym one ∙ ap (task_of first) same.1 ∙ two) in
    let workers : a.workers ≡ b.workers = same_workers y.part a.workers b.workers (subst (λ p. IsPart p a.workers) same.0 x.workers) y.workers in
    λ i. record { task = task i; workers = workers i }

-- From the function to the relation.

with_sound : (word : List ℕ) (rest part : List (List ℕ)) (run : Run) → with_part word rest part ≡ Some run
    → (task_of word rest ≡ Some run.task) × (worker_part part ≡ Some run.workers)
with_sound word rest part run h = by_parts (task_of word rest) (worker_part part) h
  where
    by_parts : (task : Option Task) (workers : Option ℕ)
        → option_and_then (λ (t : Task). option_map (λ (n : ℕ). record { task = t; workers = n }) workers) task ≡ Some run
        → (task ≡ Some run.task) × (workers ≡ Some run.workers)
    by_parts None workers i = absurd cc
    by_parts (Some task) None i = absurd cc
    by_parts (Some task) (Some workers) i =
        let same : record { task = task; workers = workers } ≡ run = same_Some _ run i in
        (ap (λ (r : Run). Some r.task) same, ap (λ (r : Run). Some r.workers) same)

without_sound : (word : List ℕ) (rest : List (List ℕ)) (run : Run) → without_part word rest ≡ Some run
    → (task_of word rest ≡ Some run.task) × (run.workers ≡ default_workers)
without_sound word rest run h = by_task (task_of word rest) h
  where
    by_task : (task : Option Task) → option_map (λ (t : Task). record { task = t; workers = default_workers }) task ≡ Some run
        → (task ≡ Some run.task) × (run.workers ≡ default_workers)
    by_task None i = absurd cc
    by_task (Some task) i =
        let same : record { task = task; workers = default_workers } ≡ run = same_Some _ run i in
        (ap (λ (r : Run). Some r.task) same, sym (ap (λ (r : Run). r.workers) same))

is_part : (part : List (List ℕ)) (workers : ℕ) → worker_part part ≡ Some workers → IsPart part workers
is_part [] workers h = absurd cc
is_part (word ∷ words) workers h = h

front_asked : (word : List ℕ) (words : List (List ℕ)) (count : ℕ) (run : Run) → part_in_front word words count ≡ Some run → Asks (word ∷ words) run
front_asked word words count run h =
    let found = with_sound word (drop count words) (take count words) run h in
    record {
      word = word;
      part = take count words;
      rest = drop count words;
      task = found.0;
      workers = is_part (take count words) run.workers found.1;
      stands = inl (ap (λ t. word ∷ t) (sym (take_drop words count)));
    }

end_asked : (word : List ℕ) (words : List (List ℕ)) (count : ℕ) (run : Run) → part_at_end word words count ≡ Some run → Asks (word ∷ words) run
end_asked word words count run h =
    let found = with_sound word (take (length words - count) words) (drop (length words - count) words) run h in
    record {
      word = word;
      part = drop (length words - count) words;
      rest = take (length words - count) words;
      task = found.0;
      workers = is_part (drop (length words - count) words) run.workers found.1;
      stands = inr (ap (λ t. word ∷ t) (sym (take_drop words (length words - count))));
    }

whole_asked : (word : List ℕ) (words : List (List ℕ)) (run : Run) → without_part word words ≡ Some run → Asks (word ∷ words) run
whole_asked word words run h =
    let found = without_sound word words run h in
    record { word = word; part = []; rest = words; task = found.0; workers = found.1; stands = inl refl }

first_or : {T : Type 0} → (first second : Option Run) (run : Run) → (first ≡ Some run → T) → (second ≡ Some run → T) → first_of first second ≡ Some run → T
first_or None second run a b e = b e
first_or (Some first) second run a b e = a e

pub accepted_asks : (words : List (List ℕ)) (run : Run) → run_of words ≡ Some run → Asks words run
unfolding run_of
accepted_asks [] run h = absurd cc
accepted_asks (word ∷ words) run h =
    first_or (without_part word words) _ run (whole_asked word words run)
    (first_or (part_in_front word words 1) _ run (front_asked word words 1 run)
    (first_or (part_in_front word words 2) _ run (front_asked word words 2 run)
    (first_or (part_at_end word words 1) (part_at_end word words 2) run (end_asked word words 1 run) (end_asked word words 2 run)))) h

-- And back.

first_none : (first second : Option Run) → first_of first second ≡ None → (first ≡ None) × (second ≡ None)
first_none None second h = (refl, h)
first_none (Some first) second h = absurd cc

with_found : (word : List ℕ) (rest part : List (List ℕ)) (task : Task) (workers : ℕ) → task_of word rest ≡ Some task → worker_part part ≡ Some workers
    → with_part word rest part ≡ None → ⊥
with_found word rest part task workers t p h = by_parts (task_of word rest) (worker_part part) t p h
  where
    by_parts : (found : Option Task) (many : Option ℕ) → found ≡ Some task → many ≡ Some workers
        → option_and_then {U = Run} (λ (x : Task). option_map (λ (n : ℕ). record { task = x; workers = n }) many) found ≡ None → ⊥
    by_parts None many a b i = absurd cc
    by_parts (Some x) None a b i = absurd cc
    by_parts (Some x) (Some n) a b i = absurd cc

without_found : (word : List ℕ) (rest : List (List ℕ)) (task : Task) → task_of word rest ≡ Some task → without_part word rest ≡ None → ⊥
without_found word rest task t h = by_task (task_of word rest) t h
  where
    by_task : (found : Option Task) → found ≡ Some task → option_map {U = Run} (λ (x : Task). record { task = x; workers = default_workers }) found ≡ None → ⊥
    by_task None a i = absurd cc
    by_task (Some x) a i = absurd cc

behind_all : (words : List (List ℕ)) → drop (length words) words ≡ []
behind_all [] = refl
behind_all (word ∷ words) = behind_all words

-- a part that stands at the end is the one that is taken there
end_taken : (word : List ℕ) (rest part : List (List ℕ)) (count : ℕ) → length part ≡ count → part_at_end word (rest ++ part) count ≡ with_part word rest part
end_taken word rest part count n =
    let total : length (rest ++ part) ≡ length rest + length part = length-append rest part in
    let many : length rest ≡ length (rest ++ part) - count = omega (arith, total, n) in
    let front : take (length rest) (rest ++ part) ≡ rest = take_front rest part (length rest) (omega arith) ∙ take_length rest in
    let last : drop (length rest) (rest ++ part) ≡ part = drop_front rest part (length rest) (omega arith) ∙ ap (λ t. t ++ part) (behind_all rest) in
    subst (λ m. with_part word (take m (rest ++ part)) (drop m (rest ++ part)) ≡ with_part word rest part) many (λ i. with_part word (front i) (last i))

-- no place of a worker part gives a run
record AllNone (word : List ℕ) (words : List (List ℕ)) : Type 0 where
  whole : without_part word words ≡ None
  front : part_in_front word words 1 ≡ None
  fronts : part_in_front word words 2 ≡ None
  last : part_at_end word words 1 ≡ None
  lasts : part_at_end word words 2 ≡ None

all_none : (word : List ℕ) (words : List (List ℕ)) → run_of (word ∷ words) ≡ None → AllNone word words
unfolding run_of
all_none word words h =
    let whole = first_none (without_part word words) _ h in
    let front = first_none (part_in_front word words 1) _ whole.1 in
    let fronts = first_none (part_in_front word words 2) _ front.1 in
    let ends = first_none (part_at_end word words 1) (part_at_end word words 2) fronts.1 in
    record { whole = whole.0; front = front.0; fronts = fronts.0; last = ends.0; lasts = ends.1 }

front_found : (word : List ℕ) (part rest : List (List ℕ)) (task : Task) (workers : ℕ) → task_of word rest ≡ Some task → IsPart part workers
    → AllNone word (part ++ rest) → ⊥
front_found word [] rest task workers t h n = without_found word rest task t n.whole
front_found word (p ∷ []) rest task workers t h n = with_found word rest (p ∷ []) task workers t h n.front
front_found word (p ∷ q ∷ []) rest task workers t h n = with_found word rest (p ∷ q ∷ []) task workers t h n.fronts
front_found word (p ∷ q ∷ r ∷ part) rest task workers t h n = absurd cc

end_found : (word : List ℕ) (part rest : List (List ℕ)) (task : Task) (workers : ℕ) → task_of word rest ≡ Some task → IsPart part workers
    → AllNone word (rest ++ part) → ⊥
end_found word [] rest task workers t h n =
    without_found word rest task t (subst (λ w. without_part word w ≡ None) (append-nil rest) n.whole)
end_found word (p ∷ []) rest task workers t h n =
    with_found word rest (p ∷ []) task workers t h (sym (end_taken word rest (p ∷ []) 1 refl) ∙ n.last)
end_found word (p ∷ q ∷ []) rest task workers t h n =
    with_found word rest (p ∷ q ∷ []) task workers t h (sym (end_taken word rest (p ∷ q ∷ []) 2 refl) ∙ n.lasts)
end_found word (p ∷ q ∷ r ∷ part) rest task workers t h n = absurd cc

-- words that are refused ask for no run
pub refused_asks_none : (words : List (List ℕ)) → run_of words ≡ None → (run : Run) → Asks words run → ⊥
refused_asks_none [] h run x = none x.stands
  where
    none : ([] ≡ x.word ∷ (x.part ++ x.rest)) ⊎ ([] ≡ x.word ∷ (x.rest ++ x.part)) → ⊥
    none (inl e) = absurd cc
    none (inr e) = absurd cc
refused_asks_none (first ∷ tail) h run x =
    let s = first_word (first ∷ tail) x.word x.part x.rest x.stands tail first refl in
    by_place s.1 (subst (λ w. task_of w x.rest ≡ Some run.task) s.0 x.task)
  where
    by_place : Stands tail x.part x.rest → task_of first x.rest ≡ Some run.task → ⊥
    by_place (inl e) t = front_found first x.part x.rest run.task run.workers t x.workers (subst (AllNone first) e (all_none first tail h))
    by_place (inr e) t = end_found first x.part x.rest run.task run.workers t x.workers (subst (AllNone first) e (all_none first tail h))

pub asked_is_accepted : (words : List (List ℕ)) (run : Run) → Asks words run → run_of words ≡ Some run
asked_is_accepted words run x = by_run (run_of words) refl
  where
    by_run : (found : Option Run) → run_of words ≡ found → found ≡ Some run
    by_run None h = absurd (refused_asks_none words h run x)
    by_run (Some other) h = ap (λ (r : Run). Some r) (asks_once words other run (accepted_asks words other h) x)
