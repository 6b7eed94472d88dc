-- One more name, in a table of names and in a list that has the same names.
use Rattle.std.proofs.Common.{◌≡◌, ℕ, ◌+◌, ◌<◌, ◌≤◌, length, take, get_or, arith, Bool, true, false, cond, not, ◌||◌, List, [], ◌∷◌, ◌++◌, append_assoc, refl, sym, ap, ◌∙◌}
use Rattle.std.specs.List.{list_any}
use Rattle.std.proofs.Math.Bool.{or-false, or_assoc}
use Rattle.std.proofs.lemmas.List.{take_more}
use Rattle.std.proofs.lemmas.List.Sums.{fold-append}
use Rattle.std.proofs.Math.Seq.{take-length}
use Rattle.indexmap.specs.IndexSet.{insert_key}
use Rattle.name_meaning.specs.Names.{Name, same_name, is_among}
use Rattle.name_laws.proofs.Order.{same_sound}
use Rattle.library_meaning.specs.Closure.{sees, with_once, with_all}
use Rattle.include_closure.specs.Additions.{HaveSame, Extends}
use Rattle.include_closure.specs.declared.additions.Additions.{Additions}

among_more : (names : List Name) (name other : Name) → is_among (names ++ name ∷ []) other ≡ (is_among names other || same_name other name)
unfolding is_among
among_more [] name other = or-false (same_name other name)
among_more (first ∷ names) name other = ap (λ b. same_name other first || b) (among_more names name other) ∙ sym (or_assoc (same_name other first) (is_among names other) (same_name other name))

-- a name of the list is no new name
old_name : (names : List Name) (name other : Name) → is_among names name ≡ true → (is_among names other || same_name other name) ≡ is_among names other
old_name names name other h = by (is_among names other) (same_name other name) refl refl
  where
    by : (a b : Bool) → is_among names other ≡ a → same_name other name ≡ b → (a || b) ≡ a
    by true b e f = refl
    by false true e f = absurd (let same : other ≡ name = same_sound other name f in let one : is_among names other ≡ true = ap (is_among names) same ∙ h in cc)
    by false false e f = refl

module _ (keys names : List Name) (name : Name) (same : HaveSame keys names) where
  -- the name, at the end of the list in any case
  pub same_behind : HaveSame (insert_key same_name keys name) (names ++ name ∷ [])
  unfolding is_among
  same_behind other = by (list_any (same_name name) keys) refl
    where
      by : (b : Bool) → list_any (same_name name) keys ≡ b → is_among (cond b keys (keys ++ name ∷ [])) other ≡ is_among (names ++ name ∷ []) other
      by true e = same other ∙ sym (old_name names name other (sym (same name) ∙ e)) ∙ sym (among_more names name other)
      by false e = among_more keys name other ∙ ap (λ b. b || same_name other name) (same other) ∙ sym (among_more names name other)

  -- the name, unless it is there
  pub same_once : HaveSame (insert_key same_name keys name) (with_once names name)
  unfolding is_among
  same_once other = by (list_any (same_name name) keys) (list_any (same_name name) names) (same name)
    where
      by : (b c : Bool) → b ≡ c → is_among (cond b keys (keys ++ name ∷ [])) other ≡ is_among (cond c names (names ++ name ∷ [])) other
      by true true e = same other
      by true false e = absurd (cc)
      by false true e = absurd (cc)
      by false false e = among_more keys name other ∙ ap (λ b. b || same_name other name) (same other) ∙ sym (among_more names name other)

-- what is new comes behind, and what is old changes nothing
pub new_behind : (keys front added whole : List Name) (name : Name) → HaveSame keys whole → front ++ added ≡ whole → not (list_any (same_name name) keys) ≡ true → front ++ (added ++ name ∷ []) ≡ with_once whole name
unfolding is_among
new_behind keys front added whole name same e new = sym (append_assoc front added (name ∷ [])) ∙ ap (λ z. z ++ name ∷ []) e ∙ by (list_any (same_name name) keys) (list_any (same_name name) whole) (same name) new
  where
    by : (b c : Bool) → b ≡ c → not b ≡ true → whole ++ name ∷ [] ≡ cond c whole (whole ++ name ∷ [])
    by true c e n = absurd (cc)
    by false true e n = absurd (cc)
    by false false e n = refl

pub old_stays : (keys whole : List Name) (name : Name) → HaveSame keys whole → not (list_any (same_name name) keys) ≡ false → whole ≡ with_once whole name
unfolding is_among
old_stays keys whole name same old = by (list_any (same_name name) keys) (list_any (same_name name) whole) (same name) old
  where
    by : (b c : Bool) → b ≡ c → not b ≡ false → whole ≡ cond c whole (whole ++ name ∷ [])
    by true true e n = refl
    by true false e n = absurd (cc)
    by false c e n = absurd (cc)

-- a name that is new is added
pub added_new : (old new : Additions) (front whole : List Name) (name inserted pushed : Name) → inserted ≡ name → pushed ≡ name → not (list_any (same_name inserted) old.known.keys) ≡ true
    → new.known.keys ≡ insert_key same_name old.known.keys inserted → new.added.items ≡ old.added.items ++ pushed ∷ [] → Extends old front whole → Extends new front (with_once whole name)
added_new old new front whole name inserted pushed is_inserted is_pushed free keys items e =
    record {
      list = ap (λ xs. front ++ xs) (items ∙ ap (λ n. old.added.items ++ n ∷ []) is_pushed) ∙ new_behind old.known.keys front old.added.items whole name e.known e.list (ap (λ n. not (list_any (same_name n) old.known.keys)) (sym is_inserted) ∙ free);
      known = λ other. ap (λ ks. sees ks other) (keys ∙ ap (insert_key same_name old.known.keys) is_inserted) ∙ same_once old.known.keys whole name e.known other;
    }

-- one that is old is not
pub added_old : (old new : Additions) (front whole : List Name) (name inserted : Name) → inserted ≡ name → not (list_any (same_name inserted) old.known.keys) ≡ false
    → new.known.keys ≡ insert_key same_name old.known.keys inserted → new.added.items ≡ old.added.items → Extends old front whole → Extends new front (with_once whole name)
added_old old new front whole name inserted is_inserted there keys items e =
    record {
      list = ap (λ xs. front ++ xs) items ∙ e.list ∙ old_stays old.known.keys whole name e.known (ap (λ n. not (list_any (same_name n) old.known.keys)) (sym is_inserted) ∙ there);
      known = λ other. ap (λ ks. sees ks other) (keys ∙ ap (insert_key same_name old.known.keys) is_inserted) ∙ same_once old.known.keys whole name e.known other;
    }

-- all names of a list, name by name
pub all_more : (whole names : List Name) (i : ℕ) (name : Name) → i < length names → name ≡ get_or names i name → with_all whole (take (i + 1) names) ≡ with_once (with_all whole (take i names)) name
unfolding with_all
all_more whole names i name within here =
    ap (with_all whole) (take_more names i name within ∙ ap (λ n. take i names ++ n ∷ []) (sym here)) ∙ fold-append with_once whole (take i names) (name ∷ [])

-- the names of a list, known name by name
pub known_more : (keys names : List Name) (i : ℕ) (name : Name) → i < length names → name ≡ get_or names i name → HaveSame keys (take i names) → HaveSame (insert_key same_name keys name) (take (i + 1) names)
known_more keys names i name within here same other =
    same_behind keys (take i names) name same other ∙ ap (λ ns. sees ns other) (sym (take_more names i name within ∙ ap (λ n. take i names ++ n ∷ []) (sym here)))

pub whole_taken : {A : Type 0} (names : List A) (i : ℕ) → length names ≤ i → i ≤ length names → take i names ≡ names
whole_taken names i past within = let all : i ≡ length names = omega (arith, past, within) in ap (λ n. take n names) all ∙ take-length names
