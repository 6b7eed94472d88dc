-- Names in hash tables: which names a table has after some were added.
use Rattle.std.proofs.Common.{◌≡◌, ℕ, ◌+◌, ◌<◌, length, take, get_or, Bool, true, false, cond, ◌||◌, List, [], ◌∷◌, ◌++◌, refl, sym, ap, ◌∙◌}
use Rattle.std.specs.List.{list_any}
use Rattle.std.proofs.Math.Bool.{or-false}
use Rattle.std.proofs.lemmas.List.{take_more}
use Rattle.std.proofs.lemmas.List.Folds.{list_any-append}
use Rattle.indexmap.specs.IndexSet.{insert_key}
use Rattle.name_meaning.specs.Names.{Name, same_name, is_among}
use Rattle.library_meaning.specs.Closure.{sees}
use Rattle.name_laws.proofs.Contained.{same_other_way}
use Rattle.name_laws.proofs.Order.{same_sound}

pub none_among : (other : Name) → sees [] other ≡ false
unfolding is_among
none_among other = refl

pub among_behind : (names : List Name) (name other : Name) → sees (names ++ name ∷ []) other ≡ (sees names other || same_name other name)
unfolding is_among
among_behind names name other = list_any-append (same_name other) names (name ∷ []) ∙ ap (λ b. is_among names other || b) (or-false (same_name other name))

-- a name that is there already is no other one
one_of_them : (names : List Name) (name other : Name) → sees names name ≡ true → sees names other ≡ (sees names other || same_name other name)
one_of_them names name other there = by (sees names other) (same_name other name) refl refl
  where
    by : (a b : Bool) → sees names other ≡ a → same_name other name ≡ b → a ≡ (a || b)
    by true b e f = refl
    by false true e f = absurd (let same : other ≡ name = same_sound other name f in let one : sees names other ≡ true = ap (sees names) same ∙ there in cc)
    by false false e f = refl

pub inserted_among : (keys : List Name) (name other : Name) → sees (insert_key same_name keys name) other ≡ (sees keys other || same_name other name)
unfolding is_among
inserted_among keys name other = by (list_any (same_name name) keys) refl
  where
    by : (b : Bool) → list_any (same_name name) keys ≡ b → sees (cond b keys (keys ++ name ∷ [])) other ≡ (sees keys other || same_name other name)
    by true there = one_of_them keys name other there
    by false new = among_behind keys name other

pub taken_among : (names : List Name) (i : ℕ) (name other : Name) → i < length names → name ≡ get_or names i name → sees (take (i + 1) names) other ≡ (sees (take i names) other || same_name other name)
taken_among names i name other within there =
    ap (λ (ns : List Name). sees ns other) (take_more names i name within ∙ ap (λ n. take i names ++ n ∷ []) (sym there)) ∙ among_behind (take i names) name other

-- Behind no names, one name, and then more.
pub one_among : (keys : List Name) (name other : Name) → keys ≡ [] → (sees keys other || same_name other name) ≡ same_name name other
one_among keys name other none = ap (λ (ks : List Name). sees ks other || same_name other name) none ∙ ap (λ b. b || same_name other name) (none_among other) ∙ same_other_way other name

pub nothing_more : (before : Bool) (names : List Name) (other : Name) → names ≡ [] → before ≡ (before || sees names other)
nothing_more before names other none = sym (ap (λ (ns : List Name). before || sees ns other) none ∙ ap (λ b. before || b) (none_among other) ∙ or-false before)
