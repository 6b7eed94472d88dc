-- Which verdicts an edit takes, where every grounded name stood before it.
use Rattle.std.proofs.Common.{◌≡◌, suc, ◌+◌, Bool, true, false, not, cond, List, [], ◌∷◌, ◌++◌, ◌&&◌, length, filter, refl, sym, ap, ap₂, ◌∙◌, subst, true≢false, arith}
use Rattle.std.proofs.lemmas.Bool.{false_from_ne_true}
use Rattle.name_meaning.specs.Names.{Name, same_name, is_among}
use Rattle.edit_log_meaning.specs.Log.{Edit, edited_name, Library, names_of, library_of, text_of}
use Rattle.edit_log_laws.specs.LogLaws.{left_by}
use Rattle.edit_log_laws.proofs.Libraries.{text_last}
use Rattle.module_graph_meaning.specs.Walks.{Dependencies, is_grounded}
use Rattle.module_graph_meaning.specs.Reach.{reach, AgreesOn}
use Rattle.module_graph_laws.proofs.Agreement.{reach_same, grounded_same}
use Rattle.name_laws.proofs.Order.{same_sound}
use Rattle.board_meaning.specs.Events.{EditMade, Entry, History, edit_of, log_of, library_after}
use Rattle.board_meaning.specs.Standing.{stands, standing_count}
use Rattle.board_meaning.specs.Legal.{IsLegal}
use Rattle.board_laws.proofs.Histories.{log_some}
use Rattle.board_laws.proofs.Standings.{standing_grounded}
use Rattle.board_laws.proofs.Told.{edit_leaves_told}
use Rattle.board_laws.proofs.Counting.{filter_same}
use Rattle.run_meaning.specs.Generator.{grounded_names, reaching_count}
use Rattle.install_laws.specs.InstallLaws.{AllStand}

-- what passes two tests, and what passes the first alone
pub filter_parts : (g r : Name → Bool) (xs : List Name) → length (filter (λ (x : Name). g x && not (r x)) xs) + length (filter r (filter g xs)) ≡ length (filter g xs)
filter_parts g r [] = refl
filter_parts g r (x ∷ xs) = by (g x) (r x) refl (filter_parts g r xs)
  where
    by : (a b : Bool) → r x ≡ b → length (filter (λ (y : Name). g y && not (r y)) xs) + length (filter r (filter g xs)) ≡ length (filter g xs)
        → length (cond (a && not b) (x ∷ filter (λ (y : Name). g y && not (r y)) xs) (filter (λ (y : Name). g y && not (r y)) xs)) + length (filter r (cond a (x ∷ filter g xs) (filter g xs)))
        ≡ length (cond a (x ∷ filter g xs) (filter g xs))
    by true true e h = ap (λ (c : Bool). length (filter (λ (y : Name). g y && not (r y)) xs) + length (cond c (x ∷ filter r (filter g xs)) (filter r (filter g xs)))) e ∙ omega (arith, h)
    by true false e h = ap (λ (c : Bool). suc (length (filter (λ (y : Name). g y && not (r y)) xs)) + length (cond c (x ∷ filter r (filter g xs)) (filter r (filter g xs)))) e ∙ omega (arith, h)
    by false b e h = h

-- libraries that differ at one name agree on lists that lack it
agrees_without : (L M : Library) (m : Name) → ((x : Name) → same_name x m ≡ false → text_of L x ≡ text_of M x) → (names : List Name) → is_among names m ≡ false → AgreesOn L M names
agrees_without L M m f names h x a =
    f x (false_from_ne_true (same_name x m) (λ e. true≢false (sym (subst (λ (z : Name). is_among names z ≡ true) (same_sound x m e) a) ∙ h)))

-- grounded, and without the name in its reach: in both libraries or in neither
pub same_without : (dependencies : Dependencies) (L M : Library) (m : Name) → ((x : Name) → same_name x m ≡ false → text_of L x ≡ text_of M x) → (n : Name)
    → (is_grounded dependencies L n && not (is_among (reach dependencies L n) m)) ≡ (is_grounded dependencies M n && not (is_among (reach dependencies M n) m))
same_without dependencies L M m f n = by (is_among (reach dependencies L n) m) (is_among (reach dependencies M n) m) refl refl
  where
    and_none : (b : Bool) → (b && false) ≡ false
    and_none true = refl
    and_none false = refl

    here : is_among (reach dependencies L n) m ≡ false → (is_grounded dependencies M n ≡ is_grounded dependencies L n) × (reach dependencies M n ≡ reach dependencies L n)
    here h = let a = agrees_without L M m f (reach dependencies L n) h in (grounded_same dependencies L M n a, reach_same dependencies L M n a)

    there : is_among (reach dependencies M n) m ≡ false → reach dependencies L n ≡ reach dependencies M n
    there h = reach_same dependencies M L n (agrees_without M L m (λ x e. sym (f x e)) (reach dependencies M n) h)

    by : (a b : Bool) → is_among (reach dependencies L n) m ≡ a → is_among (reach dependencies M n) m ≡ b
        → (is_grounded dependencies L n && not (is_among (reach dependencies L n) m)) ≡ (is_grounded dependencies M n && not (is_among (reach dependencies M n) m))
    by false b h k = let q = here h in sym (ap₂ (λ (g : Bool) (names : List Name). g && not (is_among names m)) q.0 q.1)
    by true true h k =
        ap (λ (c : Bool). is_grounded dependencies L n && not c) h ∙ and_none (is_grounded dependencies L n)
        ∙ sym (ap (λ (c : Bool). is_grounded dependencies M n && not c) k ∙ and_none (is_grounded dependencies M n))
    by true false h k = absurd (true≢false (sym h ∙ ap (λ (names : List Name). is_among names m) (there k) ∙ k))

pub all_stand : (dependencies : Dependencies) (H : History) → IsLegal dependencies H → AllStand dependencies H → (n : Name) → stands dependencies H n ≡ is_grounded dependencies (library_after H) n
all_stand dependencies H l all n = by (stands dependencies H n) (is_grounded dependencies (library_after H) n) refl refl
  where
    by : (a b : Bool) → stands dependencies H n ≡ a → is_grounded dependencies (library_after H) n ≡ b → a ≡ b
    by true true h g = refl
    by true false h g = absurd (true≢false (sym (standing_grounded dependencies H l n h) ∙ g))
    by false true h g = absurd (true≢false (sym (all n g) ∙ h))
    by false false h g = refl

pub all_counted : (dependencies : Dependencies) (H : History) → IsLegal dependencies H → AllStand dependencies H → standing_count dependencies H ≡ length (grounded_names dependencies (library_after H))
all_counted dependencies H l all =
    ap length (filter_same (is_grounded dependencies (library_after H)) (stands dependencies H) (names_of (library_after H)) (λ n m. all_stand dependencies H l all n))

-- an edit takes as many verdicts as it asks for
pub edit_takes : (dependencies : Dependencies) (H : History) (e : Entry) (edit : Edit) → IsLegal dependencies H → AllStand dependencies H → e.event ≡ EditMade edit
    → standing_count dependencies (H ++ e ∷ []) + reaching_count dependencies (library_after (H ++ e ∷ [])) (edited_name edit) ≡ length (grounded_names dependencies (library_after (H ++ e ∷ [])))
edit_takes dependencies H e edit l all h =
    ap (λ (xs : List Name). length xs + reaching_count dependencies (library_after (H ++ e ∷ [])) (edited_name edit))
    (filter_same (λ (n : Name). is_grounded dependencies (library_after (H ++ e ∷ [])) n && not (is_among (reach dependencies (library_after (H ++ e ∷ [])) n) (edited_name edit))) (stands dependencies (H ++ e ∷ [])) (names_of (library_after (H ++ e ∷ []))) (λ n i. stood n))
    ∙ filter_parts (is_grounded dependencies (library_after (H ++ e ∷ []))) (λ (n : Name). is_among (reach dependencies (library_after (H ++ e ∷ [])) n) (edited_name edit)) (names_of (library_after (H ++ e ∷ [])))
  where
    texts : (x : Name) → same_name x (edited_name edit) ≡ false → text_of (library_after H) x ≡ text_of (library_after (H ++ e ∷ [])) x
    texts x s =
        sym (ap (λ z. text_of (library_of z) x) (log_some H e edit (ap edit_of h)) ∙ text_last (log_of H) edit x
        ∙ ap (λ (b : Bool). cond b (left_by edit) (text_of (library_after H) x)) s)

    stood : (n : Name) → stands dependencies (H ++ e ∷ []) n ≡ (is_grounded dependencies (library_after (H ++ e ∷ [])) n && not (is_among (reach dependencies (library_after (H ++ e ∷ [])) n) (edited_name edit)))
    stood n =
        edit_leaves_told dependencies H e edit n l h
        ∙ ap (λ (b : Bool). b && not (is_among (reach dependencies (library_after H) n) (edited_name edit))) (all_stand dependencies H l all n)
        ∙ same_without dependencies (library_after H) (library_after (H ++ e ∷ [])) (edited_name edit) texts n
