-- What is told by parts that were written, in whole or in part.
use Rattle.std.proofs.Common.{◌≡◌, ◌-◌, ◌≤◌, ℕ, zero, suc, Bool, true, false, cond, List, [], ◌∷◌, ◌++◌, length, map, nat_eq, Some, None, ⊎_elim, refl, ap, ◌∙◌, subst, arith, length-append}
use Rattle.std.proofs.lemmas.Option.{same_Some}
use Rattle.std.proofs.lemmas.List.Elements.{filter_map-append}
use Rattle.std.specs.List.{cons_option}
use Rattle.name_meaning.specs.Names.{Name}
use Rattle.list_laws.proofs.Members.{Member, in_append, in_option, member_place, option_first, option_rest, place_member}
use Rattle.edit_log_meaning.specs.Log.{Log, library_of, version_of}
use Rattle.module_graph_meaning.specs.Walks.{is_grounded}
use Rattle.text_meaning.specs.Dependencies.{dependencies}
use Rattle.board_meaning.specs.Events.{History, log_of}
use Rattle.board_meaning.specs.Standing.{IsBacked}
use Rattle.board_laws.proofs.Backing.{standing_backed}
use Rattle.run_meaning.specs.Parts.{Part, Telling, part_about, parts_text, parts_told, silent_part, telling_of}
use Rattle.run_meaning.specs.Backing.{AreBacked}
use Rattle.board_front.specs.Staying.{StandsIfGrounded}
use Rattle.folder_front.specs.Checked.{told_within}

-- ---- what begins within the bytes written

within_told : (count : ℕ) (front behind : List Part) (t : Telling) → count ≤ length (parts_text front) → Member t (told_within count (front ++ behind)) → Member t (parts_told front)
unfolding told_within
within_told count [] [] t short m = absurd m
within_told zero [] (part ∷ behind) t short m = absurd m
within_told (suc count) [] (part ∷ behind) t short m = absurd (omega (arith, short))
within_told count (part ∷ front) behind t short m =
    by (nat_eq count 0) (told_within (count - length part.text) (front ++ behind))
    (within_told (count - length part.text) front behind t (omega (arith, short, length-append part.text (parts_text front)))) m
  where
    by : (none : Bool) (told : List Telling) → (Member t told → Member t (parts_told front)) → Member t (cond none [] (cons_option part.telling told)) → Member t (parts_told (part ∷ front))
    by true told on m = absurd m
    by false told on m = ⊎_elim (λ e. option_first part.telling (parts_told front) t e) (λ n. option_rest part.telling (parts_told front) t (on n)) (in_option part.telling told t m)

-- Where no more bytes are written than the first parts have, and what these tell is backed, what is told within is.
pub within_backed : (history : History) (count : ℕ) (front behind : List Part) → count ≤ length (parts_text front) → AreBacked dependencies history (parts_told front)
    → AreBacked dependencies history (told_within count (front ++ behind))
within_backed history count front behind short backed place t s =
    let m = member_place (parts_told front) t (within_told count front behind t short (place_member (told_within count (front ++ behind)) place t s)) in
    backed m.0 t m.1

-- ---- what parts tell

pub none_backed : (history : History) → AreBacked dependencies history []
none_backed history place t s = absurd (cc)

pub both_backed : (history : History) (front behind : List Part) → AreBacked dependencies history (parts_told front) → AreBacked dependencies history (parts_told behind)
    → AreBacked dependencies history (parts_told (front ++ behind))
both_backed history front behind f b place t s =
    let m = subst (λ (tellings : List Telling). Member t tellings) (filter_map-append (λ (part : Part). part.telling) front behind) (place_member (parts_told (front ++ behind)) place t s) in
    ⊎_elim (λ l. let p = member_place (parts_told front) t l in f p.0 t p.1) (λ r. let p = member_place (parts_told behind) t r in b p.0 t p.1) (in_append (parts_told front) (parts_told behind) t m)

pub silent_told : {A : Type 0} (text : A → List ℕ) (xs : List A) → parts_told (map (λ (x : A). silent_part (text x)) xs) ≡ []
silent_told text [] = refl
silent_told text (x ∷ xs) = silent_told text xs

-- What is told of a name that stands if it is grounded.
pub name_backed : (history : History) (log : Log) (name : Name) (text : List ℕ) → log_of history ≡ log → StandsIfGrounded history name
    → AreBacked dependencies history (parts_told (part_about dependencies log name text ∷ []))
name_backed history log name text logged stands place t s =
    by (is_grounded dependencies (library_of log) name) refl
    (⊎_elim (λ e. e) (λ m. absurd m) (in_option (telling_of dependencies log name) [] t (place_member (parts_told (part_about dependencies log name text ∷ [])) place t s)))
  where
    by : (b : Bool) → is_grounded dependencies (library_of log) name ≡ b → cond b (Some (record { name = name; version = version_of log })) None ≡ Some t → IsBacked dependencies history t.name t.version
    by false g e = absurd (cc)
    by true g e =
        subst (λ (z : Telling). IsBacked dependencies history z.name z.version)
        (ap (λ (l : Log). record { name = name; version = version_of l }) logged ∙ same_Some _ _ e)
        (standing_backed dependencies history name (stands (ap (λ (l : Log). is_grounded dependencies (library_of l) name) logged ∙ g)))
