-- The texts of a library whose log keeps to the limit of a text.
use Rattle.std.proofs.Common.{◌≡◌, ℕ, ◌≤◌, Bool, true, false, cond, [], ◌∷◌, length, fold, nat_le, Some, sym, ap, ◌∙◌, arith}
use Rattle.std.specs.List.{list_all}
use Rattle.std.proofs.lemmas.Bool.{and_parts}
use Rattle.std.proofs.lemmas.Bool.Decides.{nat_tests}
use Rattle.name_meaning.specs.Names.{Name, Text, same_name}
use Rattle.edit_log_meaning.specs.Log.{Edit, Put, Drop, Log, Library, edited_name, edited, library_of, text_of}
use Rattle.name_meaning.specs.Limits.{text_limit}
use Rattle.edit_log_meaning.specs.Append.{is_short}
use Rattle.edit_log_laws.specs.LogLaws.{left_by}
use Rattle.edit_log_laws.proofs.Libraries.{text_edited}

AllShort : Library → Type 0
AllShort library = (n : Name) (t : Text) → text_of library n ≡ Some t → length t ≤ text_limit

short : (k l : ℕ) → nat_le k l ≡ true → k ≤ l
short k l h = grind (arith, nat_tests)

left_short : (e : Edit) (t : Text) → is_short e ≡ true → left_by e ≡ Some t → length t ≤ text_limit
left_short (Put n u) t h e = let f : u ≡ t = cc in short (length t) text_limit (sym (ap (λ z. nat_le (length z) text_limit) f) ∙ h)
left_short (Drop n) t h e = absurd (cc)

edited_short : (library : Library) (e : Edit) → AllShort library → is_short e ≡ true → AllShort (edited library e)
unfolding AllShort
edited_short library e a s n t h = by (same_name n (edited_name e)) (sym (text_edited library e n) ∙ h)
  where
    by : (b : Bool) → cond b (left_by e) (text_of library n) ≡ Some t → length t ≤ text_limit
    by true f = left_short e t s f
    by false f = a n t f

all_short : (library : Library) (log : Log) → AllShort library → list_all is_short log ≡ true → AllShort (fold edited library log)
all_short library [] a s = a
all_short library (e ∷ log) a s = let p = and_parts (is_short e) (list_all is_short log) s in all_short (edited library e) log (edited_short library e a p.0) p.1

pub texts_short : (log : Log) (n : Name) (t : Text) → list_all is_short log ≡ true → text_of (library_of log) n ≡ Some t → length t ≤ text_limit
unfolding AllShort library_of text_of
texts_short log n t s h = all_short [] log (λ m u e. absurd (cc)) s n t h
