-- Logs of which each edit put a new name.
use Rattle.std.proofs.Common.{◌≡◌, ℕ, suc, ◌+◌, Bool, true, false, not, cond, [], ◌∷◌, ◌++◌, length, nat_le, nat_lt, ◌&&◌, ◌||◌, Option, Some, None, is_some, refl, ap, ◌∙◌, arith, length-append}
use Rattle.std.proofs.lemmas.Bool.Decides.{nat_tests}
use Rattle.name_meaning.specs.Names.{Name, Text, same_name, comes_before}
use Rattle.name_meaning.specs.Limits.{text_limit, module_limit, edit_limit, total_limit}
use Rattle.edit_log_meaning.specs.Log.{Put, Log, Module, Library, with_module, library_of, text_of, is_present, version_of}
use Rattle.edit_log_meaning.specs.Append.{Edited, Made, Same, Absent, Full, TooLong, TooMany, total_size, is_text, made_unless_full, append_answer, log_after, appended}
use Rattle.printing_meaning.specs.FolderLines.{LongFile, DuplicateName, TooManyModules, FullLog}
use Rattle.run_meaning.specs.Files.{refused_by}
use Rattle.list_laws.proofs.Options.{none_of}
use Rattle.edit_log_laws.proofs.Libraries.{library_last, text_last}
use Rattle.edit_log_laws.proofs.Limits.{made_within, empty_within}
use Rattle.folder_load.specs.Ahead.{word_of, word_by, IsFresh}

-- ---- why a text is refused, by numbers

-- as many modules as edits pass the limit of modules first
no_limit : (count : ℕ) → nat_le module_limit count ≡ false → nat_le edit_limit count ≡ false
no_limit count h = grind (arith, nat_tests)

module _ (log : Log) (name : Name) (text : Text) (fresh : IsFresh log) where
  last : (full : Bool) → refused_by (cond full Full (Made (suc (version_of log)))) ≡ cond full (Some FullLog) None
  last true = refl
  last false = refl

  tested : (long many : Bool) → nat_le module_limit (version_of log) ≡ many
      → refused_by (cond long TooLong (cond many TooMany (made_unless_full log (Put name text))))
      ≡ cond long (Some LongFile) (cond many (Some TooManyModules) (cond (nat_lt total_limit (total_size log + length text)) (Some FullLog) None))
  tested true many h = refl
  tested false true h = refl
  tested false false h =
      ap (λ b. refused_by (cond (b || nat_lt total_limit (total_size log + length text)) Full (Made (suc (version_of log))))) (no_limit (version_of log) h)
      ∙ last (nat_lt total_limit (total_size log + length text))

  answered : text_of (library_of log) name ≡ None
      → append_answer log (Put name text) ≡ cond (nat_lt text_limit (length text)) TooLong (cond (nat_le module_limit (version_of log)) TooMany (made_unless_full log (Put name text)))
  unfolding append_answer
  answered none = λ i.
      cond (nat_lt text_limit (length text)) TooLong
      (cond (is_text text (none i)) (Same (version_of log))
      (cond (not (is_some (none i)) && nat_le module_limit (fresh.modules i)) TooMany (made_unless_full log (Put name text))))

  pub word_is : word_of log name text ≡ word_by (is_present (library_of log) name) (length text) (version_of log) (total_size log)
  word_is = by (is_present (library_of log) name) refl
    where
      by : (b : Bool) → is_present (library_of log) name ≡ b
          → cond b (Some DuplicateName) (refused_by (append_answer log (Put name text))) ≡ word_by b (length text) (version_of log) (total_size log)
      by true e = refl
      by false e =
          ap refused_by (answered (none_of (text_of (library_of log) name) e))
          ∙ tested (nat_lt text_limit (length text)) (nat_le module_limit (version_of log)) refl

-- ---- a text that is not refused

pub record IsPassed (log : Log) (name : Name) (text : Text) : Type 0 where
  pub absent : is_present (library_of log) name ≡ false
  pub version : ℕ
  pub made : append_answer log (Put name text) ≡ Made version

made_of : (answer : Edited) → refused_by answer ≡ None → (version : ℕ) × (answer ≡ Made version)
made_of (Made version) h = (version, refl)
made_of (Same version) h = absurd (cc)
made_of (Absent version) h = absurd (cc)
made_of Full h = absurd (cc)
made_of TooLong h = absurd (cc)
made_of TooMany h = absurd (cc)

pub passed : (log : Log) (name : Name) (text : Text) → word_of log name text ≡ None → IsPassed log name text
passed log name text h = by (is_present (library_of log) name) refl h
  where
    by : (b : Bool) → is_present (library_of log) name ≡ b → cond b (Some DuplicateName) (refused_by (append_answer log (Put name text))) ≡ None → IsPassed log name text
    by true e f = absurd (cc)
    by false e f = let m = made_of (append_answer log (Put name text)) f in record { absent = e; version = m.0; made = m.1 }

pub appended_is : (log : Log) (name : Name) (text : Text) → IsPassed log name text → appended log (Put name text) ≡ log ++ Put name text ∷ []
unfolding appended
appended_is log name text p = ap (log_after log (Put name text)) p.made

-- ---- the log after it

longer_by : (name : Name) (text : Text) (other : Module) (library more : Library) (same before : Bool) → same ≡ false → length more ≡ suc (length library)
    → length (cond same (record { name = name; text = text } ∷ library) (cond before (record { name = name; text = text } ∷ other ∷ library) (other ∷ more))) ≡ suc (suc (length library))
longer_by name text other library more true before e h = absurd (cc)
longer_by name text other library more false true e h = refl
longer_by name text other library more false false e h = ap suc h

first_absent : (same : Bool) (text : Text) (rest : Option Text) → is_some (cond same (Some text) rest) ≡ false → (same ≡ false) × (is_some rest ≡ false)
first_absent true text rest h = absurd (cc)
first_absent false text rest h = (refl, h)

longer : (name : Name) (text : Text) (library : Library) → is_present library name ≡ false → length (with_module name text library) ≡ suc (length library)
unfolding with_module text_of
longer name text [] h = refl
longer name text (other ∷ library) h =
    let f = first_absent (same_name name other.name) other.text (text_of library name) h in
    longer_by name text other library (with_module name text library) (same_name name other.name) (comes_before name other.name) f.0 (longer name text library f.1)

pub fresh_after : (log : Log) (name : Name) (text : Text) → IsFresh log → IsPassed log name text → IsFresh (log ++ Put name text ∷ [])
fresh_after log name text fresh p = record {
  modules =
      ap length (library_last log (Put name text)) ∙ longer name text (library_of log) p.absent ∙ ap suc fresh.modules
      ∙ (let n : suc (length log) ≡ length (log ++ Put name text ∷ []) = omega (arith, length-append log (Put name text ∷ [])) in n);
  limits = made_within log (Put name text) p.version p.made fresh.limits;
}

pub empty_fresh : IsFresh []
unfolding library_of
empty_fresh = record { modules = refl; limits = empty_within }

pub present_after : (log : Log) (name : Name) (text : Text) (other : Name)
    → is_present (library_of (log ++ Put name text ∷ [])) other ≡ (same_name other name || is_present (library_of log) other)
present_after log name text other = ap is_some (text_last log (Put name text) other) ∙ by (same_name other name)
  where
    by : (b : Bool) → is_some (cond b (Some text) (text_of (library_of log) other)) ≡ (b || is_present (library_of log) other)
    by true = refl
    by false = refl
