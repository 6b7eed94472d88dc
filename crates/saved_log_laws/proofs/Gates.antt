-- How a file is read from gate to gate.
use Rattle.std.proofs.Common.{◌≡◌, ◌≢◌, ℕ, zero, suc, ◌+◌, ◌<◌, ◌≤◌, ◌^◌, Bool, true, false, List, [], ◌∷◌, ◌++◌, length, nat_le, nat_lt, refl, sym, ap, ◌∙◌, arith, length-append, append_assoc, cond, ◌==◌, Option, Some, None, take, drop, not, ◌&&◌}
use Rattle.std.proofs.lemmas.Bool.Decides.{nat_tests}
use Rattle.std.proofs.lemmas.List.{append-nil}
use Rattle.std.specs.Str.{bytes_eq}
use Rattle.name_meaning.specs.Limits.{module_limit}
use Rattle.edit_log_meaning.specs.Log.{Edit, Log, text_of, library_of, is_present, version_of}
use Rattle.edit_log_meaning.specs.Append.{Edited, Made, append_answer, is_text, made_unless_full}
use Rattle.saved_log_meaning.specs.Records.{Read, record_of, record_bytes, record_size}
use Rattle.saved_log_meaning.specs.SavedFiles.{Contents, Edits, DamagedAt, behind_edit, behind_record, behind_gate, contents_within, contents_from, heading, file_contents}
use Rattle.saved_log_laws.specs.RecordLaws.{FitsRecord}
use Rattle.saved_log_laws.specs.SavedFileLaws.{Takes, TakesAll, LeadsTo, gated_bytes, written_file}
use Rattle.saved_log_laws.proofs.Fronts.{record_written, some_size, shorter}

-- Two bounds that are as great as the number of bytes.
pub enough : (n m at : ℕ) (log : Log) (bytes : List ℕ) → length bytes ≤ n → length bytes ≤ m → contents_within n at log bytes ≡ contents_within m at log bytes
unfolding contents_within
enough zero zero at log bytes h k = refl
enough zero (suc m) at log [] h k = refl
enough (suc n) zero at log [] h k = refl
enough (suc n) (suc m) at log [] h k = refl
enough zero m at log (gate ∷ bytes) h k = absurd (omega (arith, h))
enough (suc n) zero at log (gate ∷ bytes) h k = absurd (omega (arith, k))
enough (suc n) (suc m) at log (gate ∷ bytes) h k = ap (λ (r : Contents). cond (gate == 0) (Edits log) r) (same n m at log bytes (λ to more rest l. enough n m to more rest (omega (arith, h, l)) (omega (arith, k, l))) (record_of bytes) refl)
  where
    after : (n m at : ℕ) (log : Log) (edit : Edit) (bytes : List ℕ) → ((to : ℕ) (more : Log) → contents_within n to more bytes ≡ contents_within m to more bytes) → (answer : Edited) → behind_edit (contents_within n) at log edit bytes answer ≡ behind_edit (contents_within m) at log edit bytes answer
    after n m at log edit bytes go (Edited.Made version) = go (at + suc (record_size edit)) (log ++ edit ∷ [])
    after n m at log edit bytes go (Edited.Same version) = refl
    after n m at log edit bytes go (Edited.Absent version) = refl
    after n m at log edit bytes go Edited.Full = refl
    after n m at log edit bytes go Edited.TooLong = refl
    after n m at log edit bytes go Edited.TooMany = refl

    there : (n m at : ℕ) (log : Log) (edit : Edit) (rest : List ℕ) → ((to : ℕ) (more : Log) → contents_within n to more rest ≡ contents_within m to more rest) → behind_record (contents_within n) at log edit rest ≡ behind_record (contents_within m) at log edit rest
    there n m at log edit [] go = refl
    there n m at log edit (next ∷ rest) go = after n m at log edit (next ∷ rest) go (append_answer log edit)

    same : (n m at : ℕ) (log : Log) (bytes : List ℕ) → ((to : ℕ) (more : Log) (rest : List ℕ) → length rest < length bytes → contents_within n to more rest ≡ contents_within m to more rest)
        → (o : Option (Read Edit)) → record_of bytes ≡ o → behind_gate (contents_within n) at log o ≡ behind_gate (contents_within m) at log o
    same n m at log bytes go None e = refl
    same n m at log bytes go (Some r) e = there n m at log r.value r.rest (λ to more. go to more r.rest (shorter bytes r e))

pub suffices : (gates at : ℕ) (log : Log) (bytes : List ℕ) → length bytes ≤ gates → contents_within gates at log bytes ≡ contents_from at log bytes
suffices gates at log bytes h = enough gates (length bytes) at log bytes h (omega arith)

pub closed : (at : ℕ) (log : Log) (rest : List ℕ) → contents_from at log (0 ∷ rest) ≡ Edits log
unfolding contents_within
closed at log rest = refl

pub opened : (gate at : ℕ) (log : Log) (bytes : List ℕ) (edit : Edit) (version next : ℕ) (rest : List ℕ) → gate ≢ 0 → record_of bytes ≡ Some (record { value = edit; rest = next ∷ rest }) → append_answer log edit ≡ Made version
    → contents_from at log (gate ∷ bytes) ≡ contents_from (at + suc (record_size edit)) (log ++ edit ∷ []) (next ∷ rest)
unfolding contents_within
opened gate at log bytes edit version next rest wide e made =
    let is_open : (gate == 0) ≡ false = grind (arith, nat_tests) in
    let fewer = shorter bytes (record { value = edit; rest = next ∷ rest }) e in
    ap (λ b. cond b (Edits log) (behind_gate (contents_within (length bytes)) at log (record_of bytes))) is_open
    ∙ ap (λ (o : Option (Read Edit)). behind_gate (contents_within (length bytes)) at log o) e
    ∙ ap (λ (answer : Edited). behind_edit (contents_within (length bytes)) at log edit (next ∷ rest) answer) made
    ∙ enough (length bytes) (length (next ∷ rest)) (at + suc (record_size edit)) (log ++ edit ∷ []) (next ∷ rest) (omega (arith, fewer)) (omega arith)

-- The text of an edit that is made keeps to the limit of a text.
made_text : (log : Log) (name text : List ℕ) (version : ℕ) → append_answer log (Edit.Put name text) ≡ Made version → length text ≤ 2 ^ 20
unfolding append_answer
made_text log name text version made = either (nat_lt (2 ^ 20) (length text)) refl
  where
    later : Edited
    later =
        cond (is_text text (text_of (library_of log) name)) (Edited.Same (version_of log))
        (cond (not (is_present (library_of log) name) && nat_le module_limit (length (library_of log))) Edited.TooMany (made_unless_full log (Edit.Put name text)))

    too_long : Edited.TooLong ≡ Made version → ⊥
    too_long e = cc

    either : (b : Bool) → nat_lt (2 ^ 20) (length text) ≡ b → length text ≤ 2 ^ 20
    either true is = absurd (too_long (sym (ap (λ b. cond b Edited.TooLong later) is) ∙ made))
    either false is = grind (arith, nat_tests, is)

pub takes_fits : (log : Log) (edit : Edit) → Takes log edit → FitsRecord edit
takes_fits log (Edit.Put name text) takes = record { named = takes.named; name = takes.name; text = (let short = made_text log name text takes.version takes.made in omega (arith, short)) }
takes_fits log (Edit.Drop name) takes = record { named = takes.named; name = takes.name; text = omega arith }

-- An open gate before the record of an edit that the log takes.
pub goes_on : (gate at : ℕ) (log : Log) (edit : Edit) (next : ℕ) (rest : List ℕ) → gate ≢ 0 → Takes log edit
    → contents_from at log (gate ∷ (record_bytes edit ++ next ∷ rest)) ≡ contents_from (at + suc (record_size edit)) (log ++ edit ∷ []) (next ∷ rest)
goes_on gate at log edit next rest wide takes =
    opened gate at log (record_bytes edit ++ next ∷ rest) edit takes.version next rest wide (record_written edit (next ∷ rest) (takes_fits log edit takes)) takes.made

-- Leading on over one record more.
pub leads_further : (at : ℕ) (before : Log) (front : List ℕ) (log : Log) (gate : ℕ) (edit : Edit) → LeadsTo at before front log → gate ≢ 0 → Takes log edit
    → LeadsTo at before (front ++ gate ∷ record_bytes edit) (log ++ edit ∷ [])
leads_further at before front log gate edit leads wide takes next rest =
    ap (λ (l : List ℕ). contents_from at before l) (append_assoc front (gate ∷ record_bytes edit) (next ∷ rest))
    ∙ leads gate (record_bytes edit ++ next ∷ rest)
    ∙ goes_on gate (at + length front) log edit next rest wide takes
    ∙ (let same : at + length front + suc (record_size edit) ≡ at + length (front ++ gate ∷ record_bytes edit) = omega (arith, length-append front (gate ∷ record_bytes edit)) in
    ap (λ (n : ℕ). contents_from n (log ++ edit ∷ []) (next ∷ rest)) same)

-- Written records behind a gate.
pub gates_written : (at : ℕ) (log edits : List Edit) (rest : List ℕ) → TakesAll log edits → contents_from at log (gated_bytes edits ++ rest) ≡ Edits (log ++ edits)
gates_written at log [] rest takes = closed at log rest ∙ ap Edits (sym (append-nil log))
gates_written at log (edit ∷ edits) rest takes =
    let shape = first_gate edits in
    ap (λ (l : List ℕ). contents_from at log (1 ∷ l)) (append_assoc (record_bytes edit) (gated_bytes edits) rest)
    ∙ ap (λ (l : List ℕ). contents_from at log (1 ∷ (record_bytes edit ++ (l ++ rest)))) shape.2
    ∙ goes_on 1 at log edit shape.0 (shape.1 ++ rest) (λ (e : 1 ≡ 0). cc) takes.0
    ∙ ap (λ (l : List ℕ). contents_from (at + suc (record_size edit)) (log ++ edit ∷ []) (l ++ rest)) (sym shape.2)
    ∙ gates_written (at + suc (record_size edit)) (log ++ edit ∷ []) edits rest takes.1
    ∙ ap Edits (append_assoc log (edit ∷ []) edits)
  where
    first_gate : (edits : List Edit) → (gate : ℕ) × (rest : List ℕ) × (gated_bytes edits ≡ gate ∷ rest)
    first_gate [] = (0, [], refl)
    first_gate (edit ∷ edits) = (1, record_bytes edit ++ gated_bytes edits, refl)

pub long_file : (body : List ℕ) → 2 ≤ length body → file_contents (heading ++ body) ≡ contents_from (length heading) [] body
unfolding file_contents
long_file body two =
    let more : nat_le (length (heading ++ body)) 9 ≡ false = grind (arith, nat_tests, length-append heading body, two) in
    ap (λ b. cond b (Edits []) (contents_from (length heading) [] body)) more

pub short_file : (bytes : List ℕ) → length bytes ≤ 9 → file_contents bytes ≡ Edits []
unfolding file_contents
short_file bytes few =
    let is : nat_le (length bytes) 9 ≡ true = grind (arith, nat_tests, few) in
    ap (λ b. cond b (Edits []) (long bytes)) is
  where
    long : List ℕ → Contents
    long bytes = cond (bytes_eq (take (length heading) bytes) heading) (contents_from (length heading) [] (drop (length heading) bytes)) (DamagedAt 0)

pub file_written : (edits : List Edit) (rest : List ℕ) → TakesAll [] edits → file_contents (written_file edits ++ rest) ≡ Edits edits
file_written [] [] takes = short_file (written_file [] ++ []) (omega (arith, length-append heading (0 ∷ [])))
file_written [] (byte ∷ rest) takes = long_file (0 ∷ byte ∷ rest) (omega arith) ∙ gates_written (length heading) [] [] (byte ∷ rest) takes
file_written (edit ∷ edits) rest takes =
    ap file_contents (append_assoc heading (gated_bytes (edit ∷ edits)) rest)
    ∙ long_file (gated_bytes (edit ∷ edits) ++ rest) (two edit edits)
    ∙ gates_written (length heading) [] (edit ∷ edits) rest takes
  where
    two : (edit : Edit) (edits : List Edit) → 2 ≤ length (gated_bytes (edit ∷ edits) ++ rest)
    two edit edits = omega (arith, length-append (gated_bytes (edit ∷ edits)) rest, length-append (record_bytes edit) (gated_bytes edits), some_size edit)
