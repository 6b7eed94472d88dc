-- Where reading a file stops: at a closed gate, or at an open one with something wrong behind it.
use Rattle.std.proofs.Common.{◌≡◌, ◌≢◌, ◌⊎◌, ℕ, zero, suc, ◌+◌, ◌<◌, ◌≤◌, Bool, true, false, List, [], ◌∷◌, ◌++◌, length, take, drop, nat_le, inl, inr, refl, sym, ap, ◌∙◌, subst, arith, length-append, take-append-drop, append_assoc, cond, ◌==◌, Option, Some, None}
use Rattle.std.proofs.lemmas.Bool.{cases_eq}
use Rattle.std.proofs.lemmas.Bool.Decides.{nat_tests}
use Rattle.std.proofs.lemmas.Slice.Eq.{bytes_eq-Decides}
use Rattle.std.specs.Str.{bytes_eq}
use Rattle.edit_log_meaning.specs.Log.{Edit, Log}
use Rattle.edit_log_meaning.specs.Append.{Edited, Made, append_answer}
use Rattle.saved_log_meaning.specs.Records.{Read, record_of, record_bytes, record_size}
use Rattle.saved_log_meaning.specs.SavedFiles.{Edits, DamagedAt, behind_edit, behind_record, behind_gate, contents_within, contents_from, heading, file_contents}
use Rattle.saved_log_meaning.specs.Disks.{Only}
use Rattle.saved_log_meaning.specs.Appends.{Ready}
use Rattle.saved_log_laws.specs.SavedFileLaws.{Takes, LeadsTo, LastGate, IsWrong, NoRecord, NoGate, NotMade}
use Rattle.saved_log_laws.proofs.Fronts.{record_front, shorter}
use Rattle.saved_log_laws.proofs.Gates.{closed, opened, goes_on, leads_further, long_file, short_file}

-- A gate to which the bytes lead, and which leads no further.
pub record Stop (at : ℕ) (before : Log) (bytes : List ℕ) : Type 0 where
  pub front : List ℕ
  pub gate : ℕ
  pub behind : List ℕ
  pub log : Log
  pub is_split : bytes ≡ front ++ gate ∷ behind
  pub leads : LeadsTo at before front log
  pub ends : (gate ≡ 0) ⊎ ((gate ≢ 0) × IsWrong log behind)

stop_here : (at : ℕ) (before : Log) (gate : ℕ) (bytes : List ℕ) → (gate ≡ 0) ⊎ ((gate ≢ 0) × IsWrong before bytes) → Stop at before (gate ∷ bytes)
stop_here at before gate bytes ends = record {
  front = [];
  gate = gate;
  behind = bytes;
  log = before;
  is_split = refl;
  leads = λ g l. (let same : at ≡ at + 0 = omega arith in ap (λ (n : ℕ). contents_from n before (g ∷ l)) same);
  ends = ends;
}

-- One record more in front.
stop_later : (at : ℕ) (before : Log) (gate : ℕ) (bytes : List ℕ) (edit : Edit) (version next : ℕ) (rest : List ℕ) → gate ≢ 0 → record_of bytes ≡ Some (record { value = edit; rest = next ∷ rest }) → append_answer before edit ≡ Made version
    → Stop (at + suc (record_size edit)) (before ++ edit ∷ []) (next ∷ rest) → Stop at before (gate ∷ bytes)
stop_later at before gate bytes edit version next rest wide e made stop =
    let front = record_front bytes (record { value = edit; rest = next ∷ rest }) e in
    record {
      front = gate ∷ (front.front ++ stop.front);
      gate = stop.gate;
      behind = stop.behind;
      log = stop.log;
      is_split = ap (λ (l : List ℕ). gate ∷ l) (front.split ∙ ap (λ (l : List ℕ). front.front ++ l) stop.is_split ∙ sym (append_assoc front.front stop.front (stop.gate ∷ stop.behind)));
      leads = λ g l. leads stop.log front.front stop.front front.long front.again stop.leads g l;
      ends = stop.ends;
    }
  where
    leads : (log : Log) (f p : List ℕ) → length f ≡ record_size edit → ((l : List ℕ) → record_of (f ++ l) ≡ Some (record { value = edit; rest = l }))
        → LeadsTo (at + suc (record_size edit)) (before ++ edit ∷ []) p log → (g : ℕ) (l : List ℕ) → contents_from at before (gate ∷ ((f ++ p) ++ g ∷ l)) ≡ contents_from (at + length (gate ∷ (f ++ p))) log (g ∷ l)
    leads log f [] long again go g l =
        ap (λ (k : List ℕ). contents_from at before (gate ∷ k)) (append_assoc f [] (g ∷ l))
        ∙ opened gate at before (f ++ g ∷ l) edit version g l wide (again (g ∷ l)) made
        ∙ go g l
        ∙ (let same : at + suc (record_size edit) + 0 ≡ at + length (gate ∷ (f ++ [])) = omega (arith, long, length-append f []) in ap (λ (n : ℕ). contents_from n log (g ∷ l)) same)
    leads log f (x ∷ p) long again go g l =
        ap (λ (k : List ℕ). contents_from at before (gate ∷ k)) (append_assoc f (x ∷ p) (g ∷ l))
        ∙ opened gate at before (f ++ x ∷ (p ++ g ∷ l)) edit version x (p ++ g ∷ l) wide (again (x ∷ (p ++ g ∷ l))) made
        ∙ go g l
        ∙ (let same : at + suc (record_size edit) + length (x ∷ p) ≡ at + length (gate ∷ (f ++ x ∷ p)) = omega (arith, long, length-append f (x ∷ p)) in ap (λ (n : ℕ). contents_from n log (g ∷ l)) same)

no_same : (w v : ℕ) → Edited.Same w ≡ Made v → ⊥
no_same w v e = cc

no_absent : (w v : ℕ) → Edited.Absent w ≡ Made v → ⊥
no_absent w v e = cc

no_full : (v : ℕ) → Edited.Full ≡ Made v → ⊥
no_full v e = cc

no_long : (v : ℕ) → Edited.TooLong ≡ Made v → ⊥
no_long v e = cc

no_many : (v : ℕ) → Edited.TooMany ≡ Made v → ⊥
no_many v e = cc

true_not_false : true ≡ false → ⊥
true_not_false e = cc

-- One gate, where reading stops behind each record that is shorter.
module _ (at : ℕ) (before : Log) (gate : ℕ) (bytes : List ℕ) (further : (to : ℕ) (log : Log) (next : ℕ) (rest : List ℕ) → length (next ∷ rest) < length bytes → Stop to log (next ∷ rest)) where
  not_made : gate ≢ 0 → (r : Read Edit) → record_of bytes ≡ Some r → ((version : ℕ) → append_answer before r.value ≢ Made version) → Stop at before (gate ∷ bytes)
  not_made wide r is not = stop_here at before gate bytes (inr (wide, NotMade r is not))

  by_answer : gate ≢ 0 → (edit : Edit) (next : ℕ) (rest : List ℕ) → record_of bytes ≡ Some (record { value = edit; rest = next ∷ rest }) → (answer : Edited) → append_answer before edit ≡ answer → Stop at before (gate ∷ bytes)
  by_answer wide edit next rest is (Edited.Made version) made =
      stop_later at before gate bytes edit version next rest wide is made (further (at + suc (record_size edit)) (before ++ edit ∷ []) next rest (shorter bytes (record { value = edit; rest = next ∷ rest }) is))
  by_answer wide edit next rest is (Edited.Same version) made = not_made wide (record { value = edit; rest = next ∷ rest }) is (λ v e. no_same version v (sym made ∙ e))
  by_answer wide edit next rest is (Edited.Absent version) made = not_made wide (record { value = edit; rest = next ∷ rest }) is (λ v e. no_absent version v (sym made ∙ e))
  by_answer wide edit next rest is Edited.Full made = not_made wide (record { value = edit; rest = next ∷ rest }) is (λ v e. no_full v (sym made ∙ e))
  by_answer wide edit next rest is Edited.TooLong made = not_made wide (record { value = edit; rest = next ∷ rest }) is (λ v e. no_long v (sym made ∙ e))
  by_answer wide edit next rest is Edited.TooMany made = not_made wide (record { value = edit; rest = next ∷ rest }) is (λ v e. no_many v (sym made ∙ e))

  by_rest : gate ≢ 0 → (edit : Edit) (rest : List ℕ) → record_of bytes ≡ Some (record { value = edit; rest = rest }) → Stop at before (gate ∷ bytes)
  by_rest wide edit [] is = stop_here at before gate bytes (inr (wide, NoGate edit is))
  by_rest wide edit (next ∷ rest) is = by_answer wide edit next rest is (append_answer before edit) refl

  by_record : gate ≢ 0 → (o : Option (Read Edit)) → record_of bytes ≡ o → Stop at before (gate ∷ bytes)
  by_record wide None is = stop_here at before gate bytes (inr (wide, NoRecord is))
  by_record wide (Some r) is = by_rest wide r.value r.rest is

  stop_at : (gate ≡ 0) ⊎ (gate ≢ 0) → Stop at before (gate ∷ bytes)
  stop_at (inl is) = stop_here at before gate bytes (inl is)
  stop_at (inr wide) = by_record wide (record_of bytes) refl

-- Reading stops somewhere, where there is a gate at all.
pub stops : (n at : ℕ) (before : Log) (gate : ℕ) (bytes : List ℕ) → length bytes < n → Stop at before (gate ∷ bytes)
stops zero at before gate bytes h = absurd (omega (arith, h))
stops (suc n) at before gate bytes h = stop_at at before gate bytes (λ to log next rest fewer. stops n to log next rest (omega (arith, h, fewer))) (cases_eq gate 0)

-- An open gate with something wrong behind it is damage.
pub wrong : (at : ℕ) (log : Log) (gate : ℕ) (bytes : List ℕ) → gate ≢ 0 → IsWrong log bytes → contents_from at log (gate ∷ bytes) ≡ DamagedAt at
unfolding contents_within
wrong at log gate bytes wide is =
    let is_open : (gate == 0) ≡ false = grind (arith, nat_tests) in
    ap (λ b. cond b (Edits log) (behind_gate (contents_within (length bytes)) at log (record_of bytes))) is_open ∙ by_cause is
  where
    by_answer : (edit : Edit) (rest : List ℕ) (answer : Edited) → ((version : ℕ) → answer ≢ Made version) → behind_edit (contents_within (length bytes)) at log edit rest answer ≡ DamagedAt at
    by_answer edit rest (Edited.Made version) not = absurd (not version refl)
    by_answer edit rest (Edited.Same version) not = refl
    by_answer edit rest (Edited.Absent version) not = refl
    by_answer edit rest Edited.Full not = refl
    by_answer edit rest Edited.TooLong not = refl
    by_answer edit rest Edited.TooMany not = refl

    by_rest : (edit : Edit) (rest : List ℕ) → ((version : ℕ) → append_answer log edit ≢ Made version) → behind_record (contents_within (length bytes)) at log edit rest ≡ DamagedAt at
    by_rest edit [] not = refl
    by_rest edit (next ∷ rest) not = by_answer edit (next ∷ rest) (append_answer log edit) not

    by_cause : IsWrong log bytes → behind_gate (contents_within (length bytes)) at log (record_of bytes) ≡ DamagedAt at
    by_cause (NoRecord is) = ap (λ (o : Option (Read Edit)). behind_gate (contents_within (length bytes)) at log o) is
    by_cause (NoGate edit is) = ap (λ (o : Option (Read Edit)). behind_gate (contents_within (length bytes)) at log o) is
    by_cause (NotMade first is not) = ap (λ (o : Option (Read Edit)). behind_gate (contents_within (length bytes)) at log o) is ∙ by_rest first.value first.rest not

-- A file that is longer than its heading and a gate.
pub data Long (file : List ℕ) : Type 0 where
  Headed : (body : List ℕ) → file ≡ heading ++ body → 2 ≤ length body → file_contents file ≡ contents_from (length heading) [] body → Long file
  Unheaded : take (length heading) file ≢ heading → file_contents file ≡ DamagedAt 0 → Long file

pub other_heading : (file : List ℕ) → 9 < length file → take (length heading) file ≢ heading → file_contents file ≡ DamagedAt 0
unfolding file_contents
other_heading file long not =
    let more : nat_le (length file) 9 ≡ false = grind (arith, nat_tests, long) in
    ap (λ b. cond b (Edits []) (cond (bytes_eq (take (length heading) file) heading) (contents_from (length heading) [] (drop (length heading) file)) (DamagedAt 0))) more
    ∙ ap (λ b. cond b (contents_from (length heading) [] (drop (length heading) file)) (DamagedAt 0)) (no (bytes_eq (take (length heading) file) heading) refl)
  where
    no : (b : Bool) → bytes_eq (take (length heading) file) heading ≡ b → b ≡ false
    no true e = absurd (not ((bytes_eq-Decides (take (length heading) file) heading).0 e))
    no false e = refl

pub long_of : (file : List ℕ) → 9 < length file → Long file
long_of file long = either (bytes_eq (take (length heading) file) heading) refl
  where
    either : (b : Bool) → bytes_eq (take (length heading) file) heading ≡ b → Long file
    either true e =
        let head : take (length heading) file ≡ heading = (bytes_eq-Decides (take (length heading) file) heading).0 e in
        let body = drop (length heading) file in
        let whole : file ≡ heading ++ body = sym (take-append-drop (length heading) file) ∙ ap (λ (l : List ℕ). l ++ body) head in
        let two : 2 ≤ length body = omega (arith, long, ap length whole, length-append heading body) in
        Headed body whole two (ap file_contents whole ∙ long_file body two)
    either false e =
        let not : take (length heading) file ≢ heading = λ is. true_not_false (sym ((bytes_eq-Decides (take (length heading) file) heading).1 is) ∙ e) in
        Unheaded not (other_heading file long not)

pub not_edits : (at : ℕ) (log : Log) → DamagedAt at ≡ Edits log → ⊥
not_edits at log e = cc

pub edits_same : {a b : Log} → Edits a ≡ Edits b → a ≡ b
edits_same e = cc

pub places_same : {a b : ℕ} → DamagedAt a ≡ DamagedAt b → a ≡ b
places_same e = cc

-- What the file holds where reading it stops.
pub stop_closed : (at : ℕ) (before : Log) (bytes : List ℕ) (stop : Stop at before bytes) → stop.gate ≡ 0 → contents_from at before bytes ≡ Edits stop.log
stop_closed at before bytes stop is =
    ap (λ (l : List ℕ). contents_from at before l) stop.is_split
    ∙ stop.leads stop.gate stop.behind
    ∙ ap (λ (g : ℕ). contents_from (at + length stop.front) stop.log (g ∷ stop.behind)) is
    ∙ closed (at + length stop.front) stop.log stop.behind

pub stop_open : (at : ℕ) (before : Log) (bytes : List ℕ) (stop : Stop at before bytes) → stop.gate ≢ 0 → IsWrong stop.log stop.behind → contents_from at before bytes ≡ DamagedAt (at + length stop.front)
stop_open at before bytes stop wide is =
    ap (λ (l : List ℕ). contents_from at before l) stop.is_split
    ∙ stop.leads stop.gate stop.behind
    ∙ wrong (at + length stop.front) stop.log stop.gate stop.behind wide is

pub stop_of : (at : ℕ) (before : Log) (bytes : List ℕ) → 1 ≤ length bytes → Stop at before bytes
stop_of at before [] h = absurd (omega (arith, h))
stop_of at before (gate ∷ bytes) h = stops (suc (length bytes)) at before gate bytes (omega arith)

pub has_last_gate : (file : List ℕ) (log : Log) → 9 < length file → file_contents file ≡ Edits log → LastGate file log
has_last_gate file log long e = by_heading (long_of file long)
  where
    by_stop : (body : List ℕ) → file ≡ heading ++ body → contents_from (length heading) [] body ≡ Edits log → (stop : Stop (length heading) [] body) → (stop.gate ≡ 0) ⊎ ((stop.gate ≢ 0) × IsWrong stop.log stop.behind) → LastGate file log
    by_stop body whole is stop (inl shut) = record {
      front = stop.front;
      behind = stop.behind;
      is_split = whole ∙ ap (λ (l : List ℕ). heading ++ l) (stop.is_split ∙ ap (λ (g : ℕ). stop.front ++ g ∷ stop.behind) shut);
      leads = subst (λ (l : Log). LeadsTo (length heading) [] stop.front l) (edits_same (sym (stop_closed (length heading) [] body stop shut) ∙ is)) stop.leads;
    }
    by_stop body whole is stop (inr open_gate) = absurd (not_edits (length heading + length stop.front) log (sym (stop_open (length heading) [] body stop open_gate.0 open_gate.1) ∙ is))

    by_heading : Long file → LastGate file log
    by_heading (Headed body whole two is) = let stop = stop_of (length heading) [] body (omega (arith, two)) in by_stop body whole (sym is ∙ e) stop stop.ends
    by_heading (Unheaded not is) = absurd (not_edits 0 log (sym is ∙ e))

pub new_file : LastGate (heading ++ 0 ∷ []) []
new_file = record {
  front = [];
  behind = [];
  is_split = refl;
  leads = λ g l. refl;
}

pub next_gate : (file : List ℕ) (log : Log) (edit : Edit) (last : LastGate file log) (gate : ℕ) (rest : List ℕ) → gate ≢ 0 → Takes log edit
    → (next : LastGate (heading ++ (last.front ++ gate ∷ (record_bytes edit ++ 0 ∷ rest))) (log ++ edit ∷ [])) × (length next.front ≡ length last.front + suc (record_size edit))
next_gate file log edit last gate rest wide takes = (
  record {
    front = last.front ++ gate ∷ record_bytes edit;
    behind = rest;
    is_split = ap (λ (l : List ℕ). heading ++ l) (sym (append_assoc last.front (gate ∷ record_bytes edit) (0 ∷ rest)));
    leads = leads_further (length heading) [] last.front log gate edit last.leads wide takes;
  },
  length-append last.front (gate ∷ record_bytes edit),
)

read_closed : (front : List ℕ) (log : Log) (rest : List ℕ) → LeadsTo (length heading) [] front log → file_contents (heading ++ (front ++ 0 ∷ rest)) ≡ Edits log
read_closed [] log [] leads = short_file (heading ++ 0 ∷ []) (omega (arith, length-append heading (0 ∷ []))) ∙ sym (closed (length heading) [] []) ∙ leads 0 [] ∙ closed (length heading + 0) log []
read_closed [] log (x ∷ rest) leads = long_file (0 ∷ x ∷ rest) (omega arith) ∙ leads 0 (x ∷ rest) ∙ closed (length heading + 0) log (x ∷ rest)
read_closed (x ∷ front) log rest leads = long_file (x ∷ (front ++ 0 ∷ rest)) (omega (arith, length-append front (0 ∷ rest))) ∙ leads 0 rest ∙ closed (length heading + length (x ∷ front)) log rest

pub last_gate_read : (file : List ℕ) (log : Log) → LastGate file log → file_contents file ≡ Edits log
last_gate_read file log last = ap file_contents last.is_split ∙ read_closed last.front log last.behind last.leads

read_open : (front : List ℕ) (log : Log) (edit : Edit) (gate : ℕ) (rest : List ℕ) → LeadsTo (length heading) [] front log → gate ≢ 0 → Takes log edit
    → file_contents (heading ++ (front ++ gate ∷ (record_bytes edit ++ 0 ∷ rest))) ≡ Edits (log ++ edit ∷ [])
read_open front log edit gate rest leads wide takes =
    long_file (front ++ gate ∷ (record_bytes edit ++ 0 ∷ rest)) (omega (arith, length-append front (gate ∷ (record_bytes edit ++ 0 ∷ rest)), length-append (record_bytes edit) (0 ∷ rest)))
    ∙ leads gate (record_bytes edit ++ 0 ∷ rest)
    ∙ goes_on gate (length heading + length front) log edit 0 rest wide takes
    ∙ closed (length heading + length front + suc (record_size edit)) (log ++ edit ∷ []) rest

pub is_ready : (file : List ℕ) (log : Log) (edit : Edit) (images : List ℕ → Type 0) (last : LastGate file log) → Takes log edit → Only file images
    → Ready file images (length heading + length last.front) (record_bytes edit ++ 0 ∷ []) (Edits log) (Edits (log ++ edit ∷ []))
is_ready file log edit images last takes only = record {
  front = heading ++ last.front;
  behind = last.behind;
  edit_bytes = record_bytes edit;
  is_split = last.is_split ∙ sym (append_assoc heading last.front (0 ∷ last.behind));
  is_durable = only;
  is_place = sym (length-append heading last.front);
  is_piece = refl;
  if_closed = λ rest. ap file_contents (append_assoc heading last.front (0 ∷ rest)) ∙ read_closed last.front log rest last.leads;
  if_open = λ gate rest wide. ap file_contents (append_assoc heading last.front (gate ∷ (record_bytes edit ++ 0 ∷ rest))) ∙ read_open last.front log edit gate rest last.leads wide takes;
}
