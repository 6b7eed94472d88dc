-- A file read from gate to gate.
use Rattle.std.proofs.Common.{◌≡◌, ◌≢◌, ℕ, suc, ◌+◌, ◌-◌, ◌^◌, ◌<◌, Bool, true, false, List, [], ◌∷◌, ◌++◌, length, get_or, take, drop, Some, None, refl, sym, ap, ◌∙◌, subst, arith, nat_eq, length-append, take-append-drop, append_assoc}
use Rattle.std.proofs.lemmas.List.{drop_at, get_or_at}
use Rattle.std.proofs.lemmas.Bool.Decides.{Decides-eqb}
use Rattle.std.proofs.lemmas.Slice.Eq.{starts_is}
use Rattle.std.specs.Cmp.Lexicographic.{pointwise}
use Rattle.edit_log_meaning.specs.Log.{Edit, Log, version_of}
use Rattle.edit_log_meaning.specs.Append.{Edited, Made, append_answer, appended, log_after}
use Rattle.saved_log_meaning.specs.Records.{Read, record_of, record_size}
use Rattle.saved_log_meaning.specs.SavedFiles.{DamagedAt, contents_from, heading, file_contents}
use Rattle.saved_log_laws.specs.SavedFileLaws.{LeadsTo, IsWrong, NoRecord, NoGate, NotMade}
use Rattle.saved_log_laws.proofs.Fronts.{record_front, shorter}
use Rattle.saved_log_laws.proofs.Gates.{opened}
use Rattle.saved_log_laws.proofs.Damage.{gate_damage}
use Rattle.saved_log_laws.proofs.LastGates.{other_heading}
use Rattle.saved_log.specs.Standing.{EndsAt, IsNear, IsTaken, Reached}

-- The steps of one record.
empty_list : (bytes : List ℕ) → length bytes ≡ 0 → bytes ≡ []
empty_list [] none = refl
empty_list (byte ∷ bytes) none = absurd (omega (arith, none))

-- A list that is not empty.
record Filled (bytes : List ℕ) : Type 0 where
  pub first : ℕ
  pub rest : List ℕ
  pub is_split : bytes ≡ first ∷ rest

filled : (bytes : List ℕ) → 0 < length bytes → Filled bytes
filled [] some = absurd (omega (arith, some))
filled (byte ∷ bytes) some = record { first = byte; rest = bytes; is_split = refl }

pub no_record : (log : Log) (bytes : List ℕ) → None ≡ record_of bytes → IsWrong log bytes
no_record log bytes e = NoRecord (sym e)

pub no_gate : (log : Log) (bytes : List ℕ) (r : Read Edit) → Some r ≡ record_of bytes → length r.rest ≡ 0 → IsWrong log bytes
no_gate log bytes r e none = NoGate r.value (sym e ∙ ap (λ (rest : List ℕ). Some (record { value = r.value; rest = rest })) (empty_list r.rest none))

pub not_made : (log : Log) (bytes : List ℕ) (r : Read Edit) (edit : Edit) (answer : Edited) → Some r ≡ record_of bytes → edit ≡ r.value → append_answer log edit ≡ answer → ((version : ℕ) → answer ≢ Made version) → IsWrong log bytes
not_made log bytes r edit answer e same is not = NotMade r (sym e) (λ version made. not version (sym is ∙ ap (λ (edit : Edit). append_answer log edit) same ∙ made))

made_log : (log : Log) (edit : Edit) (version : ℕ) → append_answer log edit ≡ Made version → appended log edit ≡ log ++ edit ∷ []
unfolding appended
made_log log edit version made = ap (λ (answer : Edited). log_after log edit answer) made

pub less : (bytes : List ℕ) (r : Read Edit) → Some r ≡ record_of bytes → length r.rest < length bytes
less bytes r e = shorter bytes r (sym e)

pub taken : (bytes : List ℕ) (r : Read Edit) (edit : Edit) (old new : Log) (version : ℕ) → Some r ≡ record_of bytes → 0 < length r.rest → edit ≡ r.value → append_answer old edit ≡ Made version → new ≡ appended old edit
    → record_size r.value < 2 ^ 34 → IsTaken bytes old new (length bytes - length r.rest)
taken bytes r edit old new version e some same made is near =
    let parts = filled r.rest some in
    let made_value = ap (λ (edit : Edit). append_answer old edit) (sym same) ∙ made in
    let front = record_front bytes r (sym e) in
    let size : length bytes - length r.rest ≡ record_size r.value = omega (arith, ap length front.split, length-append front.front r.rest, front.long) in
    record {
      edit = r.value;
      gate = parts.first;
      rest = parts.rest;
      version = version;
      read = sym e ∙ ap (λ (rest : List ℕ). Some (record { value = r.value; rest = rest })) parts.is_split;
      made = made_value;
      is_log = is ∙ ap (λ (edit : Edit). appended old edit) same ∙ made_log old r.value version made_value;
      is_size = size;
      is_near = subst (λ (n : ℕ). n < 2 ^ 34) (sym size) near;
    }

-- From gate to gate.
leads_on : (before : Log) (at : ℕ) (front f : List ℕ) (log : Log) (gate : ℕ) (edit : Edit) (version : ℕ) → LeadsTo at before front log → gate ≢ 0 → length f ≡ record_size edit
    → ((rest : List ℕ) → record_of (f ++ rest) ≡ Some (record { value = edit; rest = rest })) → append_answer log edit ≡ Made version → LeadsTo at before (front ++ gate ∷ f) (log ++ edit ∷ [])
leads_on before at front f log gate edit version leads wide long again made next rest =
    let same : at + length front + suc (record_size edit) ≡ at + length (front ++ gate ∷ f) = omega (arith, length-append front (gate ∷ f), long) in
    ap (λ (l : List ℕ). contents_from at before l) (append_assoc front (gate ∷ f) (next ∷ rest))
    ∙ leads gate (f ++ next ∷ rest)
    ∙ opened gate (at + length front) log (f ++ next ∷ rest) edit version next rest wide (again (next ∷ rest)) made
    ∙ ap (λ (n : ℕ). contents_from n (log ++ edit ∷ []) (next ∷ rest)) same

front_of : (file : List ℕ) (log : Log) (gate : ℕ) (reached : Reached file log gate) → file ≡ (heading ++ reached.front) ++ reached.byte ∷ reached.behind
front_of file log gate reached = reached.is_split ∙ sym (append_assoc heading reached.front (reached.byte ∷ reached.behind))

front_size : (file : List ℕ) (log : Log) (gate : ℕ) (reached : Reached file log gate) → length (heading ++ reached.front) ≡ gate
front_size file log gate reached = length-append heading reached.front ∙ sym reached.is_place

pub byte_at : (file : List ℕ) (log : Log) (gate : ℕ) (reached : Reached file log gate) → get_or file gate 0 ≡ reached.byte
byte_at file log gate reached =
    ap (λ (l : List ℕ). get_or l gate 0) (front_of file log gate reached) ∙ get_or_at (heading ++ reached.front) reached.byte reached.behind 0 gate (front_size file log gate reached)

pub behind_gate : (file : List ℕ) (log : Log) (gate : ℕ) (reached : Reached file log gate) → drop (gate + 1) file ≡ reached.behind
behind_gate file log gate reached =
    let split : file ≡ ((heading ++ reached.front) ++ reached.byte ∷ []) ++ reached.behind = front_of file log gate reached ∙ sym (append_assoc (heading ++ reached.front) (reached.byte ∷ []) reached.behind) in
    let size : length ((heading ++ reached.front) ++ reached.byte ∷ []) ≡ gate + 1 = length-append (heading ++ reached.front) (reached.byte ∷ []) ∙ ap (λ (n : ℕ). n + 1) (front_size file log gate reached) in
    ap (λ (l : List ℕ). drop (gate + 1) l) split ∙ drop_at ((heading ++ reached.front) ++ reached.byte ∷ []) reached.behind (gate + 1) size

pub inside : (file : List ℕ) (log : Log) (gate : ℕ) → Reached file log gate → gate < length file
inside file log gate reached = omega (arith, ap length (front_of file log gate reached), length-append (heading ++ reached.front) (reached.byte ∷ reached.behind), front_size file log gate reached)

pub reached_first : (file : List ℕ) → 9 < length file → file ≡ heading ++ drop (length heading) file → Reached file [] 8
reached_first file long is =
    let size : length file ≡ 8 + length (drop (length heading) file) = ap length is ∙ length-append heading (drop (length heading) file) in
    let parts = filled (drop (length heading) file) (omega (arith, long, size)) in
    record {
      front = [];
      byte = parts.first;
      behind = parts.rest;
      is_split = is ∙ ap (λ (l : List ℕ). heading ++ l) parts.is_split;
      is_place = refl;
      leads = λ gate rest. refl;
    }

pub reached_next : (file : List ℕ) (old new : Log) (gate size : ℕ) → Reached file old gate → get_or file gate 0 ≢ 0 → IsTaken (drop (gate + 1) file) old new size → Reached file new (gate + (1 + size))
reached_next file old new gate size reached wide is =
    let behind = behind_gate file old gate reached in
    let read = ap record_of (sym behind) ∙ is.read in
    let front = record_front reached.behind (record { value = is.edit; rest = is.gate ∷ is.rest }) read in
    let byte_wide : reached.byte ≢ 0 = λ e. wide (byte_at file old gate reached ∙ e) in
    let more = reached.front ++ reached.byte ∷ front.front in
    let place : gate + (1 + size) ≡ length heading + length more = omega (arith, reached.is_place, length-append reached.front (reached.byte ∷ front.front), front.long, is.is_size) in
    record {
      front = more;
      byte = is.gate;
      behind = is.rest;
      is_split = reached.is_split ∙ ap (λ (l : List ℕ). heading ++ (reached.front ++ reached.byte ∷ l)) front.split ∙ ap (λ (l : List ℕ). heading ++ l) (sym (append_assoc reached.front (reached.byte ∷ front.front) (is.gate ∷ is.rest)));
      is_place = place;
      leads = subst (λ (log : Log). LeadsTo (length heading) [] more log) (sym is.is_log) (leads_on [] (length heading) reached.front front.front old reached.byte is.edit is.version reached.leads byte_wide front.long front.again is.made);
    }

pub near_next : (gate size : ℕ) (bytes : List ℕ) (old new : Log) → IsNear gate (version_of old) → IsTaken bytes old new size → IsNear (gate + (1 + size)) (version_of new)
near_next gate size bytes old new near is = omega (arith, near, is.is_near, ap length is.is_log, length-append old (is.edit ∷ []))

pub reached_end : (file : List ℕ) (log : Log) (gate : ℕ) → Reached file log gate → get_or file gate 0 ≡ 0 → EndsAt log gate file
reached_end file log gate reached shut = record {
  last = record {
    front = reached.front;
    behind = reached.behind;
    is_split = reached.is_split ∙ ap (λ (byte : ℕ). heading ++ (reached.front ++ byte ∷ reached.behind)) (sym (byte_at file log gate reached) ∙ shut);
    leads = reached.leads;
  };
  is_place = reached.is_place;
}

pub reached_wrong : (file : List ℕ) (log : Log) (gate : ℕ) → 9 < length file → Reached file log gate → get_or file gate 0 ≢ 0 → IsWrong log (drop (gate + 1) file) → file_contents file ≡ DamagedAt gate
reached_wrong file log gate long reached wide is = gate_damage file gate long (record {
  front = reached.front;
  gate = reached.byte;
  behind = reached.behind;
  log = log;
  is_split = reached.is_split;
  is_place = reached.is_place;
  is_open = λ e. wide (byte_at file log gate reached ∙ e);
  leads = reached.leads;
  is_wrong = subst (λ (l : List ℕ). IsWrong log l) (behind_gate file log gate reached) is;
})

-- The heading.
pub starts : (file : List ℕ) (answer : Bool) → answer ≡ pointwise nat_eq heading (take (length heading) file) → answer ≡ true → file ≡ heading ++ drop (length heading) file
starts file answer e is = (starts_is Decides-eqb file heading answer e).0 is

pub starts_other : (file : List ℕ) (answer : Bool) → answer ≡ pointwise nat_eq heading (take (length heading) file) → answer ≡ false → 9 < length file → file_contents file ≡ DamagedAt 0
starts_other file answer e is long = other_heading file long (λ same.
    let whole : file ≡ heading ++ drop (length heading) file = sym (take-append-drop (length heading) file) ∙ ap (λ (l : List ℕ). l ++ drop (length heading) file) same in
    differ (sym ((starts_is Decides-eqb file heading answer e).1 (drop (length heading) file) whole) ∙ is))
  where
    differ : true ≡ false → ⊥
    differ e = cc
