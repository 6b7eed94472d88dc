-- The names of dependencies, one part of a text after another.
use Rattle.std.specs.Prelude.{IfOk, IfErr, Result, Ok, Err, flat_map}
use Rattle.std.proofs.Common.{◌≡◌, ℕ, Bool, true, false, List, [], ◌∷◌, ◌++◌, Option, None, append_assoc, refl, sym, ap, ap₂, subst, ◌∙◌}
use Rattle.std.proofs.lemmas.List.{map-append, flat_map_more}
use Rattle.std.proofs.lemmas.List.Concat.{flat_map-cons}
use Rattle.text_meaning.specs.Trees.{Assign, IncludeAssign, StructAssign, ConstAssign, Module, Written}
use Rattle.text_meaning.specs.Labels.{label_in}
use Rattle.text_meaning.specs.Dependencies.{Dependency, assign_dependencies, at_written, is_own_word, module_dependencies, unless_own, word_dependencies}
use Rattle.text_meaning.specs.Reading.{Answer, ModuleText, ModuleTree, Read, Reads}
use Rattle.text_meaning.specs.TextAnswers.{read}
use Rattle.text_meaning.specs.Parsing.{InStruct, InView, Owner, close_owner, is_refused}
use Rattle.reading_laws.proofs.OneAnswer.{one_reading}
use Rattle.twelf_expressions.specs.Outlines.{Passes}
use Rattle.twelf_expressions.specs.declared.fault.ReadFault.{ReadFault}
use Rattle.twelf_expressions.proofs.Moves.{failed}
use Rattle.twelf_reader.specs.Answers.{IsFaultOf}
use Rattle.twelf_reader.specs.Dependencies.{Adds, module_read, names_in}
use Rattle.twelf_reader.proofs.Readings.{fails_reads}

pub owner_goes : (o : Owner) (xs : List Assign) → is_refused (close_owner o xs) ≡ false
owner_goes (InStruct x ds y z) xs = refl
owner_goes (InView x y z) xs = refl

-- ---- names

-- those of some items and one more
pub one_more : {T : Type 0} (a : Answer) (next after : List T → Answer) (of : T → List Dependency) (old mid new : List (List ℕ)) (h : Adds a next (flat_map of) old mid) (x : T) → next h.item ≡ after (h.item ++ (x ∷ [])) → new ≡ mid ++ names_in (of x) → Adds a after (flat_map of) old new
one_more a next after of old mid new h x e g =
    record {
      item = h.item ++ (x ∷ []);
      goes = h.goes ∙ e;
      names = g ∙ ap (λ z. z ++ names_in (of x)) h.names ∙ append_assoc old (names_in (flat_map of h.item)) (names_in (of x))
          ∙ ap (λ z. old ++ z) (sym (map-append (λ (d : Dependency). d.name) (flat_map of h.item) (of x)) ∙ ap names_in (flat_map_more of [] h.item x));
    }

-- those of one item and then of others
pub one_before : {T : Type 0} (of : T → List Dependency) (old mid new : List (List ℕ)) (x : T) (xs : List T) → mid ≡ old ++ names_in (of x) → new ≡ mid ++ names_in (flat_map of xs) → new ≡ old ++ names_in (flat_map of (x ∷ xs))
one_before of old mid new x xs h g =
    g ∙ ap (λ z. z ++ names_in (flat_map of xs)) h ∙ append_assoc old (names_in (of x)) (names_in (flat_map of xs))
    ∙ ap (λ z. old ++ z) (sym (map-append (λ (d : Dependency). d.name) (of x) (flat_map of xs)) ∙ ap names_in (sym (flat_map-cons of x xs)))

-- one name and then others
pub name_before : (old mid new : List (List ℕ)) (n : List ℕ) (ns ms : List (List ℕ)) → mid ≡ old ++ (n ∷ []) → new ≡ mid ++ ns → ns ≡ ms → new ≡ old ++ (n ∷ ms)
name_before old mid new n ns ms h g e = g ∙ ap (λ z. z ++ ns) h ∙ append_assoc old (n ∷ []) ns ∙ ap (λ z. old ++ (n ∷ z)) e

-- ---- labels do not count

pub same_names : {T : Type 0} (f g : T → List Dependency) → ((x : T) → names_in (f x) ≡ names_in (g x)) → (xs : List T) → names_in (flat_map f xs) ≡ names_in (flat_map g xs)
same_names f g h [] = refl
same_names f g h (x ∷ xs) =
    ap names_in (flat_map-cons f x xs) ∙ map-append (λ (d : Dependency). d.name) (f x) (flat_map f xs) ∙ ap₂ (λ a b. a ++ b) (h x) (same_names f g h xs)
    ∙ sym (map-append (λ (d : Dependency). d.name) (g x) (flat_map g xs)) ∙ ap names_in (sym (flat_map-cons g x xs))

same_unless : (b : Bool) (l m : List (List ℕ)) (w : Written) → names_in (unless_own b (at_written l w)) ≡ names_in (unless_own b (at_written m w))
same_unless true l m w = refl
same_unless false l m w = refl

pub same_words : (own : Option (List ℕ)) (l m : List (List ℕ)) (ws : List Written) → names_in (flat_map (word_dependencies own l) ws) ≡ names_in (flat_map (word_dependencies own m) ws)
same_words own l m ws = same_names (word_dependencies own l) (word_dependencies own m) (λ w. same_unless (is_own_word own w.path) l m w) ws

same_assign : (own s : Option (List ℕ)) (l : List (List ℕ)) (x : Assign) → names_in (assign_dependencies own None [] x) ≡ names_in (assign_dependencies own s l x)
same_assign own s l (IncludeAssign ws) = same_words own [] l ws
same_assign own s l (StructAssign target ws) = same_words own (label_in None target.path) (label_in s target.path) ws
same_assign own s l (ConstAssign target value) = refl

pub same_assigns : (own s : Option (List ℕ)) (l : List (List ℕ)) (xs : List Assign) → names_in (flat_map (assign_dependencies own None []) xs) ≡ names_in (flat_map (assign_dependencies own s l) xs)
same_assigns own s l xs = same_names (assign_dependencies own None []) (assign_dependencies own s l) (same_assign own s l) xs

-- ---- what a part of a reader promises

pub passes_from : {X : Type 0} {a b : Answer} (r : Result X ReadFault) (holds also : X → Type 0) → a ≡ b → ((x : X) → holds x → also x) → Passes b r holds → Passes a r also
passes_from (Ok x) holds also e f h = f x h
passes_from (Err g) holds also e f h = failed g e h

-- the same item, where the answer before it is another
pub adds_from : {T : Type 0} {a b : Answer} (next : T → Answer) (of : T → List Dependency) (old new : List (List ℕ)) → a ≡ b → Adds b next of old new → Adds a next of old new
adds_from next of old new e h = record { item = h.item; goes = e ∙ h.goes; names = h.names }

-- ---- the clauses of the call

abbrev pub IsOfRead : List ℕ → Result (List (List ℕ)) ReadFault → Type 0
IsOfRead text r = Passes (read ModuleText text) r (λ names. Adds (read ModuleText text) module_read module_dependencies [] names)

pub ok_depends : (text : List ℕ) (r : Result (List (List ℕ)) ReadFault) → IsOfRead text r → IfOk r (λ names. (tree : Module) × Reads ModuleText text (Read (ModuleTree tree)) × (names ≡ names_in (module_dependencies tree)))
ok_depends text (Ok names) h = (h.item, subst (Reads ModuleText text) h.goes (one_reading ModuleText text).is_read, h.names)
ok_depends text (Err e) h = tt

pub fault_depends : (text : List ℕ) (r : Result (List (List ℕ)) ReadFault) → IsOfRead text r → IfErr r (λ e. IsFaultOf ModuleText text e)
fault_depends text (Ok names) h = tt
fault_depends text (Err e) h = fails_reads ModuleText text e h

pub only_depends : (text : List ℕ) (r : Result (List (List ℕ)) ReadFault) → IsOfRead text r → (answer : Answer) → Reads ModuleText text answer
    → Passes answer r (λ names. (tree : Module) × (answer ≡ Read (ModuleTree tree)) × (names ≡ names_in (module_dependencies tree)))
only_depends text (Ok names) h answer g = (h.item, (one_reading ModuleText text).only answer g ∙ h.goes, h.names)
only_depends text (Err e) h answer g = failed e ((one_reading ModuleText text).only answer g) h
