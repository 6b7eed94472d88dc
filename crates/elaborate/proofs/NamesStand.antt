-- What names stand for behind binders, and what they begin as.
use Rattle.std.proofs.Common.{◌≡◌, ℕ, zero, suc, ◌+◌, add-one, Bool, true, false, cond, List, [], ◌∷◌, reverse, Option, Some, None, Result, Ok, Err, Bor, refl, sym, ap, ◌∙◌, subst}
use Rattle.std.specs.Prelude.{slice_get}
use Rattle.std.specs.Option.{option_copied, option_map}
use Rattle.std.proofs.lemmas.Option.{slice_get-map}
use Rattle.list_laws.proofs.Lists.{map_reversed}
use Rattle.name_meaning.specs.Names.{Name, Path}
use Rattle.lf_meaning.specs.Terms.{Constant, Object, At, Var, Family, Kind}
use Rattle.lf_meaning.specs.Raising.{raise_family}
use Rattle.lf_meaning.specs.Signatures.{Value, SameAs, TermValue, FamilyValue, Declaration}
use Rattle.translation_meaning.specs.Heads as heads
use Rattle.translation_meaning.specs.Heads.{head_takes_all}
use Rattle.library_meaning.specs.Resolution.{Scope, Variables, Resolved, Variable, Declared, Unknown, Ambiguous, resolve, bound_variable, variable_from, is_variable, own_at, qualified, included_at, the_only, or_variable, or_declared}
use Rattle.text_meaning.specs.Tokens.{Span}
use Rattle.answer_meaning.specs.Answers.{◌>>=◌}
use Rattle.elaborate_meaning.specs.Rules.{Rule}
use Rattle.elaborate_meaning.specs.Answers.{Fault, must}
use Rattle.elaborate_meaning.specs.Locals.{Local, Locals, context_of, family_at, variables_of, with_local}
use Rattle.elaborate_meaning.specs.NameHeads.{Level, Objects, Families, level_of, same_level, object_head, family_head, declared_head, variable_head, resolved_head, name_head}
use Rattle.mmt_syntax.specs.declared.expr.Binder.{Binder}
use Rattle.term_trees.specs.Readings.{read_class, read_constant, read_declaration, read_family, read_kind, read_value}
use Rattle.term_trees.specs.declared.fam.Fam.{Fam}
use Rattle.term_trees.specs.declared.kind.Kind as code_kind
use Rattle.term_trees.specs.declared.class.Class.TheVariants as classes
use Rattle.term_trees.specs.declared.flat_decl.FlatDecl.{FlatDecl}
use Rattle.term_trees.specs.declared.obj.Obj.{Obj}
use Rattle.std.specs.declared.alloc.Global.{Global}
use Rattle.std.specs.declared.vec.Vec.{Vec}
use Rattle.term_trees.specs.Readings as readings
use Rattle.names.specs.Readings.{read_local, read_locals}
use Rattle.elaborate.specs.LentValues.{value_of}
use Rattle.elaborate.specs.Contexts.{is_named_by, levelled, resolved_answer, variables_in, variables_layer}
use Rattle.elaborate.specs.HeadStates.{Classifies, Stands}
use Rattle.elaborate.specs.Answers.{Begins, IsFirstFault}
use Rattle.elaborate.specs.declared.fault.ElabFault.{ElabFault}
use Rattle.elaborate.specs.declared.fault.ElabFault.TheVariants as faults
use Rattle.elaborate.specs.declared.given.GivenVariables.{GivenVariables}
use Rattle.elaborate.specs.declared.context.Variables as code
use Rattle.elaborate.specs.declared.context.Variables.TheOpen as opened
use Rattle.elaborate.specs.declared.context.Variables.TheVariants as variables
use Rattle.elaborate.specs.declared.context.Variables.TheFolds.{fold-roll-Variables}
use Rattle.elaborate.specs.declared.heads.Head.{Head}
use Rattle.elaborate.specs.declared.heads.Classifier.TheVariants as classifiers
use Rattle.elaborate.specs.declared.heads.Start.TheVariants as starts
use Rattle.elaborate.specs.declared.lent.Lent.{Lent}

-- ---- the variables of a context

pub given_variables : (given : GivenVariables) → variables_in (variables.Given given) ≡ read_locals given.vars.now
given_variables given = ap variables_in (sym (variables.rolls-Given given)) ∙ fold-roll-Variables Locals variables_layer (opened.Given given)

pub bound_variables : (name : Option (Bor Name)) (family : Bor Fam) (outer : Bor code.Variables) → variables_in (variables.Bound name family outer) ≡ with_local (option_copied name) (read_family family.now) (variables_in outer.now)
bound_variables name family outer = ap variables_in (sym (variables.rolls-Bound name family outer)) ∙ fold-roll-Variables Locals variables_layer (opened.Bound name family outer)

composed : (o : Option (Binder × Fam)) → option_map (λ (own : Local). own.family) (option_map read_local o) ≡ option_map (λ v. read_family v.1) o
composed None = refl
composed (Some v) = refl

-- The family of a given variable.
pub given_family : (vars : List (Binder × Fam)) (i : ℕ) → slice_get (context_of (read_locals vars)) i ≡ option_map (λ v. read_family v.1) (slice_get (reverse vars) i)
given_family vars i =
    slice_get-map (λ (own : Local). own.family) (read_locals vars) i
    ∙ ap (λ xs. option_map (λ (own : Local). own.family) (slice_get xs i)) (sym (map_reversed read_local vars))
    ∙ ap (option_map (λ (own : Local). own.family)) (slice_get-map read_local (reverse vars) i)
    ∙ composed (slice_get (reverse vars) i)

pub given_family_at : (own : code.Variables) (given : GivenVariables) (i : ℕ) (o : Option (Binder × Fam)) → own ≡ variables.Given given → o ≡ slice_get (reverse given.vars.now) i
    → option_map (λ v. read_family v.1) o ≡ slice_get (context_of (variables_in own)) i
given_family_at own given i o is found =
    ap (option_map (λ v. read_family v.1)) found
    ∙ sym (given_family given.vars.now i)
    ∙ sym (ap (λ ls. slice_get (context_of ls) i) (ap variables_in is ∙ given_variables given))

-- The family of a variable behind a binder.
pub bound_family : (name : Option (Bor Name)) (family : Bor Fam) (outer : Bor code.Variables) (i j : ℕ) → i ≡ suc j
    → slice_get (context_of (variables_in outer.now)) j ≡ slice_get (context_of (variables_in (variables.Bound name family outer))) i
bound_family name family outer i j e =
    sym (ap (λ ls. slice_get (context_of ls) i) (bound_variables name family outer) ∙ ap (slice_get (read_family family.now ∷ context_of (variables_in outer.now))) e)

-- ---- what a path names behind one binder more

shifted : Resolved → Resolved
shifted (Variable i) = Variable (suc i)
shifted (Declared d) = Declared d
shifted Unknown = Unknown
shifted Ambiguous = Ambiguous

shifted_only : (ds : List Declaration) → shifted (the_only ds) ≡ the_only ds
unfolding shifted
shifted_only [] = refl
shifted_only (d ∷ []) = refl
shifted_only (d ∷ e ∷ ds) = refl

shifted_declared : (o : Option Declaration) (r : Resolved) → shifted r ≡ r → shifted (or_declared o r) ≡ or_declared o r
unfolding shifted
shifted_declared None r h = h
shifted_declared (Some d) r h = refl

shifted_variable : (o : Option ℕ) (r : Resolved) → shifted r ≡ r → or_variable (option_map suc o) r ≡ shifted (or_variable o r)
unfolding shifted
shifted_variable None r h = sym h
shifted_variable (Some i) r h = refl

stepped : (b : Bool) (i : ℕ) (o p : Option ℕ) → p ≡ option_map suc o → cond b (Some (suc i)) p ≡ option_map suc (cond b (Some i) o)
stepped true i o p h = refl
stepped false i o p h = h

from_further : (i : ℕ) (vs : Variables) (n : Name) → variable_from (suc i) vs n ≡ option_map suc (variable_from i vs n)
unfolding variable_from
from_further i [] n = refl
from_further i (v ∷ vs) n = stepped (is_variable n v) i (variable_from (suc i) vs n) (variable_from (suc (suc i)) vs n) (from_further (suc i) vs n)

module _ (scope : Scope) where
  others : Path → Resolved
  others path = or_declared (own_at scope.own path) (or_declared (qualified scope path) (the_only (included_at scope path)))

  others_stay : (path : Path) → shifted (others path) ≡ others path
  unfolding others
  others_stay path = shifted_declared (own_at scope.own path) _ (shifted_declared (qualified scope path) _ (shifted_only (included_at scope path)))

  named_first : (name : Option Name) (vs : Variables) (path : Path) → is_named_by name path ≡ true → resolve scope (name ∷ vs) path ≡ Variable zero
  unfolding resolve variable_from
  named_first (Some m) vs (n ∷ []) h = ap (λ b. or_variable (cond b (Some zero) (variable_from 1 vs n)) (or_declared (own_at scope.own (n ∷ [])) (or_declared (qualified scope (n ∷ [])) (the_only (included_at scope (n ∷ [])))))) h
  named_first (Some m) vs [] h = absurd (cc)
  named_first (Some m) vs (n ∷ k ∷ path) h = absurd (cc)
  named_first None vs path h = absurd (cc)

  not_first : (name : Option Name) (vs : Variables) (n : Name) → is_variable n name ≡ false → bound_variable (name ∷ vs) (n ∷ []) ≡ option_map suc (bound_variable vs (n ∷ []))
  unfolding variable_from
  not_first name vs n h = ap (λ b. cond b (Some zero) (variable_from 1 vs n)) h ∙ from_further zero vs n

  unnamed : (name : Option Name) (n : Name) → is_named_by name (n ∷ []) ≡ false → is_variable n name ≡ false
  unnamed None n h = refl
  unnamed (Some m) n h = h

  not_named : (name : Option Name) (vs : Variables) (path : Path) → is_named_by name path ≡ false → resolve scope (name ∷ vs) path ≡ shifted (resolve scope vs path)
  unfolding resolve others
  not_named name vs [] h = sym (others_stay [])
  not_named name vs (n ∷ []) h = ap (λ o. or_variable o (others (n ∷ []))) (not_first name vs n (unnamed name n h)) ∙ shifted_variable (bound_variable vs (n ∷ [])) (others (n ∷ [])) (others_stay (n ∷ []))
  not_named name vs (n ∷ k ∷ path) h = sym (others_stay (n ∷ k ∷ path))

module _ (span : Span) where
  variable_shifted : (r : Resolved) (i : ℕ) → resolved_answer span r ≡ Ok (Variable i) → resolved_answer span (shifted r) ≡ Ok (Variable (suc i))
  unfolding shifted
  variable_shifted (Variable j) i h = let e : j ≡ i = cc in ap (λ k. Ok (Variable (suc k))) e
  variable_shifted (Declared d) i h = absurd (cc)
  variable_shifted Unknown i h = absurd (cc)
  variable_shifted Ambiguous i h = absurd (cc)

  declaration_shifted : (r : Resolved) (d : Declaration) → resolved_answer span r ≡ Ok (Declared d) → resolved_answer span (shifted r) ≡ Ok (Declared d)
  unfolding shifted
  declaration_shifted (Variable j) d h = absurd (cc)
  declaration_shifted (Declared e) d h = h
  declaration_shifted Unknown d h = absurd (cc)
  declaration_shifted Ambiguous d h = absurd (cc)

  error_shifted : (r : Resolved) (f : Fault) → resolved_answer span r ≡ Err f → resolved_answer span (shifted r) ≡ Err f
  unfolding shifted
  error_shifted (Variable j) f h = absurd (cc)
  error_shifted (Declared e) f h = absurd (cc)
  error_shifted Unknown f h = h
  error_shifted Ambiguous f h = h

  fault_shifted : (r : Resolved) (fault : ElabFault) → IsFirstFault fault (resolved_answer span r) → IsFirstFault fault (resolved_answer span (shifted r))
  fault_shifted r (faults.Broken s rule) h = error_shifted r _ h
  fault_shifted r faults.Memory h = tt

-- Behind a binder: its own variable, or what the path names further out.
module _ (own : code.Variables) (name : Option (Bor Name)) (family : Bor Fam) (outer : Bor code.Variables) (is : own ≡ variables.Bound name family outer) (scope : Scope) (path : Path) where
  whole : variables_of (variables_in own) ≡ option_copied name ∷ variables_of (variables_in outer.now)
  whole = ap (λ vs. variables_of (variables_in vs)) is ∙ ap variables_of (bound_variables name family outer)

  pub first_found : (span : Span) → is_named_by (option_copied name) path ≡ true → resolved_answer span (resolve scope (variables_of (variables_in own)) path) ≡ Ok (Variable zero)
  first_found span h = ap (λ vs. resolved_answer span (resolve scope vs path)) whole ∙ ap (resolved_answer span) (named_first scope (option_copied name) (variables_of (variables_in outer.now)) path h)

  module _ (span : Span) (h : is_named_by (option_copied name) path ≡ false) where
    further : resolve scope (variables_of (variables_in own)) path ≡ shifted (resolve scope (variables_of (variables_in outer.now)) path)
    further = ap (λ vs. resolve scope vs path) whole ∙ not_named scope (option_copied name) (variables_of (variables_in outer.now)) path h

    pub variable_found : (i j : ℕ) → j ≡ suc i → resolved_answer span (resolve scope (variables_of (variables_in outer.now)) path) ≡ Ok (Variable i) → resolved_answer span (resolve scope (variables_of (variables_in own)) path) ≡ Ok (Variable j)
    variable_found i j e found = ap (resolved_answer span) further ∙ variable_shifted span (resolve scope (variables_of (variables_in outer.now)) path) i found ∙ ap (λ k. Ok (Variable k)) (sym e)

    pub declaration_found : (d : Declaration) → resolved_answer span (resolve scope (variables_of (variables_in outer.now)) path) ≡ Ok (Declared d) → resolved_answer span (resolve scope (variables_of (variables_in own)) path) ≡ Ok (Declared d)
    declaration_found d found = ap (resolved_answer span) further ∙ declaration_shifted span (resolve scope (variables_of (variables_in outer.now)) path) d found

    pub none_found : (fault : ElabFault) → IsFirstFault fault (resolved_answer span (resolve scope (variables_of (variables_in outer.now)) path)) → IsFirstFault fault (resolved_answer span (resolve scope (variables_of (variables_in own)) path))
    none_found fault first = subst (λ r. IsFirstFault fault (resolved_answer span r)) (sym further) (fault_shifted span (resolve scope (variables_of (variables_in outer.now)) path) fault first)

-- ---- what a name begins as

-- A head that stands, of the wanted level.
pub of_level : (own : Head) (head : heads.Head) (level : Level) (span : Span) → level_of head ≡ level → Stands own head → Begins (Ok own) (must (same_level (level_of head) level) span Rule.Level >>= (λ _. Ok head))
of_level own (heads.ObjectHead o a) level span is stands = subst (λ l. Begins (Ok own) (must (same_level Objects l) span Rule.Level >>= (λ _. Ok (heads.ObjectHead o a)))) is stands
of_level own (heads.FamilyHead n b k) level span is stands = subst (λ l. Begins (Ok own) (must (same_level Families l) span Rule.Level >>= (λ _. Ok (heads.FamilyHead n b k)))) is stands

object_begins : (c : Constant) (a : Family) (v : Option Value) → (o : Object) × (object_head c a v ≡ heads.ObjectHead o a)
object_begins c a None = (_, refl)
object_begins c a (Some (SameAs d)) = (_, refl)
object_begins c a (Some (TermValue o)) = (_, refl)
object_begins c a (Some (FamilyValue n b)) = (_, refl)

family_begins : (c : Constant) (k : Kind) (v : Option Value) → (n : ℕ) × (b : Family) × (family_head c k v ≡ heads.FamilyHead n b k)
family_begins c k None = (_, _, refl)
family_begins c k (Some (SameAs d)) = (_, _, refl)
family_begins c k (Some (TermValue o)) = (_, _, refl)
family_begins c k (Some (FamilyValue n b)) = (_, _, refl)

none_taken : (head : heads.Head) (items : Vec Obj Global) → items.items ≡ [] → head_takes_all head (readings.read_objects items.items) ≡ head
unfolding head_takes_all
none_taken head items h = ap (λ ms. head_takes_all head (readings.read_objects ms)) h

module _ (decl : Bor FlatDecl) (items : Vec Obj Global) (empty : items.items ≡ []) where
  pub declared_object : (family : Fam) (lent : Lent Fam) → decl.now.class ≡ classes.Fam family → value_of lent ≡ family
      → (level_of (declared_head (read_declaration decl.now)) ≡ Objects) × Stands (record { start = starts.Constant decl; arguments = items; classifier = classifiers.Family lent }) (declared_head (read_declaration decl.now))
  declared_object family lent class value =
      let d = read_declaration decl.now in
      let begun = object_begins d.name (read_family family) d.value in
      let is : declared_head d ≡ heads.ObjectHead begun.0 (read_family family) = ap (λ k. declared_head (record { name = d.name; class = read_class k; value = d.value })) class ∙ begun.1 in (
        ap level_of is,
        record {
          first = declared_head d;
          begins = refl;
          takes = none_taken (declared_head d) items empty;
          classifies = subst (Classifies (classifiers.Family lent)) (sym is) (ap read_family value);
        },
      )

  pub declared_family : (kind : code_kind.Kind) (lent : Lent code_kind.Kind) → decl.now.class ≡ classes.Kind kind → value_of lent ≡ kind
      → (level_of (declared_head (read_declaration decl.now)) ≡ Families) × Stands (record { start = starts.Constant decl; arguments = items; classifier = classifiers.Kind lent }) (declared_head (read_declaration decl.now))
  declared_family kind lent class value =
      let d = read_declaration decl.now in
      let begun = family_begins d.name (read_kind kind) d.value in
      let is : declared_head d ≡ heads.FamilyHead begun.0 begun.1 (read_kind kind) = ap (λ k. declared_head (record { name = d.name; class = read_class k; value = d.value })) class ∙ begun.2 in (
        ap level_of is,
        record {
          first = declared_head d;
          begins = refl;
          takes = none_taken (declared_head d) items empty;
          classifies = subst (Classifies (classifiers.Kind lent)) (sym is) (ap read_kind value);
        },
      )

-- A variable begins as itself, at its raised family.
raised_family : (locals : Locals) (i : ℕ) → family_at locals i ≡ option_map (raise_family (suc i) 0) (slice_get (context_of locals) i)
raised_family locals i = sym (ap (option_map (raise_family (suc i) 0)) (slice_get-map (λ (own : Local). own.family) locals i) ∙ joined (slice_get locals i))
  where
    joined : (o : Option Local) → option_map (raise_family (suc i) 0) (option_map (λ (own : Local). own.family) o) ≡ option_map (λ (own : Local). raise_family (suc i) 0 own.family) o
    joined None = refl
    joined (Some own) = refl

pub variable_begins : (locals : Locals) (i by : ℕ) (span : Span) (items : Vec Obj Global) (family : Family) (lent : Lent Fam) (level : Level) → items.items ≡ [] → Some family ≡ slice_get (context_of locals) i → by ≡ i + 1
    → read_family (value_of lent) ≡ raise_family by 0 family → level ≡ Objects
    → Begins (Ok (record { start = starts.Variable i; arguments = items; classifier = classifiers.Family lent })) (levelled level span (variable_head i (family_at locals i) span))
variable_begins locals i by span items family lent level empty found more raised is =
    let at : family_at locals i ≡ Some (raise_family (suc i) 0 family) = raised_family locals i ∙ ap (option_map (raise_family (suc i) 0)) (sym found) in
    let own : Head = record { start = starts.Variable i; arguments = items; classifier = classifiers.Family lent } in
    let begun = heads.ObjectHead (At (Var i)) (raise_family (suc i) 0 family) in
    let stands : Stands own begun = record {
      first = begun;
      begins = (raise_family (suc i) 0 family, refl);
      takes = none_taken begun items empty;
      classifies = raised ∙ ap (λ k. raise_family k 0 family) (more ∙ add-one i);
    } in
    subst (λ o. Begins (Ok own) (levelled level span (variable_head i o span))) (sym at)
    (subst (λ l. Begins (Ok own) (levelled l span (Ok begun))) (sym is) stands)

abbrev fault_at : Span → Rule → Fault
fault_at span rule = record { span = span; rule = rule }

-- A name that is resolved begins so.
module _ (level : Level) (scope : Scope) (locals : Locals) (span : Span) (path : Path) where
  resolved_to : (r s : Resolved) → resolved_answer span r ≡ Ok s → r ≡ s
  resolved_to (Variable i) s h = cc
  resolved_to (Declared d) s h = cc
  resolved_to Unknown s h = absurd (cc)
  resolved_to Ambiguous s h = absurd (cc)

  pub resolved_begins : (s : Resolved) (result : Result Head ElabFault) → resolved_answer span (resolve scope (variables_of locals) path) ≡ Ok s → Begins result (levelled level span (resolved_head locals span s)) → Begins result (name_head level scope locals span path)
  unfolding name_head
  resolved_begins s result found begins = subst (λ r. Begins result (levelled level span (resolved_head locals span r))) (sym (resolved_to (resolve scope (variables_of locals) path) s found)) begins

  unresolved : (r : Resolved) (f : Fault) → resolved_answer span r ≡ Err f → levelled level span (resolved_head locals span r) ≡ Err f
  unresolved (Variable i) f h = absurd (cc)
  unresolved (Declared d) f h = absurd (cc)
  unresolved Unknown f h = let same : fault_at span Rule.UnknownName ≡ f = cc in ap Err same
  unresolved Ambiguous f h = let same : fault_at span Rule.AmbiguousName ≡ f = cc in ap Err same

  pub unresolved_begins : (fault : ElabFault) → IsFirstFault fault (resolved_answer span (resolve scope (variables_of locals) path)) → Begins (Err fault) (name_head level scope locals span path)
  unfolding name_head
  unresolved_begins (faults.Broken s rule) h = unresolved (resolve scope (variables_of locals) path) _ h
  unresolved_begins faults.Memory h = tt
