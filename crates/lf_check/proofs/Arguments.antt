-- A head takes its arguments one by one.
use Rattle.std.proofs.Common.{◌≡◌, ℕ, suc, ◌+◌, ◌<◌, List, [], ◌∷◌, drop, length, get_or, Option, Some, None, Result, Ok, Err, refl, sym, ap, ◌∙◌}
use Rattle.std.specs.Prelude.{IfSome}
use Rattle.std.proofs.Math.Seq.{drop-cons}
use Rattle.lf_meaning.specs.Terms.{Constant, Object, Family, AtFamily, AtomicFamily, FamilyCon, Kind, Ty, Context, apply_all, family_apply_all, argument_count}
use Rattle.lf_meaning.specs.Signatures.{Signature}
use Rattle.lf_meaning.specs.Faults.{Fault, NotAFunction, synthesised, synthesised_kind, application_answer, family_application_answer, object_fault}
use Rattle.lf_meaning.specs.SpineSynthesis.{arguments_answer, family_arguments_answer}
use Rattle.lf_term_laws.proofs.SpineSynthesis.{synthesised_spine, synthesised_kind_spine, fault_stays, kind_fault_stays}
use Rattle.term_trees.specs.Readings.{read_head, read_object, read_objects, read_family, read_kind}
use Rattle.term_trees.specs.declared.fam.Fam.{Fam}
use Rattle.term_trees.specs.declared.kind.Kind as code
use Rattle.term_trees.specs.declared.obj.Head.{Head}
use Rattle.term_trees.specs.declared.obj.Head.TheVariants as head
use Rattle.term_trees.specs.declared.obj.Obj.{Obj}
use Rattle.lf_check.specs.Stops.{stopped_by, Stops}
use Rattle.lf_check.specs.declared.stops.Stop.{Stop}
use Rattle.term_trees.proofs.SpineSameness.{no_arguments}

-- no argument is taken at an atomic family
pub no_function : (s : Stop) (a : Family) (p : AtomicFamily) (step : ℕ) (m : Object) (check : Family → Option Fault) → a ≡ AtFamily p → Stops s (Some (record { kind = NotAFunction; at = step ∷ [] }))
    → IfSome (stopped_by s) (λ f. application_answer (Ok a) step m check ≡ Err f)
no_function s a p step m check e = by (stopped_by s)
  where
    by : (o : Option Fault) → IfSome o (λ f. Some (record { kind = NotAFunction; at = step ∷ [] }) ≡ Some f) → IfSome o (λ f. application_answer (Ok a) step m check ≡ Err f)
    by None g = g
    by (Some f) g = let is : record { kind = NotAFunction; at = step ∷ [] } ≡ f = cc in ap (λ b. application_answer (Ok b) step m check) e ∙ ap Err is

-- no argument is taken at `type`
pub no_kind_function : (s : Stop) (k : Kind) (step : ℕ) (m : Object) (check : Family → Option Fault) → k ≡ Ty → Stops s (Some (record { kind = NotAFunction; at = step ∷ [] }))
    → IfSome (stopped_by s) (λ f. family_application_answer (Ok k) step m check ≡ Err f)
no_kind_function s k step m check e = by (stopped_by s)
  where
    by : (o : Option Fault) → IfSome o (λ f. Some (record { kind = NotAFunction; at = step ∷ [] }) ≡ Some f) → IfSome o (λ f. family_application_answer (Ok k) step m check ≡ Err f)
    by None g = g
    by (Some f) g = let is : record { kind = NotAFunction; at = step ∷ [] } ≡ f = cc in ap (λ l. family_application_answer (Ok l) step m check) e ∙ ap Err is

module _ (sig : Signature) (context : Context) where
  pub spine_begins : (h : Head) (ms : List Object) (answer : Result Family Fault) → synthesised sig context (read_head h) ≡ answer
      → synthesised sig context (apply_all (read_head h) ms) ≡ arguments_answer sig context answer 0 ms
  spine_begins h ms answer e = synthesised_spine sig context (read_head h) ms ∙ ap (λ o. arguments_answer sig context o (argument_count (read_head h)) ms) e ∙ ap (λ n. arguments_answer sig context answer n ms) (no_arguments h)

  -- a fault of the head is that of the whole
  pub head_stops : (h : Head) (ms : List Object) (s : Stop) → IfSome (stopped_by s) (λ f. synthesised sig context (read_head h) ≡ Err f)
      → IfSome (stopped_by s) (λ f. synthesised sig context (apply_all (read_head h) ms) ≡ Err f)
  head_stops h ms s = by (stopped_by s)
    where
      by : (o : Option Fault) → IfSome o (λ f. synthesised sig context (read_head h) ≡ Err f) → IfSome o (λ f. synthesised sig context (apply_all (read_head h) ms) ≡ Err f)
      by None g = g
      by (Some f) g = spine_begins h ms (Err f) g ∙ fault_stays sig context f 0 ms

  -- a fault at the next argument is that of the whole
  pub argument_stops : (whole : Result Family Fault) (so_far classifier : Fam) (i : ℕ) (spine : List Obj) (item : Obj) (s : Stop) → i < length spine → item ≡ get_or spine i item → classifier ≡ so_far
      → whole ≡ arguments_answer sig context (Ok (read_family so_far)) i (read_objects (drop i spine))
      → IfSome (stopped_by s) (λ f. application_answer (Ok (read_family classifier)) (2 + i) (read_object item) (object_fault sig context (read_object item)) ≡ Err f)
      → IfSome (stopped_by s) (λ f. whole ≡ Err f)
  argument_stops whole so_far classifier i spine item s below is same invariant = by (stopped_by s)
    where
      next : drop i spine ≡ item ∷ drop (suc i) spine
      next = drop-cons spine i item below ∙ ap (λ (x : Obj). x ∷ drop (suc i) spine) (sym is)

      by : (o : Option Fault) → IfSome o (λ f. application_answer (Ok (read_family classifier)) (2 + i) (read_object item) (object_fault sig context (read_object item)) ≡ Err f) → IfSome o (λ f. whole ≡ Err f)
      by None g = g
      by (Some f) g =
          invariant ∙ ap (λ a. arguments_answer sig context (Ok (read_family a)) i (read_objects (drop i spine))) (sym same)
          ∙ ap (λ items. arguments_answer sig context (Ok (read_family classifier)) i (read_objects items)) next
          ∙ ap (λ o. arguments_answer sig context o (suc i) (read_objects (drop (suc i) spine))) g
          ∙ fault_stays sig context f (suc i) (read_objects (drop (suc i) spine))

  -- the same for a family constant
  pub family_spine_begins : (c : Constant) (ms : List Object) (answer : Result Kind Fault) → synthesised_kind sig context (FamilyCon c) ≡ answer
      → synthesised_kind sig context (family_apply_all (FamilyCon c) ms) ≡ family_arguments_answer sig context answer 0 ms
  family_spine_begins c ms answer e = synthesised_kind_spine sig context (FamilyCon c) ms ∙ ap (λ o. family_arguments_answer sig context o 0 ms) e

  pub family_head_stops : (c : Constant) (ms : List Object) (s : Stop) → IfSome (stopped_by s) (λ f. synthesised_kind sig context (FamilyCon c) ≡ Err f)
      → IfSome (stopped_by s) (λ f. synthesised_kind sig context (family_apply_all (FamilyCon c) ms) ≡ Err f)
  family_head_stops c ms s = by (stopped_by s)
    where
      by : (o : Option Fault) → IfSome o (λ f. synthesised_kind sig context (FamilyCon c) ≡ Err f) → IfSome o (λ f. synthesised_kind sig context (family_apply_all (FamilyCon c) ms) ≡ Err f)
      by None g = g
      by (Some f) g = family_spine_begins c ms (Err f) g ∙ kind_fault_stays sig context f 0 ms

  pub family_argument_stops : (whole : Result Kind Fault) (so_far kind : code.Kind) (i : ℕ) (spine : List Obj) (item : Obj) (s : Stop) → i < length spine → item ≡ get_or spine i item → kind ≡ so_far
      → whole ≡ family_arguments_answer sig context (Ok (read_kind so_far)) i (read_objects (drop i spine))
      → IfSome (stopped_by s) (λ f. family_application_answer (Ok (read_kind kind)) (2 + i) (read_object item) (object_fault sig context (read_object item)) ≡ Err f)
      → IfSome (stopped_by s) (λ f. whole ≡ Err f)
  family_argument_stops whole so_far kind i spine item s below is same invariant = by (stopped_by s)
    where
      next : drop i spine ≡ item ∷ drop (suc i) spine
      next = drop-cons spine i item below ∙ ap (λ (x : Obj). x ∷ drop (suc i) spine) (sym is)

      by : (o : Option Fault) → IfSome o (λ f. family_application_answer (Ok (read_kind kind)) (2 + i) (read_object item) (object_fault sig context (read_object item)) ≡ Err f) → IfSome o (λ f. whole ≡ Err f)
      by None g = g
      by (Some f) g =
          invariant ∙ ap (λ k. family_arguments_answer sig context (Ok (read_kind k)) i (read_objects (drop i spine))) (sym same)
          ∙ ap (λ items. family_arguments_answer sig context (Ok (read_kind kind)) i (read_objects items)) next
          ∙ ap (λ o. family_arguments_answer sig context o (suc i) (read_objects (drop (suc i) spine))) g
          ∙ kind_fault_stays sig context f (suc i) (read_objects (drop (suc i) spine))
