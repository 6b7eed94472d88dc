-- Substitution at a head with a spine, read off values.
use Rattle.std.proofs.Common.{◌≡◌, ℕ, suc, ◌<◌, ◌≤◌, List, [], ◌∷◌, ◌++◌, map, reverse, refl, ap, sym, ◌∙◌}
use Rattle.std.proofs.lemmas.List.{reverse-reverse}
use Rattle.lf_meaning.specs.Terms as terms
use Rattle.lf_meaning.specs.Raising.{raise}
use Rattle.lf_meaning.specs.Substitution.{substitute, substitute_family, reduce, app}
use Rattle.list_laws.proofs.Lists.{map_reversed}
use Rattle.lf_term_laws.proofs.Spines.{substitute_applied_at, substitute_applied_below, substitute_applied_above, substitute_applied_constant, map_applied, apply_all_appended}
use Rattle.term_trees.specs.Readings.{read_constant, read_head, read_object, read_objects, read_arguments, read_family}
use Rattle.base_types.specs.declared.qname.QName.{QName}
use Rattle.term_trees.specs.declared.obj.Head.{Head}
use Rattle.term_trees.specs.declared.obj.Head.TheVariants as head
use Rattle.term_trees.specs.declared.obj.Obj.{Obj}
use Rattle.term_trees.specs.declared.obj.Obj.TheVariants as objs
use Rattle.term_trees.specs.declared.obj.Spine.{Spine}
use Rattle.term_trees.specs.declared.fam.Fam.TheVariants as fams
use Rattle.term_trees.proofs.ReadingEquations.{read_object_at, read_family_at}

-- what a head with a spine stands for, when the head is known
pub read_at_head : (into : Obj) (h g : Head) (s : Spine) → into ≡ objs.At h s → h ≡ g → read_object into ≡ terms.At (terms.apply_all (read_head g) (read_arguments s))
read_at_head into h g s made same = ap read_object made ∙ read_object_at h s ∙ ap (λ x. terms.At (terms.apply_all (read_head x) (read_arguments s))) same

module _ (v : terms.Object) (t : terms.Simple) (n : ℕ) (s : Spine) (ms : List terms.Object) (arguments : ms ≡ map (substitute v t n) (read_arguments s)) where
  -- a head that stays
  kept : (h : Head) (into : Obj) (q : terms.Atomic) → read_object into ≡ terms.At (terms.apply_all q (read_arguments s))
      → substitute v t n (terms.At (terms.apply_all q (read_arguments s))) ≡ terms.At (terms.apply_all (read_head h) (map (substitute v t n) (read_arguments s)))
      → terms.At (terms.apply_all (read_head h) ms) ≡ substitute v t n (read_object into)
  kept h into q read substituted =
      ap (λ ns. terms.At (terms.apply_all (read_head h) ns)) arguments
      ∙ sym substituted
      ∙ sym (ap (substitute v t n) read)

  pub substituted_constant : (into : Obj) (h : Head) (q : QName) → into ≡ objs.At h s → h ≡ head.Con q
      → terms.At (terms.apply_all (read_head h) ms) ≡ substitute v t n (read_object into)
  substituted_constant into h q made con =
      ap (λ x. terms.At (terms.apply_all (read_head x) ms)) con
      ∙ kept (head.Con q) into (terms.Con (read_constant q)) (read_at_head into h (head.Con q) s made con) (substitute_applied_constant v t n (read_arguments s) (read_constant q))

  pub substituted_below : (into : Obj) (h : Head) (i : ℕ) → into ≡ objs.At h s → h ≡ head.Var i → i < n
      → terms.At (terms.apply_all (read_head h) ms) ≡ substitute v t n (read_object into)
  substituted_below into h i made var below =
      ap (λ x. terms.At (terms.apply_all (read_head x) ms)) var
      ∙ kept (head.Var i) into (terms.Var i) (read_at_head into h (head.Var i) s made var) (substitute_applied_below v t n (read_arguments s) i below)

  pub substituted_above : (into : Obj) (h : Head) (r : Spine) (i j : ℕ) → into ≡ objs.At h s → h ≡ head.Var i → i ≡ suc j → n ≤ j → read_arguments r ≡ ms
      → read_object (objs.At (head.Var j) r) ≡ substitute v t n (read_object into)
  substituted_above into h r i j made var next above put =
      read_object_at (head.Var j) r
      ∙ ap (λ ns. terms.At (terms.apply_all (terms.Var j) ns)) put
      ∙ kept (head.Var j) into (terms.Var (suc j)) (read_at_head into h (head.Var (suc j)) s made (var ∙ ap head.Var next)) (substitute_applied_above v t n (read_arguments s) j above)

  pub substituted_at : (into : Obj) (h : Head) (i : ℕ) → into ≡ objs.At h s → h ≡ head.Var i → i ≡ n
      → reduce (raise n 0 v) t ms ≡ substitute v t n (read_object into)
  substituted_at into h i made var same =
      ap (reduce (raise n 0 v) t) arguments
      ∙ sym (substitute_applied_at v t n (read_arguments s))
      ∙ sym (ap (substitute v t n) (read_at_head into h (head.Var n) s made (var ∙ ap head.Var same)))

module _ (v : terms.Object) (t : terms.Simple) (n : ℕ) (s r : Spine) (arguments : read_arguments r ≡ map (substitute v t n) (read_arguments s)) where
  pub substituted_family : (p q : QName) → p ≡ q → read_family (fams.At p r) ≡ substitute_family v t n (read_family (fams.At q s))
  substituted_family p q copied =
      read_family_at p r
      ∙ ap (λ c. terms.AtFamily (terms.family_apply_all (terms.FamilyCon (read_constant c)) (read_arguments r))) copied
      ∙ ap (λ ms. terms.AtFamily (terms.family_apply_all (terms.FamilyCon (read_constant q)) ms)) arguments
      ∙ ap terms.AtFamily (sym (map_applied (λ k. substitute v t k) n (terms.FamilyCon (read_constant q)) (read_arguments s)))
      ∙ sym (ap (substitute_family v t n) (read_family_at q s))

app_atomic : (t : terms.Simple) (r : terms.Atomic) (m : terms.Object) → (app t (terms.At r) m).value ≡ terms.At (terms.App r m)
app_atomic (terms.Base c) r m = refl
app_atomic (terms.Arrow s t) r m = refl

-- an atomic value takes an argument at the end of its spine
pub takes_at : (t : terms.Simple) (value : Obj) (h : Head) (s r : Spine) (argument : Obj) → value ≡ objs.At h s → read_arguments r ≡ read_arguments s ++ read_object argument ∷ []
    → read_object (objs.At h r) ≡ (app t (read_object value) (read_object argument)).value
takes_at t value h s r argument made pushed =
    read_object_at h r
    ∙ ap (λ (ms : List terms.Object). terms.At (terms.apply_all (read_head h) ms)) pushed
    ∙ ap terms.At (apply_all_appended (read_head h) (read_arguments s) (read_object argument ∷ []))
    ∙ sym (app_atomic t (terms.apply_all (read_head h) (read_arguments s)) (read_object argument))
    ∙ sym (ap (λ (m : terms.Object). (app t m (read_object argument)).value) (ap read_object made ∙ read_object_at h s))

-- the same, of an argument that was copied
pub takes_copied : (t : terms.Simple) (value : Obj) (h : Head) (s r : Spine) (argument copy : Obj) → value ≡ objs.At h s → read_arguments r ≡ read_arguments s ++ read_object copy ∷ []
    → read_object copy ≡ read_object argument → read_object (objs.At h r) ≡ (app t (read_object value) (read_object argument)).value
takes_copied t value h s r argument copy made pushed copied =
    takes_at t value h s r copy made pushed ∙ ap (λ (m : terms.Object). (app t (read_object value) m).value) copied

-- the heads of two names of one variable
pub one_index : (h : Head) (i j : ℕ) → h ≡ head.Var i → h ≡ head.Var j → i ≡ j
one_index h i j one other = cc

-- arguments that were turned round stand as they did when turned round again
turned : (ms items : List Obj) → items ≡ reverse ms → reverse (read_objects items) ≡ read_objects ms
turned ms items e = ap (λ (others : List Obj). reverse (read_objects others)) e ∙ ap reverse (map_reversed read_object ms) ∙ reverse-reverse (read_objects ms)

-- the value that is raised and takes the arguments
pub reduced_given : (t : terms.Simple) (v : terms.Object) (n : ℕ) (r items : List Obj) (value : Obj) → read_object value ≡ raise n 0 v → items ≡ reverse r
    → reduce (read_object value) t (reverse (read_objects items)) ≡ reduce (raise n 0 v) t (read_objects r)
reduced_given t v n r items value raised back =
    ap (λ (w : terms.Object). reduce w t (reverse (read_objects items))) raised
    ∙ ap (reduce (raise n 0 v) t) (turned r items back)
