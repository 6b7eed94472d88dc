-- What the heads of this crate stand for: a head of the definitions, which takes one argument at a time.
use Rattle.std.specs.Prelude.{◌≡◌, ℕ, zero, suc, Bool, true, false, Option, Some, None}
use Rattle.lf_meaning.specs.Terms.{Object, At, Var, Family, Pi, AtFamily, Kind, Ty, PiKind}
use Rattle.lf_meaning.specs.Erasure.{erase}
use Rattle.lf_meaning.specs.Substitution.{substitute_family, substitute_kind}
use Rattle.lf_meaning.specs.Signatures.{Value, SameAs, TermValue, FamilyValue}
use Rattle.translation_meaning.specs.Heads as heads
use Rattle.translation_meaning.specs.Heads.{head_takes_all}
use Rattle.elaborate_meaning.specs.NameHeads.{declared_head}
use Rattle.term_trees.specs.Readings.{read_objects, read_declaration, read_family, read_kind}
use Rattle.term_trees.specs.declared.fam.Fam.{Fam}
use Rattle.term_trees.specs.declared.kind.Kind as code
use Rattle.elaborate.specs.LentValues.{value_of}
use Rattle.elaborate.specs.declared.lent.Lent.{Lent}
use Rattle.elaborate.specs.declared.heads.Classifier.{Classifier}
use Rattle.elaborate.specs.declared.heads.Classifier.TheVariants as classifiers
use Rattle.elaborate.specs.declared.heads.Start.{Start}
use Rattle.elaborate.specs.declared.heads.Start.TheVariants.{Variable, Constant}
use Rattle.elaborate.specs.declared.heads.Head.{Head}
use Rattle.elaborate.specs.declared.heads.Level.{Level}
use Rattle.elaborate.specs.declared.heads.Level.TheVariants as levels
use Rattle.elaborate_meaning.specs.NameHeads as names

-- The classifier is that of the head.
abbrev pub Classifies : Classifier → heads.Head → Type 0
Classifies (classifiers.Family family) (heads.ObjectHead object classifier) = read_family (value_of family) ≡ classifier
Classifies (classifiers.Family family) (heads.FamilyHead binders body kind) = ⊥
Classifies (classifiers.Kind kind) (heads.ObjectHead object classifier) = ⊥
Classifies (classifiers.Kind kind) (heads.FamilyHead binders body left) = read_kind (value_of kind) ≡ left

-- A head begins so: as a variable of some family, or as a declared constant.
abbrev pub BeginsWith : Start → heads.Head → Type 0
BeginsWith (Variable index) head = (family : Family) × (head ≡ heads.ObjectHead (At (Var index)) family)
BeginsWith (Constant decl) head = head ≡ declared_head (read_declaration decl.now)

-- The head of the definitions is what this one begins with after all its arguments.
pub record Stands (own : Head) (head : heads.Head) : Type 0 where
  pub first : heads.Head
  pub begins : BeginsWith own.start first
  pub takes : head_takes_all first (read_objects own.arguments.items) ≡ head
  pub classifies : Classifies own.classifier head

-- There is such a head of the definitions.
abbrev pub StandsForHead : Head → Type 0
StandsForHead own = (head : heads.Head) × Stands own head

-- There is one of families.
abbrev pub StandsForFamily : Head → Type 0
StandsForFamily own = (binders : ℕ) × (family : Family) × (kind : Kind) × Stands own (heads.FamilyHead binders family kind)

-- The family after an argument: the body of a Π with the argument substituted, an atomic family as it is.
abbrev pub family_after : Family → Object → Family
family_after (Pi domain body) argument = substitute_family argument (erase domain) 0 body
family_after (AtFamily p) argument = AtFamily p

abbrev pub kind_after : Kind → Object → Kind
kind_after (PiKind domain rest) argument = substitute_kind argument (erase domain) 0 rest
kind_after Ty argument = Ty

abbrev pub BodyAt : Lent Fam → Object → Lent Fam → Type 0
BodyAt before argument after = read_family (value_of after) ≡ family_after (read_family (value_of before)) argument

abbrev pub KindAt : Lent code.Kind → Object → Lent code.Kind → Type 0
KindAt before argument after = read_kind (value_of after) ≡ kind_after (read_kind (value_of before)) argument

-- The level that a level of the code stands for.
abbrev pub read_level : Level → names.Level
read_level levels.Objects = names.Objects
read_level levels.Families = names.Families

-- A family has at least one binder left.
abbrev pub has_binder : ℕ → Bool
has_binder zero = false
has_binder (suc binders) = true

-- The binders of the value of a constant.
abbrev pub value_binders : Option Value → ℕ
value_binders None = zero
value_binders (Some (SameAs constant)) = zero
value_binders (Some (TermValue object)) = zero
value_binders (Some (FamilyValue binders body)) = binders
