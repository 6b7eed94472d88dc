use Rattle.std.proofs.Common.{◌≡◌, drop}
use Rattle.lf_meaning.specs.Terms.{AtomicFamily}
use Rattle.translation_meaning.specs.Heads.{FamilyHead, head_takes_all}
use Rattle.translation_meaning.specs.Translation.{family_of}
use Rattle.term_trees.specs.Readings.{read_family, read_kind, read_objects}
use Rattle.lf_translate.proofs.families.filled.Given as goal

-- What is left to take gives what the whole gives.
abbrev pub invariant-loop-argument : goal.invariant-loop-argument
invariant-loop-argument l =
    (p : AtomicFamily)
    → family_of (head_takes_all (FamilyHead l.left (read_family l.family) (read_kind l.domains)) (read_objects (drop l.argument-index l.argument-items))) p
    ≡ family_of (head_takes_all (FamilyHead l.binders (read_family l.body) (read_kind l.kind)) (read_objects l.argument-items)) p
