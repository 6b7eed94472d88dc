-- The test of equality of constants' names, and that it is one.
use Rattle.std.specs.Prelude.{◌≡◌, Bool, true}
use Rattle.std.proofs.Common.{ap}
use Rattle.std.specs.Cmp.{IsEquivalence}
use Rattle.lf_meaning.specs.Terms.{Constant}
use Rattle.lf_meaning.specs.Signatures.{same_constant}
use Rattle.term_trees.proofs.Below.Equality.{same_constant_sound, same_constant_itself}
use Rattle.term_trees.specs.Readings.{read_constant}
use Rattle.base_types.specs.declared.qname.QName.{QName}
use Rattle.list_laws.proofs.Booleans.{both_ways}

-- Whether two names are the same.
abbrev pub same_qname : QName → QName → Bool
same_qname q r = same_constant (read_constant q) (read_constant r)

pub same_qname_sound : (q r : QName) → same_qname q r ≡ true → q ≡ r
same_qname_sound q r h = ap (λ (c : Constant). record { theory = c.theory; path = c.path }) (same_constant_sound (read_constant q) (read_constant r) h)

same_turned : (c d : Constant) → same_constant c d ≡ true → same_constant d c ≡ true
same_turned c d h = rw (same_constant_sound c d h) (same_constant_itself d)

pub same_qname_equiv : IsEquivalence same_qname
same_qname_equiv = record {
  refl = λ q. same_constant_itself (read_constant q);
  symm = λ q r. both_ways (same_qname q r) (same_qname r q) (same_turned (read_constant q) (read_constant r)) (same_turned (read_constant r) (read_constant q));
  congr = λ q r s h. ap (λ x. same_qname x s) (same_qname_sound q r h);
}

pub same_constant_equiv : IsEquivalence same_constant
same_constant_equiv = record {
  refl = same_constant_itself;
  symm = λ c d. both_ways (same_constant c d) (same_constant d c) (same_turned c d) (same_turned d c);
  congr = λ c d e h. ap (λ x. same_constant x e) (same_constant_sound c d h);
}
