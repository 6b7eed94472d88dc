-- Constants that are looked up by a theory and names, and declarations by their names.
use Rattle.std.specs.Prelude.{ℕ, List, [], ◌∷◌, ◌++◌}
use Rattle.std.specs.Cmp.{decided, IsEquivalence}
use Rattle.std.specs.Hash.{u64}
use Rattle.lf_meaning.specs.Terms.{Constant}
use Rattle.lf_meaning.specs.Signatures.{same_constant}
use Rattle.base_types.specs.Digests.{digest_of}
use Rattle.term_trees.specs.Readings.{read_constant}
use Rattle.term_trees.specs.declared.flat_decl.FlatDecl.{FlatDecl}
use Rattle.term_trees.proofs.Below.Equality.{same_constant_decides}
use Rattle.lf_terms.specs.declared.path_names.NamesIn.{NamesIn}

-- The constant that is meant.
abbrev pub named_by : NamesIn → Constant
named_by names = record { theory = names.theory.now; path = names.names.now }

-- What a hasher is fed of a constant.
abbrev pub fed_of : Constant → List (List ℕ)
fed_of constant = (constant.theory ∷ []) ++ u64 (digest_of constant.path)

-- Equality of names is one of declarations.
pub same_name_equiv : IsEquivalence (λ (d e : FlatDecl). same_constant (read_constant d.name) (read_constant e.name))
same_name_equiv =
    let constants = decided same_constant same_constant_decides in
    record {
      refl = λ d. constants.refl (read_constant d.name);
      symm = λ d e. constants.symm (read_constant d.name) (read_constant e.name);
      congr = λ d e f. constants.congr (read_constant d.name) (read_constant e.name) (read_constant f.name);
    }
