-- Derivations: trees of rows.
use Rattle.std.specs.Prelude.{List, [], ◌∷◌}
use Rattle.lf_meaning.specs.Signatures.{Signature}
use Rattle.certificate_meaning.specs.Statements.{Statement}
use Rattle.certificate_meaning.specs.Steps.{Follows}

mutual
  pub data Derivable : Signature → Statement → Type 0 where
    by : {sig : Signature} {s : Statement} {premises : List Statement} → Follows sig s premises → AllDerivable sig premises → Derivable sig s

  pub data AllDerivable : Signature → List Statement → Type 0 where
    none : {sig : Signature} → AllDerivable sig []
    also : {sig : Signature} {s : Statement} {ss : List Statement} → Derivable sig s → AllDerivable sig ss → AllDerivable sig (s ∷ ss)
