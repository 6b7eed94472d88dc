-- What the words of a command line say, behind those that it does not begin with.
use Rattle.std.proofs.Common.{◌≡◌, ℕ, ◌-◌, true, false, List, length, take, drop, refl, arith}
use Rattle.std.specs.Prelude.{nat_eq, codes}
use Rattle.std.specs.List.{starts_with}
use Rattle.std.specs.Str.{bytes_eq}
use Rattle.std.proofs.lemmas.List.{take_all, length-drop}
use Rattle.run_meaning.specs.ScriptCommands as meant

-- the line begins with none of the words that are tried first
pub record IsLater (content : List ℕ) : Type 0 where
  pub no_put : starts_with nat_eq content (codes "put ") ≡ false
  pub no_drop : starts_with nat_eq content (codes "drop ") ≡ false
  pub no_report : starts_with nat_eq content (codes "report ") ≡ false
  pub no_check : bytes_eq content (codes "check") ≡ false

take_rest : (n : ℕ) (bytes : List ℕ) → take (length bytes - n) (drop n bytes) ≡ drop n bytes
take_rest n bytes = take_all (length bytes - n) (drop n bytes) (omega (arith, length-drop n bytes))

-- the rest of the line, as a slice of it is seen
pub flat_said : (content : List ℕ) → IsLater content → starts_with nat_eq content (codes "flat ") ≡ true
    → meant.command_by content ≡ meant.of_name (λ name. meant.Says (meant.FlatCommand name)) (take (length content - 5) (drop 5 content))
flat_said content later flat = rw (take_rest 5 content, later.no_put, later.no_drop, later.no_report, later.no_check, flat) refl

pub carry_said : (content : List ℕ) → IsLater content → starts_with nat_eq content (codes "flat ") ≡ false
    → starts_with nat_eq content (codes "carry ") ≡ true
    → meant.command_by content ≡ meant.carry_by (meant.parted_at_space (take (length content - 6) (drop 6 content)))
carry_said content later other carry = rw (take_rest 6 content, later.no_put, later.no_drop, later.no_report, later.no_check, other, carry) refl
