-- Which bytes are names.
use Rattle.std.proofs.Common.{◌≡◌, ℕ, true, false, List, refl, not, ap, subst, ◌∙◌, arith}
use Rattle.std.specs.Prelude.{Some, None, IsTrue, if◌then◌else◌}
use Rattle.std.specs.Str.{IsUtf8, is_utf8}
use Rattle.std.proofs.lemmas.Str.{IsUtf8-from_is_utf8, is_utf8-from_IsUtf8}
use Rattle.name_meaning.specs.Identifiers.{is_identifier}
use Rattle.printing_meaning.specs.ScriptLines.{is_name}
use Rattle.std.proofs.lemmas.Bool.{false_from_ne_true}

pub no_name-bytes : (bytes : List ℕ) → (IsUtf8 bytes → ⊥) → is_name bytes ≡ false
no_name-bytes bytes never = rw (false_from_ne_true (is_utf8 bytes) (λ e. never (IsUtf8-from_is_utf8 bytes e))) refl

pub no_name-text : (bytes : List ℕ) → IsUtf8 bytes → IsTrue (not (is_identifier bytes)) → is_name bytes ≡ false
no_name-text bytes utf8 other =
    rw (is_utf8-from_IsUtf8 bytes utf8) (false_from_ne_true (is_identifier bytes) (λ e. grind (arith, other, e)))

pub name-text : (bytes : List ℕ) → IsUtf8 bytes → IsTrue (is_identifier bytes) → is_name bytes ≡ true
name-text bytes utf8 holds = rw (is_utf8-from_IsUtf8 bytes utf8) holds

pub name_is : (bytes text name : List ℕ) → text ≡ bytes → IsUtf8 bytes → IsTrue (is_identifier text) → name ≡ text
    → Some name ≡ (if is_name bytes then Some bytes else None)
name_is bytes text name same utf8 holds named =
    rw (name-text bytes utf8 (subst (λ (t : List ℕ). IsTrue (is_identifier t)) same holds)) (ap (λ (t : List ℕ). Some t) (named ∙ same))
