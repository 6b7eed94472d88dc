use Rattle.std.proofs.Common.{◌≡◌, true, false, Bool, sym, ◌∙◌, refl}
use Rattle.std.proofs.lemmas.Str.{IsUtf8-from_is_utf8, is_utf8-from_IsUtf8}
use Rattle.std.specs.Str.{is_utf8}
use Rattle.identifiers.specs.Below.Identifiers.{is_identifier}
use Rattle.saved_log.proofs.ReadingRecords.{both, not_first}
use Rattle.saved_log.proofs.parts.saved_name.Goals as goal

pub returns-in_default : goal.returns-in_default
returns-in_default c = not_first (is_utf8 c.args.bytes.now) (is_identifier c.args.bytes.now) (or_false (is_utf8 c.args.bytes.now) refl)
  where
    or_false : (b : Bool) → is_utf8 c.args.bytes.now ≡ b → is_utf8 c.args.bytes.now ≡ false
    or_false true is = absurd (c.in_default.ensures.cases.0 (IsUtf8-from_is_utf8 c.args.bytes.now is))
    or_false false is = is

pub returns-then-is_identifier : goal.returns-then-is_identifier
returns-then-is_identifier c = (c.in-Ok.ensures.cases.0, both (is_utf8 c.args.bytes.now) (is_identifier c.args.bytes.now) (is_utf8-from_IsUtf8 c.args.bytes.now c.in-Ok.ensures.cases.1) (sym c.is_identifier.ensures ∙ c.if-is_identifier.true))
