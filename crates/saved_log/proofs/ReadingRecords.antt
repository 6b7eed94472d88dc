-- The steps of reading a record.
use Rattle.std.proofs.Common.{◌≡◌, ◌≢◌, ◌==◌, ℕ, Bool, true, false, ◌&&◌, List, [], ◌∷◌, length, cond, Option, None, refl, ap, ◌∙◌, arith}
use Rattle.std.proofs.lemmas.Bool.Decides.{nat_tests}
use Rattle.std.specs.Option.{option_and_then}
use Rattle.std.specs.List.{IsFirstAndRest}
use Rattle.edit_log_meaning.specs.Log.{Edit}
use Rattle.saved_log_meaning.specs.Records as records

pub both : (a b : Bool) → a ≡ true → b ≡ true → (a && b) ≡ true
both true b is also = also
both false b is also = cc

pub not_first : (a b : Bool) → a ≡ false → (a && b) ≡ false
not_first true b is = cc
not_first false b is = refl

-- What is read behind a kind.
abbrev by_kind : Bool → Bool → List ℕ → Option (records.Read Edit)
by_kind is_put is_drop bytes =
    cond is_put (option_and_then records.put_behind (records.name_of bytes)) (cond is_drop (option_and_then records.drop_behind (records.name_of bytes)) None)

kinds : (kind : ℕ) (bytes : List ℕ) → records.record_of (kind ∷ bytes) ≡ by_kind (kind == 0) (kind == 1) bytes
unfolding records.record_of
kinds kind bytes = refl

pub no_record : (bytes : List ℕ) → length bytes ≡ 0 → records.record_of bytes ≡ None
unfolding records.record_of
no_record [] none = refl
no_record (kind ∷ bytes) none = absurd (omega (arith, none))

pub is_put : (bytes : List ℕ) (kind : ℕ) (behind : List ℕ) → IsFirstAndRest bytes kind behind → kind ≡ 0 → records.record_of bytes ≡ option_and_then records.put_behind (records.name_of behind)
is_put bytes kind behind split is = let test : (kind == 0) ≡ true = grind (arith, nat_tests, is) in ap records.record_of split.0 ∙ kinds kind behind ∙ ap (λ b. by_kind b (kind == 1) behind) test

pub is_drop : (bytes : List ℕ) (kind : ℕ) (behind : List ℕ) → IsFirstAndRest bytes kind behind → kind ≡ 1 → records.record_of bytes ≡ option_and_then records.drop_behind (records.name_of behind)
is_drop bytes kind behind split is =
    let put : (kind == 0) ≡ false = grind (arith, nat_tests, is) in
    let test : (kind == 1) ≡ true = grind (arith, nat_tests, is) in
    ap records.record_of split.0 ∙ kinds kind behind ∙ ap (λ b. by_kind b (kind == 1) behind) put ∙ ap (λ b. by_kind false b behind) test

pub is_neither : (bytes : List ℕ) (kind : ℕ) (behind : List ℕ) → IsFirstAndRest bytes kind behind → kind ≢ 0 → kind ≢ 1 → records.record_of bytes ≡ None
is_neither bytes kind behind split is_no_put is_no_drop =
    let put : (kind == 0) ≡ false = grind (arith, nat_tests) in
    let test : (kind == 1) ≡ false = grind (arith, nat_tests) in
    ap records.record_of split.0 ∙ kinds kind behind ∙ ap (λ b. by_kind b (kind == 1) behind) put ∙ ap (λ b. by_kind false b behind) test
