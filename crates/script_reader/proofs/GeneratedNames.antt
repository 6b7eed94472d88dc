-- The names of generated modules are identifiers.
use Rattle.std.proofs.Common.{◌≡◌, ℕ, zero, suc, ◌+◌, ◌/◌, ◌%◌, ◌^◌, ◌<◌, ◌≤◌, true, false, not, ◌==◌, List, [], ◌∷◌, ◌++◌, length, decimal, refl, ap, ◌∙◌, arith, ne_eqb}
use Rattle.std.specs.Prelude.{IsTrue}
use Rattle.std.specs.List.{list_all}
use Rattle.std.proofs.lemmas.Bool.{and_from}
use Rattle.std.proofs.lemmas.List.Folds.{list_all-append}
use Rattle.std.proofs.lemmas.Fmt.{decimal_by_steps_wide}
use Rattle.name_meaning.specs.Characters.{is_identifier_byte}
use Rattle.name_meaning.specs.Identifiers.{is_run, is_reserved, is_identifier}
use Rattle.run_meaning.specs.Generator.{module_name}

digit_is : (k : ℕ) → k < 10 → is_identifier_byte (48 + k) ≡ true
digit_is zero h = refl
digit_is (suc zero) h = refl
digit_is (suc (suc zero)) h = refl
digit_is (suc (suc (suc zero))) h = refl
digit_is (suc (suc (suc (suc zero)))) h = refl
digit_is (suc (suc (suc (suc (suc zero))))) h = refl
digit_is (suc (suc (suc (suc (suc (suc zero)))))) h = refl
digit_is (suc (suc (suc (suc (suc (suc (suc zero))))))) h = refl
digit_is (suc (suc (suc (suc (suc (suc (suc (suc zero)))))))) h = refl
digit_is (suc (suc (suc (suc (suc (suc (suc (suc (suc zero))))))))) h = refl
digit_is (suc (suc (suc (suc (suc (suc (suc (suc (suc (suc k)))))))))) h = absurd (omega (arith, h))

-- all digits of a number are bytes of identifiers
abbrev AreDigits : ℕ → List ℕ → Type 0
AreDigits n digits = list_all is_identifier_byte digits ≡ true

one_digit : (n : ℕ) → n < 10 → AreDigits n ((48 + n) ∷ [])
one_digit n h = and_from (is_identifier_byte (48 + n)) true (digit_is n h) refl

more_digits : (n : ℕ) (digits : List ℕ) → 10 ≤ n → AreDigits (n / 10) digits → AreDigits n (digits ++ ((48 + n % 10) ∷ []))
more_digits n digits h before =
    list_all-append is_identifier_byte digits ((48 + n % 10) ∷ [])
    ∙ and_from (list_all is_identifier_byte digits) (list_all is_identifier_byte ((48 + n % 10) ∷ [])) before (one_digit (n % 10) (omega arith))

digits_are : (n : ℕ) → n < 10 ^ 64 → list_all is_identifier_byte (decimal n) ≡ true
digits_are n h = decimal_by_steps_wide AreDigits one_digit more_digits n h

no_reserved : (digits : List ℕ) → is_reserved (71 ∷ digits) ≡ false
no_reserved digits = refl

some_bytes : (digits : List ℕ) → not (length (71 ∷ digits) == 0) ≡ true
some_bytes digits = ap not (ne_eqb (length (71 ∷ digits)) 0 (λ e. omega (arith, e)))

pub name_is_identifier : (n : ℕ) → n < 10 ^ 64 → is_identifier (module_name n) ≡ true
name_is_identifier n h =
    and_from (is_run (module_name n)) (not (is_reserved (module_name n)))
    (and_from (not (length (71 ∷ decimal n) == 0)) (list_all is_identifier_byte (71 ∷ decimal n)) (some_bytes (decimal n)) (digits_are n h))
    (ap not (no_reserved (decimal n)))

-- so such a text is never refused as a name
pub never_refused : (text : List ℕ) (n : ℕ) → n < 10 ^ 64 → text ≡ module_name n → IsTrue (not (is_identifier text)) → ⊥
never_refused text n h same other =
    let known : is_identifier text ≡ true = rw same (name_is_identifier n h) in grind (arith, known, other)
