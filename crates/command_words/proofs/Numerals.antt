-- Words that are numbers, and the numbers that they write.
use Rattle.std.proofs.Common.{◌≡◌, ◌≢◌, ℕ, ◌<◌, ◌≤◌, ◌^◌, Bool, true, cond, List, [], ◌∷◌, length, get_or, refl, arith}
use Rattle.std.specs.Prelude.{Some, None, Result, Ok, Err, nat_le, ◌==◌, ◌&&◌, not}
use Rattle.std.specs.List.{list_all}
use Rattle.std.specs.Result.{result_ok, OkIff}
use Rattle.std.specs.Str.Parse.{digits_value, ParsesUnsigned}
use Rattle.std.proofs.lemmas.Bool.Decides.{nat_tests}
use Rattle.std.proofs.lemmas.Bool.{and_parts}
use Rattle.std.proofs.lemmas.Str.Parse.{IsDigitsTest, IsNumeralModel, numerals_by_value, parse_digits}
use Rattle.printing_meaning.specs.Numbers.{is_digit, is_number}
use Rattle.command_words_meaning.specs.WordLists.{number_between}

-- a word of two bytes or more that does not begin with `0` is a number where all its bytes are digits
pub number_unled : (word : List ℕ) → 2 ≤ length word → get_or word 0 0 ≢ 48 → list_all is_digit word ≡ is_number word
number_unled [] l n = absurd (omega arith)
number_unled (digit ∷ []) l n = absurd (omega arith)
number_unled (digit ∷ second ∷ digits) l n = grind (arith, nat_tests)

tells : IsDigitsTest (λ ds. list_all is_digit ds ≡ true)
tells = record {
  empty = refl;
  parts = λ c cs h. let p = and_parts (is_digit c) (list_all is_digit cs) h in let q = and_parts (nat_le 48 c) (nat_le c 57) p.0 in
      (grind (arith, nat_tests), p.1);
  more = λ c cs r h. grind (arith, nat_tests);
}

digits_model : IsNumeralModel (λ ds. list_all is_digit ds ≡ true) (digits_value 10)
digits_model = numerals_by_value (λ ds. list_all is_digit ds ≡ true) tells

record IsDigits (word : List ℕ) : Type 0 where
  digits : list_all is_digit word ≡ true
  some : 0 < length word

number_digits : (word : List ℕ) → is_number word ≡ true → IsDigits word
number_digits [] h = absurd cc
number_digits (digit ∷ []) h = record { digits = grind arith; some = omega arith }
number_digits (digit ∷ second ∷ digits) h = record { digits = (and_parts (not (digit == 48)) _ h).1; some = omega arith }

-- a number beyond the greatest is none of those between
beyond : (least greatest : ℕ) (word : List ℕ) → greatest < digits_value 10 word → number_between least greatest word ≡ None
beyond least greatest word h = by_value (is_number word) (digits_value 10 word) h
  where
    by_value : (number : Bool) (value : ℕ) → greatest < value → cond ((number && nat_le least value) && nat_le value greatest) (Some value) None ≡ None
    by_value number value h = grind (arith, nat_tests)

-- a number that does not fit 32 bits is none of those between
pub unparsed : {E : Type 0} (least greatest : ℕ) (word : List ℕ) (parsed : Result ℕ E) → greatest < 2 ^ 32 → is_number word ≡ true
    → ParsesUnsigned 32 10 word parsed → result_ok parsed ≡ None → number_between least greatest word ≡ None
unparsed least greatest word parsed g n p none =
    let digits = number_digits word n in by_result parsed (parse_digits digits_model 32 word parsed p digits.digits) none
  where
    by_result : {E : Type 0} (r : Result ℕ E) → OkIff r ((0 < length word) × (digits_value 10 word < 2 ^ 32)) (digits_value 10 word) → result_ok r ≡ None
        → number_between least greatest word ≡ None
    by_result (Ok value) h e = absurd cc
    by_result (Err error) h e =
        let some : 0 < length word = (number_digits word n).some in
        let past : greatest < digits_value 10 word = grind arith in
        beyond least greatest word past
