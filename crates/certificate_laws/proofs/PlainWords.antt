-- The words of a line have neither a space nor a line feed.
use Rattle.std.proofs.Common.{◌≡◌, ℕ, ◌<◌, ◌^◌, Bool, true, false, not, ◌==◌, ◌&&◌, List, [], ◌∷◌, map, Option, decimal, codes, refl, sym, ap, ap₂, subst, ◌∙◌, arith, true≢false}
use Rattle.std.specs.List.{list_all}
use Rattle.std.specs.Str.Parse.{AllDigits}
use Rattle.std.specs.Char.{digit_value}
use Rattle.std.proofs.lemmas.Bool.{and_parts, eqb-true}
use Rattle.std.proofs.lemmas.List.Folds.{list_all-append}
use Rattle.std.proofs.lemmas.Fmt.{decimal_is_IsNumeral}
use Rattle.name_meaning.specs.Names.{Name}
use Rattle.name_meaning.specs.Characters.{is_identifier_byte}
use Rattle.name_meaning.specs.Identifiers.{is_identifier, is_run, is_reserved}
use Rattle.text_meaning.specs.Tokens.{dotted}
use Rattle.lf_meaning.specs.Terms.{Constant, Simple}
use Rattle.lf_meaning.specs.Signatures.{Class, FamilyClass, KindClass}
use Rattle.certificate_meaning.specs.Statements.{Statement}
use Rattle.certificate_meaning.specs.Certificates.{Line, StepLine}
use Rattle.certificate_meaning.specs.Texts.{Word, next_number, IsAt, IsClassAt, IsWritable, constant_word, WritesRest, writes_rest, writes_no_rest, AreStepsAt, premise_words, IsWritten}
use Rattle.certificate_laws.proofs.NumberedLines.{number_below, short_fits}
use Rattle.certificate_laws.proofs.TextRows as rows
use Rattle.certificate_laws.proofs.TextRows.{Keyword, keyword_text, Row, RowOf, row_of}
use Rattle.certificate_laws.proofs.SplitWords.{AreFree}

-- the byte is neither a line feed nor a space
abbrev pub is_plain : ℕ → Bool
is_plain b = not (b == 10) && not (b == 32)

abbrev pub IsPlain : Word → Type 0
IsPlain word = list_all is_plain word ≡ true

abbrev pub ArePlain : List Word → Type 0
ArePlain words = list_all (λ word. list_all is_plain word) words ≡ true

both : {a b : Bool} → a ≡ true → b ≡ true → (a && b) ≡ true
both h g = ap₂ (λ x y. x && y) h g

also : (word : Word) (words : List Word) → IsPlain word → ArePlain words → ArePlain (word ∷ words)
also word words h g = both h g

-- a byte of a class without either is plain
plain_byte : (is : ℕ → Bool) → is 10 ≡ false → is 32 ≡ false → (b : ℕ) → is b ≡ true → is_plain b ≡ true
plain_byte is feed space b h = both (by 10 feed (b == 10) refl) (by 32 space (b == 32) refl)
  where
    by : (c : ℕ) → is c ≡ false → (t : Bool) → (b == c) ≡ t → not t ≡ true
    by c none false e = refl
    by c none true e = absurd (true≢false (sym h ∙ ap is (eqb-true b c e) ∙ none))

plain_all : (is : ℕ → Bool) → is 10 ≡ false → is 32 ≡ false → (word : Word) → list_all is word ≡ true → IsPlain word
plain_all is feed space [] h = refl
plain_all is feed space (b ∷ word) h =
    let q = and_parts (is b) (list_all is word) h in
    both (plain_byte is feed space b q.0) (plain_all is feed space word q.1)

-- digits are plain
plain_digits : (word : Word) → AllDigits 10 word → IsPlain word
plain_digits [] h = refl
plain_digits (b ∷ word) h = both (both (other 10 (b == 10) refl (λ e. omega (arith, subst (λ c. digit_value c < 10) e h.0))) (other 32 (b == 32) refl (λ e. omega (arith, subst (λ c. digit_value c < 10) e h.0)))) (plain_digits word h.1)
  where
    other : (c : ℕ) (t : Bool) → (b == c) ≡ t → (b ≡ c → ⊥) → not t ≡ true
    other c false e differ = refl
    other c true e differ = absurd (differ (eqb-true b c e))

plain_number : (n : ℕ) → n < 2 ^ 64 → IsPlain (decimal n)
plain_number n h = plain_digits (decimal n) (decimal_is_IsNumeral n h).0.1

-- names are plain, and so are rows of names
plain_name : (name : Name) → is_identifier name ≡ true → IsPlain name
plain_name name h = plain_all is_identifier_byte refl refl name (and_parts _ (list_all is_identifier_byte name) (and_parts (is_run name) (not (is_reserved name)) h).0).1

plain_dotted : (names : List Name) → list_all is_identifier names ≡ true → IsPlain (dotted names)
plain_dotted [] h = refl
plain_dotted (name ∷ names) h =
    let q = and_parts (is_identifier name) (list_all is_identifier names) h in
    list_all-append is_plain name (dotted names) ∙ both (plain_name name q.0) (plain_dotted names q.1)

plain_constant : (c : Constant) → IsWritable c → IsPlain (constant_word c)
plain_constant c h =
    let q = and_parts (is_identifier c.theory) (list_all is_identifier c.path) h.identifiers in
    list_all-append is_plain c.theory (dotted c.path) ∙ both (plain_name c.theory q.0) (plain_dotted c.path q.1)

module _ (lines : List Line) (few : next_number lines < 2 ^ 64) where
  plain_at : (i : ℕ) (line : Line) → IsAt lines i line → IsPlain (decimal i)
  plain_at i line h = plain_number i (omega (arith, few, number_below lines i line h))

  plain_class : (i : ℕ) (c : Class) → IsClassAt lines i c → IsPlain (decimal i)
  plain_class i (FamilyClass a) h = plain_at i _ h
  plain_class i (KindClass k) h = plain_at i _ h

  plain_rest : {rest : Option Simple} {word : Word} → WritesRest lines rest word → IsPlain word
  plain_rest (writes_rest i h) = plain_at i _ h
  plain_rest writes_no_rest = refl

  plain_numbers : (numbers : List ℕ) (premises : List Statement) → AreStepsAt lines numbers premises → ArePlain (map decimal numbers)
  plain_numbers [] premises h = refl
  plain_numbers (i ∷ numbers) [] h = absurd h
  plain_numbers (i ∷ numbers) (s ∷ premises) h = also (decimal i) (map decimal numbers) (plain_at i (StepLine s) h.0) (plain_numbers numbers premises h.1)

  plain_premises : (numbers : List ℕ) (premises : List Statement) → AreStepsAt lines numbers premises → ArePlain (premise_words numbers)
  plain_premises [] premises h = refl
  plain_premises (i ∷ numbers) premises h = also (codes ":") (map decimal (i ∷ numbers)) refl (plain_numbers (i ∷ numbers) premises h)

  plain_row : {k : Keyword} {line : Line} {rest : List Word} → Row lines k line rest → ArePlain (keyword_text k ∷ rest)
  plain_row rows.type_row = also (keyword_text rows.TypeWord) ([]) refl refl
  plain_row (rows.kind_pi_row i0 i1 q0 q1) = also (keyword_text rows.KindPiWord) (decimal i0 ∷ decimal i1 ∷ []) refl (also (decimal i0) (decimal i1 ∷ []) (plain_at i0 _ q0) (also (decimal i1) ([]) (plain_at i1 _ q1) refl))
  plain_row (rows.pi_row i0 i1 q0 q1) = also (keyword_text rows.PiWord) (decimal i0 ∷ decimal i1 ∷ []) refl (also (decimal i0) (decimal i1 ∷ []) (plain_at i0 _ q0) (also (decimal i1) ([]) (plain_at i1 _ q1) refl))
  plain_row (rows.family_constant_row {c = c} q0) = also (keyword_text rows.FamilyConstantWord) (constant_word c ∷ []) refl (also (constant_word c) ([]) (plain_constant c q0) refl)
  plain_row (rows.family_application_row i0 i1 q0 q1) = also (keyword_text rows.FamilyApplicationWord) (decimal i0 ∷ decimal i1 ∷ []) refl (also (decimal i0) (decimal i1 ∷ []) (plain_at i0 _ q0) (also (decimal i1) ([]) (plain_at i1 _ q1) refl))
  plain_row (rows.lambda_row i0 q0) = also (keyword_text rows.LambdaWord) (decimal i0 ∷ []) refl (also (decimal i0) ([]) (plain_at i0 _ q0) refl)
  plain_row (rows.atomic_row i0 q0) = also (keyword_text rows.AtomicWord) (decimal i0 ∷ []) refl (also (decimal i0) ([]) (plain_at i0 _ q0) refl)
  plain_row (rows.variable_row {n = n} q0) = also (keyword_text rows.VariableWord) (decimal n ∷ []) refl (also (decimal n) ([]) (plain_number n (short_fits n q0)) refl)
  plain_row (rows.constant_row {c = c} q0) = also (keyword_text rows.ConstantWord) (constant_word c ∷ []) refl (also (constant_word c) ([]) (plain_constant c q0) refl)
  plain_row (rows.application_row i0 i1 q0 q1) = also (keyword_text rows.ApplicationWord) (decimal i0 ∷ decimal i1 ∷ []) refl (also (decimal i0) (decimal i1 ∷ []) (plain_at i0 _ q0) (also (decimal i1) ([]) (plain_at i1 _ q1) refl))
  plain_row (rows.base_row {c = c} q0) = also (keyword_text rows.BaseWord) (constant_word c ∷ []) refl (also (constant_word c) ([]) (plain_constant c q0) refl)
  plain_row (rows.arrow_row i0 i1 q0 q1) = also (keyword_text rows.ArrowWord) (decimal i0 ∷ decimal i1 ∷ []) refl (also (decimal i0) (decimal i1 ∷ []) (plain_at i0 _ q0) (also (decimal i1) ([]) (plain_at i1 _ q1) refl))
  plain_row rows.no_context_row = also (keyword_text rows.NoContextWord) ([]) refl refl
  plain_row (rows.context_row i0 i1 q0 q1) = also (keyword_text rows.ContextWord) (decimal i0 ∷ decimal i1 ∷ []) refl (also (decimal i0) (decimal i1 ∷ []) (plain_at i0 _ q0) (also (decimal i1) ([]) (plain_at i1 _ q1) refl))
  plain_row (rows.raise_row {n = n} {o = o} i2 i3 premises numbers q0 q1 q2 q3 are) = also (keyword_text rows.RaiseWord) (decimal n ∷ decimal o ∷ decimal i2 ∷ decimal i3 ∷ premise_words numbers) refl (also (decimal n) (decimal o ∷ decimal i2 ∷ decimal i3 ∷ premise_words numbers) (plain_number n (short_fits n q0)) (also (decimal o) (decimal i2 ∷ decimal i3 ∷ premise_words numbers) (plain_number o (short_fits o q1)) (also (decimal i2) (decimal i3 ∷ premise_words numbers) (plain_at i2 _ q2) (also (decimal i3) (premise_words numbers) (plain_at i3 _ q3) (plain_premises numbers premises are)))))
  plain_row (rows.erase_row i0 i1 premises numbers q0 q1 are) = also (keyword_text rows.EraseWord) (decimal i0 ∷ decimal i1 ∷ premise_words numbers) refl (also (decimal i0) (decimal i1 ∷ premise_words numbers) (plain_at i0 _ q0) (also (decimal i1) (premise_words numbers) (plain_at i1 _ q1) (plain_premises numbers premises are)))
  plain_row (rows.substitute_row {n = n} i0 i1 i3 i4 premises numbers q0 q1 q2 q3 q4 are) = also (keyword_text rows.SubstituteWord) (decimal i0 ∷ decimal i1 ∷ decimal n ∷ decimal i3 ∷ decimal i4 ∷ premise_words numbers) refl (also (decimal i0) (decimal i1 ∷ decimal n ∷ decimal i3 ∷ decimal i4 ∷ premise_words numbers) (plain_at i0 _ q0) (also (decimal i1) (decimal n ∷ decimal i3 ∷ decimal i4 ∷ premise_words numbers) (plain_at i1 _ q1) (also (decimal n) (decimal i3 ∷ decimal i4 ∷ premise_words numbers) (plain_number n (short_fits n q2)) (also (decimal i3) (decimal i4 ∷ premise_words numbers) (plain_at i3 _ q3) (also (decimal i4) (premise_words numbers) (plain_at i4 _ q4) (plain_premises numbers premises are))))))
  plain_row (rows.head_row {n = n} i0 i1 i3 i4 word premises numbers q0 q1 q2 q3 q4 q5 are) = also (keyword_text rows.HeadWord) (decimal i0 ∷ decimal i1 ∷ decimal n ∷ decimal i3 ∷ decimal i4 ∷ word ∷ premise_words numbers) refl (also (decimal i0) (decimal i1 ∷ decimal n ∷ decimal i3 ∷ decimal i4 ∷ word ∷ premise_words numbers) (plain_at i0 _ q0) (also (decimal i1) (decimal n ∷ decimal i3 ∷ decimal i4 ∷ word ∷ premise_words numbers) (plain_at i1 _ q1) (also (decimal n) (decimal i3 ∷ decimal i4 ∷ word ∷ premise_words numbers) (plain_number n (short_fits n q2)) (also (decimal i3) (decimal i4 ∷ word ∷ premise_words numbers) (plain_at i3 _ q3) (also (decimal i4) (word ∷ premise_words numbers) (plain_at i4 _ q4) (also (word) (premise_words numbers) (plain_rest q5) (plain_premises numbers premises are)))))))
  plain_row (rows.apply_row i0 i1 i2 i3 i4 premises numbers q0 q1 q2 q3 q4 are) = also (keyword_text rows.ApplyWord) (decimal i0 ∷ decimal i1 ∷ decimal i2 ∷ decimal i3 ∷ decimal i4 ∷ premise_words numbers) refl (also (decimal i0) (decimal i1 ∷ decimal i2 ∷ decimal i3 ∷ decimal i4 ∷ premise_words numbers) (plain_at i0 _ q0) (also (decimal i1) (decimal i2 ∷ decimal i3 ∷ decimal i4 ∷ premise_words numbers) (plain_at i1 _ q1) (also (decimal i2) (decimal i3 ∷ decimal i4 ∷ premise_words numbers) (plain_at i2 _ q2) (also (decimal i3) (decimal i4 ∷ premise_words numbers) (plain_at i3 _ q3) (also (decimal i4) (premise_words numbers) (plain_at i4 _ q4) (plain_premises numbers premises are))))))
  plain_row (rows.kind_row i0 i1 premises numbers q0 q1 are) = also (keyword_text rows.KindWord) (decimal i0 ∷ decimal i1 ∷ premise_words numbers) refl (also (decimal i0) (decimal i1 ∷ premise_words numbers) (plain_at i0 _ q0) (also (decimal i1) (premise_words numbers) (plain_at i1 _ q1) (plain_premises numbers premises are)))
  plain_row (rows.family_row i0 i1 premises numbers q0 q1 are) = also (keyword_text rows.FamilyWord) (decimal i0 ∷ decimal i1 ∷ premise_words numbers) refl (also (decimal i0) (decimal i1 ∷ premise_words numbers) (plain_at i0 _ q0) (also (decimal i1) (premise_words numbers) (plain_at i1 _ q1) (plain_premises numbers premises are)))
  plain_row (rows.kind_synthesis_row i0 i1 i2 premises numbers q0 q1 q2 are) = also (keyword_text rows.KindSynthesisWord) (decimal i0 ∷ decimal i1 ∷ decimal i2 ∷ premise_words numbers) refl (also (decimal i0) (decimal i1 ∷ decimal i2 ∷ premise_words numbers) (plain_at i0 _ q0) (also (decimal i1) (decimal i2 ∷ premise_words numbers) (plain_at i1 _ q1) (also (decimal i2) (premise_words numbers) (plain_at i2 _ q2) (plain_premises numbers premises are))))
  plain_row (rows.check_row i0 i1 i2 premises numbers q0 q1 q2 are) = also (keyword_text rows.CheckWord) (decimal i0 ∷ decimal i1 ∷ decimal i2 ∷ premise_words numbers) refl (also (decimal i0) (decimal i1 ∷ decimal i2 ∷ premise_words numbers) (plain_at i0 _ q0) (also (decimal i1) (decimal i2 ∷ premise_words numbers) (plain_at i1 _ q1) (also (decimal i2) (premise_words numbers) (plain_at i2 _ q2) (plain_premises numbers premises are))))
  plain_row (rows.synthesis_row i0 i1 i2 premises numbers q0 q1 q2 are) = also (keyword_text rows.SynthesisWord) (decimal i0 ∷ decimal i1 ∷ decimal i2 ∷ premise_words numbers) refl (also (decimal i0) (decimal i1 ∷ decimal i2 ∷ premise_words numbers) (plain_at i0 _ q0) (also (decimal i1) (decimal i2 ∷ premise_words numbers) (plain_at i1 _ q1) (also (decimal i2) (premise_words numbers) (plain_at i2 _ q2) (plain_premises numbers premises are))))
  plain_row (rows.declaration_row {c = c} {l = l} i1 premises numbers q0 q1 are) = also (keyword_text rows.DeclarationWord) (constant_word c ∷ decimal i1 ∷ premise_words numbers) refl (also (constant_word c) (decimal i1 ∷ premise_words numbers) (plain_constant c q0) (also (decimal i1) (premise_words numbers) (plain_class i1 l q1) (plain_premises numbers premises are)))
  plain_row (rows.same_declaration_row {c = c} {l = l} {d = d} i1 premises numbers q0 q1 q2 are) = also (keyword_text rows.SameDeclarationWord) (constant_word c ∷ decimal i1 ∷ constant_word d ∷ premise_words numbers) refl (also (constant_word c) (decimal i1 ∷ constant_word d ∷ premise_words numbers) (plain_constant c q0) (also (decimal i1) (constant_word d ∷ premise_words numbers) (plain_class i1 l q1) (also (constant_word d) (premise_words numbers) (plain_constant d q2) (plain_premises numbers premises are))))
  plain_row (rows.term_declaration_row {c = c} {l = l} i1 i2 premises numbers q0 q1 q2 are) = also (keyword_text rows.TermDeclarationWord) (constant_word c ∷ decimal i1 ∷ decimal i2 ∷ premise_words numbers) refl (also (constant_word c) (decimal i1 ∷ decimal i2 ∷ premise_words numbers) (plain_constant c q0) (also (decimal i1) (decimal i2 ∷ premise_words numbers) (plain_class i1 l q1) (also (decimal i2) (premise_words numbers) (plain_at i2 _ q2) (plain_premises numbers premises are))))
  plain_row (rows.family_declaration_row {c = c} {l = l} {n = n} i1 i3 premises numbers q0 q1 q2 q3 are) = also (keyword_text rows.FamilyDeclarationWord) (constant_word c ∷ decimal i1 ∷ decimal n ∷ decimal i3 ∷ premise_words numbers) refl (also (constant_word c) (decimal i1 ∷ decimal n ∷ decimal i3 ∷ premise_words numbers) (plain_constant c q0) (also (decimal i1) (decimal n ∷ decimal i3 ∷ premise_words numbers) (plain_class i1 l q1) (also (decimal n) (decimal i3 ∷ premise_words numbers) (plain_number n (short_fits n q2)) (also (decimal i3) (premise_words numbers) (plain_at i3 _ q3) (plain_premises numbers premises are)))))

  pub plain_words : {line : Line} {words : List Word} → IsWritten lines line words → ArePlain words
  plain_words u =
      let r = row_of lines few u in
      subst ArePlain (sym r.words_are) (plain_row r.row)

-- plain words are free of each of the two bytes
weaker : (p q : ℕ → Bool) → ((b : ℕ) → p b ≡ true → q b ≡ true) → (word : Word) → list_all p word ≡ true → list_all q word ≡ true
weaker p q h [] g = refl
weaker p q h (b ∷ word) g =
    let r = and_parts (p b) (list_all p word) g in
    both (h b r.0) (weaker p q h word r.1)

weaker_words : (p q : ℕ → Bool) → ((b : ℕ) → p b ≡ true → q b ≡ true) → (words : List Word) → list_all (λ word. list_all p word) words ≡ true → list_all (λ word. list_all q word) words ≡ true
weaker_words p q h [] g = refl
weaker_words p q h (word ∷ words) g =
    let r = and_parts (list_all p word) (list_all (λ w. list_all p w) words) g in
    both (weaker p q h word r.0) (weaker_words p q h words r.1)

pub without_feeds : (words : List Word) → ArePlain words → AreFree 10 words
without_feeds = weaker_words is_plain (λ b. not (b == 10)) (λ b h. (and_parts (not (b == 10)) (not (b == 32)) h).0)

pub without_spaces : (words : List Word) → ArePlain words → AreFree 32 words
without_spaces = weaker_words is_plain (λ b. not (b == 32)) (λ b h. (and_parts (not (b == 10)) (not (b == 32)) h).1)
