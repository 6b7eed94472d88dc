-- The loops over the runs of a row.
use Rattle.std.proofs.Common.{◌≡◌, ℕ, suc, ◌+◌, ◌≤◌, ◌<◌, Bool, true, false, not, ◌||◌, ◌==◌, List, [], ◌∷◌, ◌++◌, length, drop, get_or, nat_lt, refl, sym, ap, subst, ◌∙◌, arith, append_assoc, length-append, eq-eqb, true≢false}
use Rattle.std.specs.List.{list_all, list_any, slice_range}
use Rattle.std.proofs.lemmas.Bool.Decides.{nat_tests}
use Rattle.name_meaning.specs.Characters.{is_identifier_byte}
use Rattle.name_meaning.specs.Identifiers.{is_run, is_reserved, is_identifier}
use Rattle.text_meaning.specs.Bytes.{dot, begins}
use Rattle.text_meaning.specs.Tokens.{dotted}
use Rattle.text_meaning.specs.Cut.{is_row, ends_row}
use Rattle.token_laws.proofs.CutFollows.{or_front, or_back}
use Rattle.twelf_lexer.specs.Scans.{IsFront}
use Rattle.twelf_lexer.specs.Rows.{IsRow, IsLongestRow, row_goes_on}
use Rattle.twelf_lexer.proofs.Places.{Stands, begins_at, begins_in, front_length, front_parts}
use Rattle.twelf_lexer.proofs.RowSteps.{row_is_over, one_run, row_begins, row_grows}
use Rattle.list_laws.proofs.Booleans.{and_second, and_first}
use Rattle.token_laws.proofs.Bytes.{ends_row_begins}
use Rattle.std.proofs.Math.Bool.{or-false}
use Rattle.list_laws.proofs.Places.{here_and_on}

-- ---- to the end of the row

pub record RowSoFar (text : List ℕ) (at to : ℕ) (several reserved : Bool) : Type 0 where
  pub words : List (List ℕ)
  pub is_row : IsRow text at to words
  pub ends : begins is_identifier_byte (drop to text) ≡ false
  pub several_is : several ≡ nat_lt 1 (length words)
  pub reserved_is : reserved ≡ list_any is_reserved words

run_stands : (text : List ℕ) (at : ℕ) → at < length text → is_identifier_byte (get_or text at 0) ≡ true → begins is_identifier_byte (drop at text) ≡ true
run_stands text at h e = begins_in is_identifier_byte text at h ∙ e

pub row_so_far : (text : List ℕ) (at to : ℕ) (reserved : Bool) → at < length text → is_identifier_byte (get_or text at 0) ≡ true → IsFront is_identifier_byte text at to
    → reserved ≡ is_reserved (slice_range text at to) → RowSoFar text at to false reserved
row_so_far text at to reserved h e f r =
    record {
      words = slice_range text at to ∷ [];
      is_row = row_begins text at to f (run_stands text at h e);
      ends = f.ends;
      several_is = refl;
      reserved_is = r ∙ sym (or-false (is_reserved (slice_range text at to)));
    }

-- what it is for a row to go on
pub record GoesOn (text : List ℕ) (to : ℕ) : Type 0 where
  pub stands : Stands (λ b. b == 46) text to
  pub run : begins is_identifier_byte (drop (to + 1) text) ≡ true

pub goes_on_is : (text : List ℕ) (to : ℕ) → row_goes_on (drop to text) ≡ true → GoesOn text to
goes_on_is text to h =
    let s = begins_at (λ b. b == 46) text to (first (drop to text) h) in
    record { stands = s; run = second (drop to text) (get_or text to 0) (drop (to + 1) text) (here_and_on text to s.within) h }
  where
    first : (bs : List ℕ) → row_goes_on bs ≡ true → begins (λ b. b == 46) bs ≡ true
    first [] h = absurd (true≢false (sym h))
    first (b ∷ bs) h = and_first (b == dot) _ h

    second : (bs : List ℕ) (b : ℕ) (cs : List ℕ) → bs ≡ b ∷ cs → row_goes_on bs ≡ true → begins is_identifier_byte cs ≡ true
    second bs b cs e h = and_second (b == dot) _ (sym (ap row_goes_on e) ∙ h)

any-snoc : (ws : List (List ℕ)) (w : List ℕ) → list_any is_reserved (ws ++ (w ∷ [])) ≡ (list_any is_reserved ws || is_reserved w)
any-snoc [] w = or-false (is_reserved w)
any-snoc (v ∷ vs) w = ap (λ b. is_reserved v || b) (any-snoc vs w) ∙ assoc (is_reserved v) (list_any is_reserved vs) (is_reserved w)
  where
    assoc : (a b c : Bool) → (a || (b || c)) ≡ ((a || b) || c)
    assoc true b c = refl
    assoc false b c = refl

several_now : (ws : List (List ℕ)) (w : List ℕ) → is_row ws ≡ true → true ≡ nat_lt 1 (length (ws ++ (w ∷ [])))
several_now [] w h = absurd (true≢false (sym h))
several_now (v ∷ vs) w h = sym (two (length (vs ++ (w ∷ []))) (omega (arith, length-append vs (w ∷ []))))
  where
    two : (n : ℕ) → 0 < n → nat_lt 1 (suc n) ≡ true
    two n h = grind (arith, nat_tests)

pub row_goes_further : (text : List ℕ) (at to next : ℕ) (several reserved here : Bool) → RowSoFar text at to several reserved → row_goes_on (drop to text) ≡ true → IsFront is_identifier_byte text (to + 1) next
    → here ≡ is_reserved (slice_range text (to + 1) next) → RowSoFar text at next true (reserved || here)
row_goes_further text at to next several reserved here r h f e =
    let g = goes_on_is text to h in
    record {
      words = r.words ++ (slice_range text (to + 1) next ∷ []);
      is_row = row_grows text at to next r.words r.is_row g.stands f g.run;
      ends = f.ends;
      several_is = several_now r.words (slice_range text (to + 1) next) r.is_row.runs;
      reserved_is = ap (λ b. b || here) r.reserved_is ∙ ap (λ b. list_any is_reserved r.words || b) e ∙ sym (any-snoc r.words (slice_range text (to + 1) next));
    }

pub row_is_longest : (text : List ℕ) (at to : ℕ) (several reserved : Bool) → RowSoFar text at to several reserved → row_goes_on (drop to text) ≡ false
    → IsLongestRow text at (record { to = to; several = several; reserved = reserved })
row_is_longest text at to several reserved r h = record { words = r.words; is_row = r.is_row; ends = row_is_over (drop to text) r.ends h; several = r.several_is; reserved = r.reserved_is }

-- ---- the path of a row

pub record PathSoFar (text : List ℕ) (at to end : ℕ) (path : List (List ℕ)) : Type 0 where
  pub rest : List (List ℕ)
  pub is_row : IsRow text at end path
  pub free : list_any is_reserved path ≡ false
  pub left : drop end text ≡ dotted rest ++ drop to text
  pub length_is : to ≡ end + length (dotted rest)
  pub within : to ≤ length text
  pub runs : list_all is_run rest ≡ true
  pub rest_free : list_any is_reserved rest ≡ false
  pub over : begins is_identifier_byte (drop to text) ≡ false

-- the first run of a row, as it is found
first_run : (text : List ℕ) (at end : ℕ) (w : List ℕ) (rest : List ℕ) → IsFront is_identifier_byte text at end → drop at text ≡ w ++ rest → list_all is_identifier_byte w ≡ true → begins is_identifier_byte rest ≡ false
    → (slice_range text at end ≡ w) × (drop end text ≡ rest)
first_run text at end w rest f e i n = one_run (slice_range text at end) w (drop end text) rest (sym (front_parts text at end f.forward) ∙ e) f.passes i f.ends n

dotted_begins : (ws : List (List ℕ)) (rest : List ℕ) → begins is_identifier_byte rest ≡ false → begins is_identifier_byte (dotted ws ++ rest) ≡ false
dotted_begins [] rest h = h
dotted_begins (w ∷ ws) rest h = refl

pub an_identifier : (w : List ℕ) → is_run w ≡ true → is_reserved w ≡ false → is_identifier w ≡ true
an_identifier w h f = rw (h, f) refl

pub record FirstRun (text : List ℕ) (at to end : ℕ) : Type 0 where
  pub identifier : is_identifier (slice_range text at end) ≡ true
  pub so_far : PathSoFar text at to end (slice_range text at end ∷ [])

pub path_begins : (text : List ℕ) (at to end : ℕ) (words : List (List ℕ)) → IsRow text at to words → list_any is_reserved words ≡ false → ends_row (drop to text) ≡ true → IsFront is_identifier_byte text at end → FirstRun text at to end
path_begins text at to end [] r h e f = absurd (true≢false (sym r.runs))
path_begins text at to end (w ∷ ws) r h e f =
    let over = ends_row_begins (drop to text) e in
    let run : is_run w ≡ true = and_first (is_run w) (list_all is_run ws) r.runs in
    let ids : list_all is_identifier_byte w ≡ true = and_second (not (length w == 0)) (list_all is_identifier_byte w) run in
    let here : drop at text ≡ w ++ (dotted ws ++ drop to text) = r.parts ∙ append_assoc w (dotted ws) (drop to text) in
    let found = first_run text at end w (dotted ws ++ drop to text) f here ids (dotted_begins ws (drop to text) over) in
    let free_w : is_reserved w ≡ false = or_front (is_reserved w) (list_any is_reserved ws) h in
    let begun : begins is_identifier_byte (drop at text) ≡ true = ap (begins is_identifier_byte) here ∙ starts w (dotted ws ++ drop to text) run ids in
    let len : length (slice_range text at end) ≡ length w = ap length found.0 in
    record {
      identifier = ap is_identifier found.0 ∙ an_identifier w run free_w;
      so_far = record {
        rest = ws;
        is_row = row_begins text at end f begun;
        free = ap (λ x. list_any is_reserved (x ∷ [])) found.0 ∙ or-false (is_reserved w) ∙ free_w;
        left = found.1;
        length_is = omega (arith, r.length_is, len, length-append w (dotted ws), front_length text at end f.forward f.within, f.forward);
        within = r.within;
        runs = and_second (is_run w) (list_all is_run ws) r.runs;
        rest_free = or_back (is_reserved w) (list_any is_reserved ws) h;
        over = over;
      };
    }
  where
    starts : (w rest : List ℕ) → is_run w ≡ true → list_all is_identifier_byte w ≡ true → begins is_identifier_byte (w ++ rest) ≡ true
    starts [] rest h i = absurd (true≢false (sym h))
    starts (b ∷ w) rest h i = and_first (is_identifier_byte b) _ i

-- the next run
pub record NextRun (text : List ℕ) (at to end next : ℕ) (path : List (List ℕ)) : Type 0 where
  pub stands : Stands (λ b. b == 46) text end
  pub identifier : is_identifier (slice_range text (end + 1) next) ≡ true
  pub so_far : PathSoFar text at to next (path ++ (slice_range text (end + 1) next ∷ []))

pub path_goes : (text : List ℕ) (at to end next : ℕ) (path : List (List ℕ)) → PathSoFar text at to end path → end < to → IsFront is_identifier_byte text (end + 1) next → NextRun text at to end next path
path_goes text at to end next path p h f = go p.rest p.left p.length_is p.runs p.rest_free
  where
    go : (ws : List (List ℕ)) → drop end text ≡ dotted ws ++ drop to text → to ≡ end + length (dotted ws) → list_all is_run ws ≡ true → list_any is_reserved ws ≡ false → NextRun text at to end next path
    go [] l n r g = absurd (omega (arith, n, h))
    go (w ∷ ws) l n r g =
        let in_text : end < length text = omega (arith, h, p.within) in
        let both : get_or text end 0 ∷ drop (end + 1) text ≡ dot ∷ ((w ++ dotted ws) ++ drop to text) = sym (here_and_on text end in_text) ∙ l in
        let is_dot : get_or text end 0 ≡ dot = cc in
        let tail : drop (end + 1) text ≡ (w ++ dotted ws) ++ drop to text = cc in
        let here : drop (end + 1) text ≡ w ++ (dotted ws ++ drop to text) = tail ∙ append_assoc w (dotted ws) (drop to text) in
        let run : is_run w ≡ true = and_first (is_run w) (list_all is_run ws) r in
        let ids : list_all is_identifier_byte w ≡ true = and_second (not (length w == 0)) (list_all is_identifier_byte w) run in
        let found = first_run text (end + 1) next w (dotted ws ++ drop to text) f here ids (dotted_begins ws (drop to text) p.over) in
        let free_w : is_reserved w ≡ false = or_front (is_reserved w) (list_any is_reserved ws) g in
        let stands : Stands (λ b. b == 46) text end = record { within = in_text; passes = eq-eqb (get_or text end 0) 46 is_dot } in
        let begun : begins is_identifier_byte (drop (end + 1) text) ≡ true = ap (begins is_identifier_byte) here ∙ starts w (dotted ws ++ drop to text) run ids in
        let len : length (slice_range text (end + 1) next) ≡ length w = ap length found.0 in
        record {
          stands = stands;
          identifier = ap is_identifier found.0 ∙ an_identifier w run free_w;
          so_far = record {
            rest = ws;
            is_row = row_grows text at end next path p.is_row stands f begun;
            free = any-snoc path (slice_range text (end + 1) next) ∙ both_free p.free (ap is_reserved found.0 ∙ free_w);
            left = found.1;
            length_is = omega (arith, n, len, length-append w (dotted ws), front_length text (end + 1) next f.forward f.within, f.forward);
            within = p.within;
            runs = and_second (is_run w) (list_all is_run ws) r;
            rest_free = or_back (is_reserved w) (list_any is_reserved ws) g;
            over = p.over;
          };
        }
      where
        both_free : {a b : Bool} → a ≡ false → b ≡ false → (a || b) ≡ false
        both_free e f = rw (e, f) refl

        starts : (w rest : List ℕ) → is_run w ≡ true → list_all is_identifier_byte w ≡ true → begins is_identifier_byte (w ++ rest) ≡ true
        starts [] rest h i = absurd (true≢false (sym h))
        starts (b ∷ w) rest h i = and_first (is_identifier_byte b) _ i

pub path_is_whole : (text : List ℕ) (at to end : ℕ) (path : List (List ℕ)) → PathSoFar text at to end path → to ≤ end → IsRow text at to path
path_is_whole text at to end path p h = let e : end ≡ to = omega (arith, p.length_is, h) in subst (λ n. IsRow text at n path) e p.is_row
