-- Rows, run by run.
use Rattle.std.proofs.Common.{◌≡◌, ℕ, suc, ◌+◌, ◌≤◌, Bool, true, false, cond, ◌==◌, List, [], ◌∷◌, ◌++◌, length, drop, get_or, nat_lt, codes, refl, sym, ap, ◌∙◌, arith, append_assoc, append-nil, length-append, eqb-true, ne_eqb, true≢false}
use Rattle.std.specs.List.{list_all, list_any, slice_range}
use Rattle.std.proofs.lemmas.List.Folds.{list_all-append}
use Rattle.std.proofs.lemmas.Bool.Decides.{nat_tests}
use Rattle.std.specs.Prelude.{bytes_eq}
use Rattle.name_meaning.specs.Characters.{is_identifier_byte}
use Rattle.name_meaning.specs.Identifiers.{is_run, is_reserved}
use Rattle.text_meaning.specs.Bytes.{dot, begins}
use Rattle.text_meaning.specs.Tokens.{Kind, Mark, Ident, token, Stray, run_kind, row_kind, dotted, spelled}
use Rattle.text_meaning.specs.Cut.{is_row, ends_row}
use Rattle.text_meaning.specs.Cutting.{Between, ahead, cut_on}
use Rattle.token_laws.proofs.CutFollows.{or_front, or_back, row_first, run_front}
use Rattle.twelf_lexer.specs.Scans.{IsFront}
use Rattle.twelf_lexer.specs.Rows.{IsRow, row_goes_on}
use Rattle.twelf_lexer.specs.Advances.{Advances}
use Rattle.twelf_lexer.specs.Lexemes.{runs, runs_behind}
use Rattle.twelf_lexer.proofs.Places.{Stands, begins_at, front_length, front_parts, boundary_before}
use Rattle.list_laws.proofs.Booleans.{and_second, and_first}
use Rattle.token_laws.proofs.Bytes.{ends_row_begins}
use Rattle.token_laws.proofs.Spans.{row_some}
use Rattle.list_laws.proofs.Places.{here_and_on}

-- ---- whether a row goes on

pub row_goes : (text : List ℕ) (at : ℕ) → begins (λ b. b == 46) (drop at text) ≡ true → row_goes_on (drop at text) ≡ begins is_identifier_byte (drop (at + 1) text)
row_goes text at h =
    let s = begins_at (λ b. b == 46) text at h in
    ap row_goes_on (here_and_on text at s.within) ∙ rw s.passes refl

pub row_stops : (bs : List ℕ) → begins (λ b. b == 46) bs ≡ false → row_goes_on bs ≡ false
row_stops [] h = refl
row_stops (b ∷ bs) h = rw h refl

pub row_is_over : (bs : List ℕ) → begins is_identifier_byte bs ≡ false → row_goes_on bs ≡ false → ends_row bs ≡ true
row_is_over [] h k = refl
row_is_over (b ∷ bs) h k = rw (h, k) refl

-- ---- runs

pub front_runs : (text : List ℕ) (at to : ℕ) → IsFront is_identifier_byte text at to → begins is_identifier_byte (drop at text) ≡ true → is_run (slice_range text at to) ≡ true
front_runs text at to f h = go (slice_range text at to) (front_parts text at to f.forward) f.passes
  where
    go : (w : List ℕ) → drop at text ≡ w ++ drop to text → list_all is_identifier_byte w ≡ true → is_run w ≡ true
    go [] e p = absurd (true≢false (sym h ∙ ap (begins is_identifier_byte) e ∙ f.ends))
    go (b ∷ w) e p = rw (ne_eqb (suc (length w)) 0 (λ e. absurd cc)) p

-- two longest runs of one text are one
pub one_run : (v w r s : List ℕ) → v ++ r ≡ w ++ s → list_all is_identifier_byte v ≡ true → list_all is_identifier_byte w ≡ true
    → begins is_identifier_byte r ≡ false → begins is_identifier_byte s ≡ false → (v ≡ w) × (r ≡ s)
one_run [] [] r s e p q g h = (refl, e)
one_run [] (b ∷ w) r s e p q g h = absurd (true≢false (sym (and_first (is_identifier_byte b) _ q) ∙ sym (ap (begins is_identifier_byte) e) ∙ g))
one_run (b ∷ v) [] r s e p q g h = absurd (true≢false (sym (and_first (is_identifier_byte b) _ p) ∙ ap (begins is_identifier_byte) e ∙ h))
one_run (b ∷ v) (c ∷ w) r s e p q g h =
    let f : b ≡ c = cc in
    let t : v ++ r ≡ w ++ s = cc in
    let p' : list_all is_identifier_byte v ≡ true = and_second (is_identifier_byte b) (list_all is_identifier_byte v) p in
    let q' : list_all is_identifier_byte w ≡ true = and_second (is_identifier_byte c) (list_all is_identifier_byte w) q in
    let i = one_run v w r s t p' q' g h in
    (rw (f, i.0) refl, i.1)

-- ---- rows

pub row_begins : (text : List ℕ) (at to : ℕ) → IsFront is_identifier_byte text at to → begins is_identifier_byte (drop at text) ≡ true → IsRow text at to (slice_range text at to ∷ [])
row_begins text at to f h =
    let w = slice_range text at to in
    record {
      within = f.within;
      length_is = omega (arith, ap length (append-nil w), front_length text at to f.forward f.within, f.forward);
      parts = front_parts text at to f.forward ∙ ap (λ l. l ++ drop to text) (sym (append-nil w));
      runs = rw (front_runs text at to f h) refl;
    }

dotted-snoc : (vs : List (List ℕ)) (w : List ℕ) → dotted (vs ++ (w ∷ [])) ≡ dotted vs ++ (dot ∷ w)
dotted-snoc [] w = ap (λ l. dot ∷ l) (append-nil w)
dotted-snoc (v ∷ vs) w = ap (λ l. dot ∷ (v ++ l)) (dotted-snoc vs w) ∙ ap (λ l. dot ∷ l) (sym (append_assoc v (dotted vs) (dot ∷ w)))

spelled-snoc : (ws : List (List ℕ)) (w : List ℕ) → is_row ws ≡ true → spelled (ws ++ (w ∷ [])) ≡ spelled ws ++ (dot ∷ w)
spelled-snoc [] w h = absurd (true≢false (sym h))
spelled-snoc (v ∷ vs) w h = ap (λ l. v ++ l) (dotted-snoc vs w) ∙ sym (append_assoc v (dotted vs) (dot ∷ w))

is_row-snoc : (ws : List (List ℕ)) (w : List ℕ) → is_row ws ≡ true → is_run w ≡ true → is_row (ws ++ (w ∷ [])) ≡ true
is_row-snoc [] w h k = rw k refl
is_row-snoc (v ∷ vs) w h k = list_all-append is_run (v ∷ vs) (w ∷ []) ∙ rw (h, k) refl

-- a row with one more run, behind a dot
pub row_grows : (text : List ℕ) (at to next : ℕ) (ws : List (List ℕ)) → IsRow text at to ws → Stands (λ b. b == 46) text to → IsFront is_identifier_byte text (to + 1) next
    → begins is_identifier_byte (drop (to + 1) text) ≡ true → IsRow text at next (ws ++ (slice_range text (to + 1) next ∷ []))
row_grows text at to next ws r s f h =
    let w = slice_range text (to + 1) next in
    let is_dot : get_or text to 0 ≡ dot = eqb-true (get_or text to 0) 46 s.passes in
    let spell = spelled-snoc ws w r.runs in
    let here : drop to text ≡ dot ∷ (w ++ drop next text) = here_and_on text to s.within ∙ ap (λ b. b ∷ drop (to + 1) text) is_dot ∙ ap (λ l. dot ∷ l) (front_parts text (to + 1) next f.forward) in
    let len : length (spelled (ws ++ (w ∷ []))) ≡ length (spelled ws) + suc (length w) = ap length spell ∙ length-append (spelled ws) (dot ∷ w) in
    record {
      within = f.within;
      length_is = omega (arith, len, r.length_is, front_length text (to + 1) next f.forward f.within, f.forward);
      parts = r.parts ∙ ap (λ l. spelled ws ++ l) here ∙ sym (append_assoc (spelled ws) (dot ∷ w) (drop next text)) ∙ ap (λ l. l ++ drop next text) (sym spell);
      runs = is_row-snoc ws w r.runs (front_runs text (to + 1) next f h);
    }

-- over the longest row
pub row_advances : (text : List ℕ) (at to : ℕ) (ws : List (List ℕ)) → IsRow text at to ws → ends_row (drop to text) ≡ true → Advances text at to (token at to (row_kind ws) ∷ [])
row_advances text at to ws r e =
    let cut = ap (cut_on Between at) r.parts ∙ row_first at ws (drop to text) r.runs e in
    record {
      forward = omega (arith, r.length_is, row_some ws r.runs);
      within = r.within;
      boundary = boundary_before text to r.within (ends_row_begins (drop to text) e);
      cut = cut ∙ ap (λ n. ahead (token at n (row_kind ws) ∷ []) (cut_on Between n (drop to text))) (sym r.length_is);
    }

-- a row without reserved words is an identifier
pub free_run : (w : List ℕ) → is_reserved w ≡ false → run_kind w ≡ Ident (w ∷ [])
free_run w h =
    let a : bytes_eq w (codes "type") ≡ false = or_front _ _ h in
    let h1 = or_back (bytes_eq w (codes "type")) _ h in
    let b : bytes_eq w (codes "->") ≡ false = or_front _ _ h1 in
    let h2 = or_back (bytes_eq w (codes "->")) _ h1 in
    let c : bytes_eq w (codes "<-") ≡ false = or_front _ _ h2 in
    let h3 = or_back (bytes_eq w (codes "<-")) _ h2 in
    let d : bytes_eq w (codes "=") ≡ false = or_front _ _ h3 in
    let h4 = or_back (bytes_eq w (codes "=")) _ h3 in
    let e : bytes_eq w (codes "_") ≡ false = or_front _ _ h4 in
    conds (bytes_eq w (codes "type")) (bytes_eq w (codes "->")) (bytes_eq w (codes "<-")) (bytes_eq w (codes "=")) (bytes_eq w (codes "_")) _ _ _ _ _ (Ident (w ∷ [])) a b c d e
  where
    conds : (p q r s t : Bool) (k l m n o z : Kind) → p ≡ false → q ≡ false → r ≡ false → s ≡ false → t ≡ false → cond p k (cond q l (cond r m (cond s n (cond t o z)))) ≡ z
    conds p q r s t k l m n o z a b c d e = rw (a, b, c, d, e) refl

pub free_row : (ws : List (List ℕ)) → is_row ws ≡ true → list_any is_reserved ws ≡ false → row_kind ws ≡ Ident ws
free_row [] h f = absurd (true≢false (sym h))
free_row (w ∷ []) h f = free_run w (or_front _ _ f)
free_row (w ∷ v ∷ vs) h f = rw f refl

-- a row of several runs with a reserved word is stray
pub stray_row : (ws : List (List ℕ)) → nat_lt 1 (length ws) ≡ true → list_any is_reserved ws ≡ true → row_kind ws ≡ Mark Stray
stray_row [] h f = absurd (true≢false (sym h))
stray_row (w ∷ []) h f = absurd (true≢false (sym h))
stray_row (w ∷ v ∷ vs) h f = rw f refl

-- the bytes of a row
same_front : (a b c d : List ℕ) → length a ≡ length b → a ++ c ≡ b ++ d → a ≡ b
same_front [] [] c d l e = refl
same_front [] (y ∷ b) c d l e = absurd cc
same_front (x ∷ a) [] c d l e = absurd cc
same_front (x ∷ a) (y ∷ b) c d l e = let f : x ≡ y = cc in let l' : length a ≡ length b = cc in let t : a ++ c ≡ b ++ d = cc in let g = same_front a b c d l' t in rw (f, g) refl

pub row_bytes : (text : List ℕ) (at to : ℕ) (ws : List (List ℕ)) → IsRow text at to ws → slice_range text at to ≡ spelled ws
row_bytes text at to ws r =
    let forward : at ≤ to = omega (arith, r.length_is) in
    let len : length (slice_range text at to) ≡ length (spelled ws) = omega (arith, front_length text at to forward r.within, r.length_is) in
    same_front (slice_range text at to) (spelled ws) (drop to text) (drop to text) len (sym (front_parts text at to forward) ∙ r.parts)

-- a row of one run is that run
pub single_row : (text : List ℕ) (at to : ℕ) (ws : List (List ℕ)) → IsRow text at to ws → nat_lt 1 (length ws) ≡ false → ws ≡ slice_range text at to ∷ []
single_row text at to [] r h = absurd (true≢false (sym r.runs))
single_row text at to (w ∷ []) r h = ap (λ l. l ∷ []) (sym (row_bytes text at to (w ∷ []) r ∙ append-nil w))
single_row text at to (w ∷ v ∷ vs) r h = absurd (true≢false (sym (two (length vs)) ∙ h))
  where
    two : (n : ℕ) → nat_lt 1 (suc (suc n)) ≡ true
    two n = grind (arith, nat_tests)

-- the runs of a row are read off its bytes
not_dot : (b : ℕ) → is_identifier_byte b ≡ true → (b == dot) ≡ false
not_dot b h = ne_eqb b dot (λ e. true≢false (sym h ∙ ap is_identifier_byte e))

runs_over : (run w rest : List ℕ) → list_all is_identifier_byte w ≡ true → runs_behind run (w ++ rest) ≡ runs_behind (run ++ w) rest
runs_over run [] rest h = ap (λ r. runs_behind r rest) (sym (append-nil run))
runs_over run (b ∷ w) rest h =
    let on = runs_over (run ++ (b ∷ [])) w rest (and_second (is_identifier_byte b) (list_all is_identifier_byte w) h) ∙ ap (λ r. runs_behind r rest) (append_assoc run (b ∷ []) w) in
    rw (not_dot b (and_first (is_identifier_byte b) _ h)) on

runs_dotted : (run : List ℕ) (ws : List (List ℕ)) → list_all is_run ws ≡ true → runs_behind run (dotted ws) ≡ run ∷ ws
runs_dotted run [] h = refl
runs_dotted run (w ∷ ws) h =
    ap (λ l. run ∷ l) (runs_over [] w (dotted ws) (run_front w (and_first (is_run w) (list_all is_run ws) h)) ∙ runs_dotted w ws (and_second (is_run w) (list_all is_run ws) h))

pub runs_spelled : (ws : List (List ℕ)) → is_row ws ≡ true → runs (spelled ws) ≡ ws
runs_spelled [] h = absurd (true≢false (sym h))
runs_spelled (w ∷ ws) h = runs_over [] w (dotted ws) (run_front w (and_first (is_run w) (list_all is_run ws) h)) ∙ runs_dotted w ws (and_second (is_run w) (list_all is_run ws) h)

pub row_runs : (text : List ℕ) (at to : ℕ) (ws : List (List ℕ)) → IsRow text at to ws → runs (slice_range text at to) ≡ ws
row_runs text at to ws r = ap runs (row_bytes text at to ws r) ∙ runs_spelled ws r.runs
