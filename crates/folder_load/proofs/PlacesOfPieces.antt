-- The places of a file's division stand within the file.
use Rattle.std.proofs.Common.{◌≡◌, ℕ, zero, suc, ◌≤◌, Some, slice_get, List, [], ◌∷◌, ◌++◌, length, sym, subst, arith}
use Rattle.std.proofs.lemmas.Str.{utf8_valid_len_le}
use Rattle.text_meaning.specs.Tokens.{Token, sign, EndSign, DotSign}
use Rattle.text_meaning.specs.Cut.{Lexed, Tokens, NotUtf8, OpenComment, IsLexed}
use Rattle.text_meaning.specs.Grammar.{simple, join}
use Rattle.text_meaning.specs.Splitting.{Piece, Division, Pieces, SyntaxFault, UnsupportedFault, before_division, Divides, no_more, other_percent, no_module, no_name, never_closed, no_dot, piece, IsDivision, FileDivides}
use Rattle.token_laws.proofs.Spans.{tokens_stand_well, open_within}
use Rattle.place_laws.proofs.Derived.{Rises, rises_forward, parted}
use Rattle.place_laws.proofs.ReadingPlaces.{ended}
use Rattle.folder_load.specs.Ahead.{PieceStands, PiecesStand}

-- The pieces stand within so many bytes, and so does the place of a fault.
abbrev pub DivisionStands : ℕ → Division → Type 0
DivisionStands bytes (Pieces pieces) = PiecesStand bytes pieces
DivisionStands bytes (SyntaxFault at) = at ≤ bytes
DivisionStands bytes (UnsupportedFault at) = at ≤ bytes

before_stands : (bytes : ℕ) (p : Piece) (d : Division) → PieceStands bytes p → DivisionStands bytes d → DivisionStands bytes (before_division p d)
before_stands bytes p (Pieces pieces) h k = (h, k)
before_stands bytes p (SyntaxFault at) h k = k
before_stands bytes p (UnsupportedFault at) h k = k

first_within : (from : ℕ) (t : Token) (rest : List Token) (bytes : ℕ) → Rises from (t ∷ rest) bytes → t.span.from ≤ bytes
first_within from t rest bytes r = let end = rises_forward t.span.to rest bytes r.2 in let forward = r.1 in omega (arith, end, forward)

middle_within : (from : ℕ) (body : List Token) (t : Token) (rest : List Token) (bytes : ℕ) → Rises from (body ++ (t ∷ rest)) bytes → t.span.from ≤ bytes
middle_within from body t rest bytes r = let p = parted from body (t ∷ rest) bytes r in first_within p.middle t rest bytes p.back

divides_stand : {ts : List Token} {division : Division} → Divides ts division → (from bytes : ℕ) → Rises from ts bytes → DivisionStands bytes division
divides_stand no_more from bytes r = tt
divides_stand (other_percent {t = t} {rest = rest} h) from bytes r = first_within from t rest bytes r
divides_stand (no_module {t = t} {rest = rest} h k l) from bytes r = first_within from t rest bytes r
divides_stand (no_name {w = w} {t = t} {rest = rest} h k) from bytes r = first_within w.span.to t rest bytes r.2
divides_stand (never_closed body z {w = w} {s = s} h k) from bytes r = middle_within s.to body (sign z EndSign) [] bytes (r.2).2
divides_stand (no_dot body rest t {w = w} {s = s} h k l) from bytes r = middle_within s.to body t rest bytes (r.2).2
divides_stand (piece body rest d {w = w} {s = s} {n = n} {o = o} h k divides) from bytes r =
    let p = parted s.to body (sign d DotSign ∷ rest) bytes (r.2).2 in
    let passed = rises_forward s.to body p.middle p.front in
    let end = rises_forward d.to rest bytes (p.back).2 in
    let a = r.1 in
    let b = (r.2).0 in
    let c = (r.2).1 in
    let e = (p.back).0 in
    let f = (p.back).1 in
    before_stands bytes (record { name = simple s n; span = join w.span d }) o
    (record { name = omega (arith, c, passed, e, f, end); forward = omega (arith, a, b, c, passed, e, f); within = omega (arith, end) })
    (divides_stand divides d.to bytes (p.back).2)

lexed_stands : (text : List ℕ) (lexed : Lexed) (division : Division) → IsLexed text lexed → IsDivision lexed division → DivisionStands (length text) division
lexed_stands text (Tokens ts end) division l h =
    let s = tokens_stand_well text ts end l in
    divides_stand h 0 (length text) (ended 0 ts end (length text) s.order s.within)
lexed_stands text (NotUtf8 at) division l h = subst (DivisionStands (length text)) (sym h) (let n = utf8_valid_len_le text in let e = l.1 in omega (arith, n, e))
lexed_stands text (OpenComment at) division l h = subst (DivisionStands (length text)) (sym h) (open_within text (l.1).0 at (l.1).1)

pub division_stands : (text : List ℕ) (division : Division) → FileDivides text division → DivisionStands (length text) division
division_stands text division h = lexed_stands text h.0 division h.1 h.2

pub piece_stands : (bytes : ℕ) (pieces : List Piece) (i : ℕ) (p : Piece) → PiecesStand bytes pieces → slice_get pieces i ≡ Some p → PieceStands bytes p
piece_stands bytes [] i p h here = absurd (cc)
piece_stands bytes (q ∷ pieces) zero p h here = let e : q ≡ p = cc in subst (PieceStands bytes) e h.0
piece_stands bytes (q ∷ pieces) (suc i) p h here = piece_stands bytes pieces i p h.1 here
