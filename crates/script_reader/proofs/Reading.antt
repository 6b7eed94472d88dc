-- A line that is read piece by piece.
use Rattle.std.proofs.Common.{◌≡◌, ℕ, ◌+◌, ◌<◌, Bool, true, false, List, [], ◌∷◌, ◌++◌, length, take, drop, get_or, refl, sym, ap, ◌∙◌, subst, arith, append_assoc, append-nil}
use Rattle.std.proofs.Math.Seq.{take-length, drop-length}
use Rattle.std.specs.Prelude.{Some, None, IsSome}
use Rattle.std.specs.declared.option.Option.{Option}
use Rattle.std.proofs.lemmas.List.{take_more, take-append-drop, length-append, length-take}
use Rattle.mmt_outside.specs.Bytes.{preceded, ReadPrefix}
use Rattle.printing_meaning.specs.Lines.{lines_of, NoFeed}
use Rattle.run_laws.proofs.LineLemmas.{NoFeed-append, lines_of-last}
use Rattle.run_laws.proofs.TextLemmas.{first_line-feed}
use Rattle.script_reader.specs.Pieces.{EndsInFeed, MovesFront, ReadsLine}
use Rattle.script_reader.specs.Texts.{StaysTold}
use Rattle.script_reader.specs.declared.line.LineEnd.{LineEnd}
use Rattle.script_reader.specs.declared.line.LineEnd.TheVariants.{Feed}
use Rattle.mmt_outside.proofs.Bytes.{preceded-nil}

pub preceded-append : (xs ys : List ℕ) (left : Option (List ℕ)) → preceded (xs ++ ys) left ≡ preceded xs (preceded ys left)
preceded-append xs ys None = refl
preceded-append xs ys (Some bytes) = ap (λ (bs : List ℕ). Some bs) (append_assoc xs ys bytes)

-- a first part of a line was read, without a line feed
pub record ReadsPart (before after : Option (List ℕ)) (line now : List ℕ) : Type 0 where
  pub piece : List ℕ
  pub grows : now ≡ line ++ piece
  pub bytes : before ≡ preceded piece after
  pub plain : NoFeed piece

pub ReadsPart-nil : (before : Option (List ℕ)) (line : List ℕ) → ReadsPart before before line line
ReadsPart-nil before line = record { piece = []; grows = sym (append-nil line); bytes = sym (preceded-nil before); plain = tt }

pub EndsInFeed-append : (xs ys : List ℕ) → NoFeed xs → EndsInFeed ys → EndsInFeed (xs ++ ys)
EndsInFeed-append xs ys plain ends =
    record { front = xs ++ ends.front; plain = NoFeed-append xs ends.front plain ends.plain; is = ap (λ (bs : List ℕ). xs ++ bs) ends.is ∙ sym (append_assoc xs ends.front (10 ∷ [])) }

-- after a front of the buffer that has no feed
pub ReadsPart-more : (before : Option (List ℕ)) (buffer rest : List ℕ) (left : Option (List ℕ)) (line now next : List ℕ)
    → ReadsPart before (preceded buffer left) line now → MovesFront buffer rest now next false → ReadsPart before (preceded rest left) line next
ReadsPart-more before buffer rest left line now next part moves = record {
  piece = part.piece ++ moves.piece;
  grows = moves.grows ∙ ap (λ (bs : List ℕ). bs ++ moves.piece) part.grows ∙ append_assoc line part.piece moves.piece;
  bytes = part.bytes ∙ ap (λ (bs : List ℕ). preceded part.piece (preceded bs left)) moves.shrinks
      ∙ ap (λ (bs : Option (List ℕ)). preceded part.piece bs) (preceded-append moves.piece rest left)
      ∙ sym (preceded-append part.piece moves.piece (preceded rest left));
  plain = NoFeed-append part.piece moves.piece part.plain moves.part;
}

-- after a front that ends in a feed
pub ReadsLine-feed : (before : Option (List ℕ)) (buffer rest : List ℕ) (left : Option (List ℕ)) (line now next : List ℕ) (most : ℕ)
    → ReadsPart before (preceded buffer left) line now → MovesFront buffer rest now next true → ReadsLine before (preceded rest left) line next most Feed
ReadsLine-feed before buffer rest left line now next most part moves = record {
  piece = part.piece ++ moves.piece;
  grows = moves.grows ∙ ap (λ (bs : List ℕ). bs ++ moves.piece) part.grows ∙ append_assoc line part.piece moves.piece;
  bytes = part.bytes ∙ ap (λ (bs : List ℕ). preceded part.piece (preceded bs left)) moves.shrinks
      ∙ ap (λ (bs : Option (List ℕ)). preceded part.piece bs) (preceded-append moves.piece rest left)
      ∙ sym (preceded-append part.piece moves.piece (preceded rest left));
  ends = EndsInFeed-append part.piece moves.piece part.plain moves.part;
}

-- the front of a buffer, without a feed or with one
pub moves_all : (bytes line now : List ℕ) → NoFeed bytes → now ≡ line ++ take (length bytes) bytes → MovesFront bytes (drop (length bytes) bytes) line now false
moves_all bytes line now plain grows = record {
  piece = bytes;
  grows = grows ∙ ap (λ (bs : List ℕ). line ++ bs) (take-length bytes);
  shrinks = sym (ap (λ (bs : List ℕ). bytes ++ bs) (drop-length bytes) ∙ append-nil bytes);
  part = plain;
  progress = λ some. some;
}

pub moves_line : (bytes line now : List ℕ) (i : ℕ) → i < length bytes → NoFeed (take i bytes) → get_or bytes i 0 ≡ 10
    → now ≡ line ++ take (i + 1) bytes → MovesFront bytes (drop (i + 1) bytes) line now true
moves_line bytes line now i lt plain feed grows = record {
  piece = take (i + 1) bytes;
  grows = grows;
  shrinks = sym (take-append-drop (i + 1) bytes);
  part = record { front = take i bytes; plain = plain; is = take_more bytes i 0 lt ∙ ap (λ (b : ℕ). take i bytes ++ (b ∷ [])) feed };
  progress = λ some. omega (arith, length-take (i + 1) bytes);
}

pub MovesFront-longer : (before after line now : List ℕ) (whole : Bool) → MovesFront before after line now whole → (before ≡ [] → ⊥)
    → length line < length now
MovesFront-longer [] after line now whole moves some = absurd (some refl)
MovesFront-longer (b ∷ bs) after line now whole moves some =
    let longer : 0 < length moves.piece = moves.progress (omega arith) in
    omega (arith, ap length moves.grows, length-append line moves.piece)

-- a line that was read from its begin is the piece
pub piece_is : (before after : Option (List ℕ)) (empty now : List ℕ) (most : ℕ) (end : LineEnd)
    → empty ≡ [] → (read : ReadsLine before after empty now most end) → read.piece ≡ now
piece_is before after empty now most end none read = sym (read.grows ∙ ap (λ (bs : List ℕ). bs ++ read.piece) none)

-- a line with its feed is the first of the lines
pub ends_in_feed-first : (line : List ℕ) → EndsInFeed line → (rest : List ℕ) → lines_of (line ++ rest) ≡ line ∷ lines_of rest
ends_in_feed-first line ends rest =
    subst (λ (l : List ℕ). lines_of (l ++ rest) ≡ l ∷ lines_of rest) (sym ends.is) (first_line-feed ends.front rest ends.plain)

-- and so is one without, where the input ends behind it
pub last_first : (piece rest : List ℕ) → NoFeed piece → (piece ≡ [] → ⊥) → rest ≡ [] → lines_of (piece ++ rest) ≡ piece ∷ lines_of rest
unfolding lines_of
last_first [] rest plain some none = absurd (some refl)
last_first (b ∷ bs) rest plain some none =
    subst (λ (r : List ℕ). lines_of ((b ∷ bs) ++ r) ≡ (b ∷ bs) ∷ lines_of r) (sym none)
    (ap (λ (l : List ℕ). lines_of l) (append-nil (b ∷ bs)) ∙ lines_of-last b bs plain)

pub stays_told : (taken : List ℕ) (before now : Option (List ℕ)) → before ≡ preceded taken now → StaysTold before now
stays_told taken before None e told = subst (λ (o : Option (List ℕ)). IsSome o) e told
stays_told taken before (Some rest) e told = refl

-- what is read of a line is a first part of what is to come
pub part_read : (before after : Option (List ℕ)) (line now : List ℕ) → ReadsPart before after line now → ReadPrefix before after
part_read before after line now part = record { piece = part.piece; read = part.bytes }

pub line_read : (before after : Option (List ℕ)) (line now : List ℕ) (most : ℕ) (end : LineEnd) → ReadsLine before after line now most end → ReadPrefix before after
line_read before after line now most end reads = record { piece = reads.piece; read = reads.bytes }
