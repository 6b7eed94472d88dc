-- A text that is read piece by piece from a buffer and a source.
use Rattle.std.proofs.Common.{◌≡◌, ℕ, ◌+◌, ◌-◌, ◌^◌, ◌<◌, ◌≤◌, Bool, true, false, List, [], ◌∷◌, ◌++◌, ◌⊎◌, inl, inr, length, refl, sym, ap, ◌∙◌, subst, arith, append_assoc}
use Rattle.std.specs.Prelude.{Some, None, IfSome, min}
use Rattle.std.specs.declared.option.Option.{Option}
use Rattle.std.proofs.lemmas.List.{append-nil, length-append}
use Rattle.mmt_outside.specs.Bytes.{preceded}
use Rattle.printing_meaning.specs.Lines.{lines_of, NoFeed}
use Rattle.printing_meaning.specs.ScriptLines.{is_end_line, text_before, behind_end, line_after}
use Rattle.name_meaning.specs.Limits.{put_limit}
use Rattle.run_meaning.specs.ScriptCommands.{kept}
use Rattle.run_laws.proofs.LineLemmas.{NoFeed-append}
use Rattle.run_laws.proofs.TextLemmas.{IsTextSoFar, IsTextSoFar-nil, IsTextSoFar-more, EndsText, text_ends, RunsOut, text_runs_out}
use Rattle.run_laws.proofs.LongLines.{is_end_line-long, text_before-long}
use Rattle.script_reader.specs.HeldTexts.{Held, held_of, more}
use Rattle.script_reader.specs.Pieces.{EndsInFeed, ReadsLine}
use Rattle.script_reader.specs.declared.line.LineEnd.{LineEnd}
use Rattle.script_reader.specs.declared.line.LineEnd.TheVariants.{Feed, Input, Limit}
use Rattle.script_reader.specs.Texts.{IsNoEnd, ReadsPiece}
use Rattle.script_reader.specs.declared.text.TextPiece.TheVariants.{Line, Part, End, Last}
use Rattle.script_reader.proofs.HeldTexts.{more-held}
use Rattle.script_reader.proofs.Reading.{EndsInFeed-append, preceded-append, piece_is, ends_in_feed-first, last_first}
use Rattle.mmt_outside.proofs.Bytes.{preceded-nil}

-- of a line so much was read that it is no end line; or nothing
abbrev pub IsBegun : Bool → List ℕ → Type 0
IsBegun true begun = 8 ≤ length begun
IsBegun false begun = begun ≡ []

-- whole lines and the begin of a line were taken from the bytes to come, and the count went on over the lines
pub record HasText (before now : Option (List ℕ)) (line counted : ℕ) (is_begun : Bool) (held : Held) : Type 0 where
  pub whole : List ℕ
  pub begun : List ℕ
  pub lines : ℕ
  pub so_far : IsTextSoFar lines whole
  pub plain : NoFeed begun
  pub is : IsBegun is_begun begun
  pub count : min counted (2 ^ 64 - 1) ≡ min (line + lines) (2 ^ 64 - 1)
  pub holds : held ≡ held_of (whole ++ begun)
  pub bytes : before ≡ preceded (whole ++ begun) now

pub HasText-nil : (before : Option (List ℕ)) (line : ℕ) → HasText before before line line false (held_of [])
HasText-nil before line = record {
  whole = [];
  begun = [];
  lines = 0;
  so_far = IsTextSoFar-nil;
  plain = tt;
  is = refl;
  count = omega arith;
  holds = refl;
  bytes = sym (preceded-nil before);
}

-- the bytes to come begin with the whole lines and then a line of which this is the next piece
joined : (before now next : Option (List ℕ)) (whole begun piece : List ℕ) → before ≡ preceded (whole ++ begun) now → now ≡ preceded piece next
    → before ≡ preceded (whole ++ (begun ++ piece)) next
joined before now next whole begun piece first second =
    first ∙ ap (λ (bytes : Option (List ℕ)). preceded (whole ++ begun) bytes) second ∙ sym (preceded-append (whole ++ begun) piece next)
    ∙ ap (λ (bytes : List ℕ). preceded bytes next) (append_assoc whole begun piece)

holds_joined : (whole begun piece : List ℕ) (held longer : Held) → held ≡ held_of (whole ++ begun) → longer ≡ more held piece
    → longer ≡ held_of (whole ++ (begun ++ piece))
holds_joined whole begun piece held longer first second =
    second ∙ ap (λ (h : Held). more h piece) first ∙ more-held (whole ++ begun) piece ∙ ap (λ (bytes : List ℕ). held_of bytes) (append_assoc whole begun piece)

-- a line that has begun is no end line, nor is one whose only piece is none
no_end : (is_begun : Bool) (begun piece : List ℕ) → IsBegun is_begun begun → IsNoEnd is_begun piece → is_end_line (begun ++ piece) ≡ false
no_end true begun piece long other = is_end_line-long (begun ++ piece) (omega (arith, long, length-append begun piece))
no_end false begun piece none other = subst (λ (bytes : List ℕ). is_end_line (bytes ++ piece) ≡ false) (sym none) (other refl)

-- after the rest of a line
pub HasText-line : (before now next : Option (List ℕ)) (line counted : ℕ) (is_begun : Bool) (held longer : Held) → HasText before now line counted is_begun held
    → ReadsPiece now next is_begun held longer Line → HasText before next line (min (counted + 1) (2 ^ 64 - 1)) false longer
HasText-line before now next line counted is_begun held longer has reads =
    let own : List ℕ = has.begun ++ reads.piece in
    let same : (has.whole ++ own) ++ [] ≡ has.whole ++ own = append-nil (has.whole ++ own) in
    record {
      whole = has.whole ++ own;
      begun = [];
      lines = has.lines + 1;
      so_far = IsTextSoFar-more has.lines has.whole own has.so_far
          (ends_in_feed-first own (EndsInFeed-append has.begun reads.piece has.plain reads.is.0)) (no_end is_begun has.begun reads.piece has.is reads.is.1);
      plain = tt;
      is = refl;
      count = omega (arith, has.count);
      holds = holds_joined has.whole has.begun reads.piece held longer has.holds reads.is.2 ∙ ap (λ (bytes : List ℕ). held_of bytes) (sym same);
      bytes = joined before now next has.whole has.begun reads.piece has.bytes reads.bytes ∙ ap (λ (bytes : List ℕ). preceded bytes next) (sym same);
    }

-- after a part of a line
pub HasText-part : (before now next : Option (List ℕ)) (line counted : ℕ) (is_begun : Bool) (held longer : Held) → HasText before now line counted is_begun held
    → ReadsPiece now next is_begun held longer Part → HasText before next line counted true longer
HasText-part before now next line counted is_begun held longer has reads = record {
  whole = has.whole;
  begun = has.begun ++ reads.piece;
  lines = has.lines;
  so_far = has.so_far;
  plain = NoFeed-append has.begun reads.piece has.plain reads.is.0;
  is = omega (arith, reads.is.1, length-append has.begun reads.piece);
  count = has.count;
  holds = holds_joined has.whole has.begun reads.piece held longer has.holds reads.is.2;
  bytes = joined before now next has.whole has.begun reads.piece has.bytes reads.bytes;
}

-- a piece of seven bytes at most, from the begin of a line, is the end line where it says so
pub end_piece : (now next : Option (List ℕ)) (is_begun : Bool) (held : Held) (empty piece : List ℕ) (end : LineEnd) → empty ≡ [] → ReadsLine now next empty piece 8 end
    → is_begun ≡ false → is_end_line piece ≡ true → ReadsPiece now next is_begun held held End
end_piece now next is_begun held empty piece end none read first says = by end read
  where
    given : (how : LineEnd) (line : ReadsLine now next empty piece 8 how) → (EndsInFeed piece ⊎ (NoFeed piece × IfSome next (λ bytes. bytes ≡ [])))
        → ReadsPiece now next is_begun held held End
    given how line ends = record {
      piece = piece;
      bytes = line.bytes ∙ ap (λ (bytes : List ℕ). preceded bytes next) (piece_is now next empty piece 8 how none line);
      is = (ends, first, says, refl);
    }

    by : (how : LineEnd) → ReadsLine now next empty piece 8 how → ReadsPiece now next is_begun held held End
    by Feed line = given Feed line (inl (subst EndsInFeed (piece_is now next empty piece 8 Feed none line) line.ends))
    by Input line = given Input line (inr (subst NoFeed (piece_is now next empty piece 8 Input none line) line.ends.0, line.ends.1))
    by Limit line =
        let other : is_end_line piece ≡ false = is_end_line-long piece line.ends.1 in
        let no : true ≡ false = sym says ∙ other in absurd cc

-- the text grows
longer_by : (held longer : Held) (piece : List ℕ) → longer ≡ more held piece → held.total < 2 ^ 64 - 1 → 0 < length piece → held.total < longer.total
longer_by held longer piece e small some = omega (arith, ap (λ (h : Held). h.total) e)

feed_some : (piece : List ℕ) → EndsInFeed piece → 0 < length piece
feed_some piece ends = omega (arith, ap (λ (bytes : List ℕ). length bytes) ends.is, length-append ends.front (10 ∷ []))

pub line_grows : (now next : Option (List ℕ)) (is_begun : Bool) (held longer : Held) → ReadsPiece now next is_begun held longer Line
    → held.total ≤ put_limit → held.total < longer.total
line_grows now next is_begun held longer reads small = longer_by held longer reads.piece reads.is.2 (omega (arith, small)) (feed_some reads.piece reads.is.0)

pub part_grows : (now next : Option (List ℕ)) (is_begun : Bool) (held longer : Held) → ReadsPiece now next is_begun held longer Part
    → held.total ≤ put_limit → held.total < longer.total
part_grows now next is_begun held longer reads small = longer_by held longer reads.piece reads.is.2 (omega (arith, small)) (omega (arith, reads.is.1))

-- what is told of the bytes that were to come
told_by : (taken : List ℕ) (now : Option (List ℕ)) (P : List ℕ → Type 0) → ((rest : List ℕ) → now ≡ Some rest → P (taken ++ rest)) → IfSome (preceded taken now) P
told_by taken None P h = tt
told_by taken (Some rest) P h = h rest refl

-- the line that is read begins what was still to come
line_first : (piece rest : List ℕ) → (EndsInFeed piece ⊎ (NoFeed piece × (rest ≡ []))) → is_end_line piece ≡ true → lines_of (piece ++ rest) ≡ piece ∷ lines_of rest
line_first piece rest (inl ends) end = ends_in_feed-first piece ends rest
line_first [] rest (inr last) end = absurd cc
line_first (b ∷ bs) rest (inr last) end = last_first (b ∷ bs) rest last.0 (λ e. cc) last.1

-- what the whole text gives, where the bytes are the text, its end line and a rest
record WholeText (bytes : List ℕ) (line now : ℕ) (text rest : List ℕ) : Type 0 where
  pub is : text_before (lines_of bytes) ≡ text
  pub behind : behind_end (lines_of bytes) ≡ Some (lines_of rest)
  pub count : now ≡ line_after line (lines_of bytes) (lines_of rest)

whole_text : (line counted : ℕ) (text piece rest : List ℕ) (lines : ℕ) → IsTextSoFar lines text → min counted (2 ^ 64 - 1) ≡ min (line + lines) (2 ^ 64 - 1)
    → (EndsInFeed piece ⊎ (NoFeed piece × (rest ≡ []))) → is_end_line piece ≡ true
    → WholeText ((text ++ piece) ++ rest) line (min (counted + 1) (2 ^ 64 - 1)) text rest
whole_text line counted text piece rest lines so_far counts ends end =
    let ended : EndsText lines text piece rest = text_ends lines text piece rest so_far (line_first piece rest ends end) end in
    record {
      is = ended.before;
      behind = ended.behind;
      count = let more : length (lines_of ((text ++ piece) ++ rest)) ≡ lines + 1 + length (lines_of rest) = ended.lines in omega arith;
    }

-- all that is said of a text that was read
pub has_whole : (before now next : Option (List ℕ)) (line counted : ℕ) (is_begun : Bool) (held after : Held) → HasText before now line counted is_begun held
    → ReadsPiece now next is_begun held after End → held.total ≤ put_limit
    → IfSome before (λ bytes. (length (text_before (lines_of bytes)) ≤ put_limit) × (after.kept ≡ kept (text_before (lines_of bytes)))
    × IfSome next (λ rest. (behind_end (lines_of bytes) ≡ Some (lines_of rest)) × (min (counted + 1) (2 ^ 64 - 1) ≡ line_after line (lines_of bytes) (lines_of rest))))
has_whole before now next line counted is_begun held after has reads short =
    subst (λ (o : Option (List ℕ)). IfSome o P) (sym all) (told_by (has.whole ++ reads.piece) next P each)
  where
    P : List ℕ → Type 0
    P bytes = (length (text_before (lines_of bytes)) ≤ put_limit) × (after.kept ≡ kept (text_before (lines_of bytes)))
        × IfSome next (λ rest. (behind_end (lines_of bytes) ≡ Some (lines_of rest)) × (min (counted + 1) (2 ^ 64 - 1) ≡ line_after line (lines_of bytes) (lines_of rest)))

    none_begun : has.begun ≡ []
    none_begun = subst (λ (b : Bool). IsBegun b has.begun) reads.is.1 has.is

    all : before ≡ preceded (has.whole ++ reads.piece) next
    all = joined before now next has.whole has.begun reads.piece has.bytes reads.bytes ∙ ap (λ (bytes : List ℕ). preceded (has.whole ++ (bytes ++ reads.piece)) next) none_begun

    holds : held ≡ held_of has.whole
    holds = has.holds ∙ ap (λ (bytes : List ℕ). held_of (has.whole ++ bytes)) none_begun ∙ ap (λ (bytes : List ℕ). held_of bytes) (append-nil has.whole)

    small : length has.whole ≤ put_limit
    small = omega (arith, ap (λ (h : Held). h.total) holds, short)

    each : (rest : List ℕ) → next ≡ Some rest → P ((has.whole ++ reads.piece) ++ rest)
    each rest e =
        let ends : EndsInFeed reads.piece ⊎ (NoFeed reads.piece × IfSome (Some rest) (λ bytes. bytes ≡ [])) =
        subst (λ (o : Option (List ℕ)). EndsInFeed reads.piece ⊎ (NoFeed reads.piece × IfSome o (λ bytes. bytes ≡ []))) e reads.is.0 in
        let whole = whole_text line counted has.whole reads.piece rest has.lines has.so_far has.count ends reads.is.2 in (
          subst (λ (text : List ℕ). length text ≤ put_limit) (sym whole.is) small,
          ap (λ (h : Held). h.kept) (reads.is.3 ∙ holds) ∙ ap (λ (text : List ℕ). kept text) (sym whole.is),
          subst (λ (o : Option (List ℕ)). IfSome o (λ r. (behind_end (lines_of ((has.whole ++ reads.piece) ++ rest)) ≡ Some (lines_of r))
              × (min (counted + 1) (2 ^ 64 - 1) ≡ line_after line (lines_of ((has.whole ++ reads.piece) ++ rest)) (lines_of r))))
              (sym e) (whole.behind, whole.count),
        )

-- the text runs out: it is what is held, and has no end line
has_last : (before now next : Option (List ℕ)) (line counted : ℕ) (is_begun : Bool) (held longer : Held) → HasText before now line counted is_begun held
    → ReadsPiece now next is_begun held longer Last
    → IfSome before (λ bytes. (longer.total ≡ min (length (text_before (lines_of bytes))) (2 ^ 64 - 1)) × (behind_end (lines_of bytes) ≡ None))
has_last before now next line counted is_begun held longer has reads =
    subst (λ (o : Option (List ℕ)). IfSome o P) (sym (joined before now next has.whole has.begun reads.piece has.bytes reads.bytes)) (told_by (has.whole ++ (has.begun ++ reads.piece)) next P each)
  where
    P : List ℕ → Type 0
    P bytes = (longer.total ≡ min (length (text_before (lines_of bytes))) (2 ^ 64 - 1)) × (behind_end (lines_of bytes) ≡ None)

    own : List ℕ
    own = has.begun ++ reads.piece

    each : (rest : List ℕ) → next ≡ Some rest → P ((has.whole ++ own) ++ rest)
    each rest e =
        let none : rest ≡ [] = subst (λ (o : Option (List ℕ)). IfSome o (λ bytes. bytes ≡ [])) e reads.is.1 in
        let out : RunsOut has.whole own =
        text_runs_out has.lines has.whole own has.so_far (NoFeed-append has.begun reads.piece has.plain reads.is.0) (no_end is_begun has.begun reads.piece has.is reads.is.2) in
        let holds : longer ≡ held_of (has.whole ++ own) = holds_joined has.whole has.begun reads.piece held longer has.holds reads.is.3 in
        subst (λ (bytes : List ℕ). P bytes) (sym (ap (λ (r : List ℕ). (has.whole ++ own) ++ r) none ∙ append-nil (has.whole ++ own)))
        (ap (λ (h : Held). h.total) holds ∙ ap (λ (text : List ℕ). min (length text) (2 ^ 64 - 1)) (sym out.before), out.behind)

pub if_some_map : (o : Option (List ℕ)) (P Q : List ℕ → Type 0) → ((bytes : List ℕ) → P bytes → Q bytes) → IfSome o P → IfSome o Q
if_some_map None P Q f h = tt
if_some_map (Some bytes) P Q f h = f bytes h

pub has_last_long : (before now next : Option (List ℕ)) (line counted : ℕ) (is_begun : Bool) (held longer : Held) → HasText before now line counted is_begun held
    → ReadsPiece now next is_begun held longer Last → put_limit < longer.total → IfSome before (λ bytes. put_limit < length (text_before (lines_of bytes)))
has_last_long before now next line counted is_begun held longer has reads long =
    if_some_map before (λ bytes. (longer.total ≡ min (length (text_before (lines_of bytes))) (2 ^ 64 - 1)) × (behind_end (lines_of bytes) ≡ None))
    (λ bytes. put_limit < length (text_before (lines_of bytes))) (λ bytes last. omega (arith, last.0, long))
    (has_last before now next line counted is_begun held longer has reads)

pub has_last_short : (before now next : Option (List ℕ)) (line counted : ℕ) (is_begun : Bool) (held longer : Held) → HasText before now line counted is_begun held
    → ReadsPiece now next is_begun held longer Last → longer.total ≤ put_limit
    → IfSome before (λ bytes. (length (text_before (lines_of bytes)) ≤ put_limit) × (behind_end (lines_of bytes) ≡ None))
has_last_short before now next line counted is_begun held longer has reads short =
    if_some_map before (λ bytes. (longer.total ≡ min (length (text_before (lines_of bytes))) (2 ^ 64 - 1)) × (behind_end (lines_of bytes) ≡ None))
    (λ bytes. (length (text_before (lines_of bytes)) ≤ put_limit) × (behind_end (lines_of bytes) ≡ None))
    (λ bytes last. (omega (arith, last.0, short), last.1)) (has_last before now next line counted is_begun held longer has reads)

-- a line that has begun is a part of the text, whatever follows
begun_within : (is_begun : Bool) (begun rest : List ℕ) → IsBegun is_begun begun → NoFeed begun → length begun ≤ length (text_before (lines_of (begun ++ rest)))
begun_within true begun rest long plain = text_before-long begun rest plain long
begun_within false begun rest none plain = omega (arith, ap (λ (bytes : List ℕ). length bytes) none)

-- the text is too long already, whatever follows
pub has_longer : (before now : Option (List ℕ)) (line counted : ℕ) (is_begun : Bool) (held : Held) → HasText before now line counted is_begun held
    → put_limit < held.total → IfSome before (λ bytes. put_limit < length (text_before (lines_of bytes)))
has_longer before now line counted is_begun held has long =
    subst (λ (o : Option (List ℕ)). IfSome o P) (sym has.bytes) (told_by (has.whole ++ has.begun) now P each)
  where
    P : List ℕ → Type 0
    P bytes = put_limit < length (text_before (lines_of bytes))

    each : (rest : List ℕ) → now ≡ Some rest → P ((has.whole ++ has.begun) ++ rest)
    each rest e =
        let within : length has.begun ≤ length (text_before (lines_of (has.begun ++ rest))) = begun_within is_begun has.begun rest has.is has.plain in
        let total : length (text_before (lines_of ((has.whole ++ has.begun) ++ rest))) ≡ length has.whole + length (text_before (lines_of (has.begun ++ rest))) =
        ap (λ (bytes : List ℕ). length (text_before (lines_of bytes))) (append_assoc has.whole has.begun rest)
        ∙ ap (λ (bytes : List ℕ). length bytes) (has.so_far.before (has.begun ++ rest)) ∙ length-append has.whole (text_before (lines_of (has.begun ++ rest))) in
        omega (arith, ap (λ (h : Held). h.total) has.holds, length-append has.whole has.begun, long)
