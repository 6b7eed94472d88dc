-- The first of the lines to come, when it was read.
use Rattle.std.proofs.Common.{◌≡◌, ℕ, ◌≤◌, true, List, [], ◌∷◌, ◌++◌, length, refl, sym, ap, ◌∙◌, subst, arith}
use Rattle.std.specs.Prelude.{Some, None, IfSome, nat_lt}
use Rattle.std.proofs.lemmas.Bool.Decides.{nat_tests}
use Rattle.std.specs.declared.option.Option.{Option}
use Rattle.std.proofs.lemmas.List.{length-append}
use Rattle.mmt_outside.specs.Bytes.{preceded}
use Rattle.printing_meaning.specs.Lines.{lines_of, NoFeed, content_of}
use Rattle.run_meaning.specs.ScriptCommands.{Bad, next_of, said_by, Wrong}
use Rattle.run_laws.proofs.LongLines.{first_begins, content_of-long}
use Rattle.name_meaning.specs.Limits.{line_limit}
use Rattle.script_reader.specs.Pieces.{ReadsLine}
use Rattle.script_reader.specs.declared.line.LineEnd.TheVariants.{Feed, Input, Limit}
use Rattle.script_reader.specs.Texts.{StaysTold}
use Rattle.script_reader.proofs.Reading.{piece_is, ends_in_feed-first, last_first, stays_told}

first_of : (piece : List ℕ) (before after : Option (List ℕ)) → before ≡ preceded piece after
    → ((rest : List ℕ) → after ≡ Some rest → lines_of (piece ++ rest) ≡ piece ∷ lines_of rest)
    → IfSome before (λ bytes. IfSome after (λ rest. lines_of bytes ≡ piece ∷ lines_of rest))
first_of piece before None e first = subst (λ (o : Option (List ℕ)). IfSome o (λ bytes. Unit {0})) (sym e) tt
first_of piece before (Some rest) e first = subst (λ (o : Option (List ℕ)). IfSome o (λ bytes. lines_of bytes ≡ piece ∷ lines_of rest)) (sym e) (first rest refl)

pub first-feed : (before after : Option (List ℕ)) (empty now : List ℕ) (most : ℕ) → empty ≡ [] → ReadsLine before after empty now most Feed
    → IfSome before (λ bytes. IfSome after (λ rest. lines_of bytes ≡ now ∷ lines_of rest)) × StaysTold before after
first-feed before after empty now most none read = (
  subst (λ (line : List ℕ). IfSome before (λ bytes. IfSome after (λ rest. lines_of bytes ≡ line ∷ lines_of rest)))
      (piece_is before after empty now most Feed none read)
      (first_of read.piece before after read.bytes (λ rest e. ends_in_feed-first read.piece read.ends rest)),
  stays_told read.piece before after read.bytes,
)

pub first-input : (before after : Option (List ℕ)) (empty now : List ℕ) (most : ℕ) → empty ≡ [] → (now ≡ [] → ⊥) → ReadsLine before after empty now most Input
    → IfSome before (λ bytes. IfSome after (λ rest. lines_of bytes ≡ now ∷ lines_of rest)) × StaysTold before after
first-input before after empty now most none some read =
    let piece = piece_is before after empty now most Input none read in (
      subst (λ (line : List ℕ). IfSome before (λ bytes. IfSome after (λ rest. lines_of bytes ≡ line ∷ lines_of rest))) piece
          (first_of read.piece before after read.bytes
          (λ rest e. last_first read.piece rest read.ends.0 (λ empty'. some (sym piece ∙ empty'))
          (subst (λ (o : Option (List ℕ)). IfSome o (λ bytes. bytes ≡ [])) e read.ends.1))),
      stays_told read.piece before after read.bytes,
    )

none_before : (before after : Option (List ℕ)) → before ≡ preceded [] after → IfSome after (λ bytes. bytes ≡ []) → IfSome before (λ bytes. bytes ≡ [])
none_before before None e h = subst (λ (o : Option (List ℕ)). IfSome o (λ bytes. bytes ≡ [])) (sym e) tt
none_before before (Some rest) e h = subst (λ (o : Option (List ℕ)). IfSome o (λ bytes. bytes ≡ [])) (sym e) h

pub first-missing : (before after : Option (List ℕ)) (empty now : List ℕ) (most : ℕ) → empty ≡ [] → now ≡ [] → ReadsLine before after empty now most Input
    → IfSome before (λ bytes. bytes ≡ []) × IfSome after (λ bytes. bytes ≡ []) × StaysTold before after
first-missing before after empty now most none no_line read =
    let piece : read.piece ≡ [] = piece_is before after empty now most Input none read ∙ no_line in
    (none_before before after (read.bytes ∙ ap (λ (p : List ℕ). preceded p after) piece) read.ends.1, read.ends.1, stays_told read.piece before after read.bytes)

-- a longer line says nothing that a script can say
said_by-long : (line : List ℕ) → 1027 ≤ length line → said_by (content_of line) ≡ Wrong
said_by-long line long =
    let over : nat_lt line_limit (length (content_of line)) ≡ true = grind (arith, nat_tests, content_of-long line) in
    rw over refl

bad_begin : (piece rest : List ℕ) → NoFeed piece → 1027 ≤ length piece → next_of (lines_of (piece ++ rest)) ≡ Bad
bad_begin [] rest plain long = absurd (omega arith)
bad_begin (b ∷ piece) rest plain long =
    let first = first_begins b piece rest plain in
    let over : said_by (content_of ((b ∷ piece) ++ first.more)) ≡ Wrong =
    said_by-long ((b ∷ piece) ++ first.more) (omega (arith, length-append (b ∷ piece) first.more)) in
    ap (λ (ls : List (List ℕ)). next_of ls) first.is ∙ rw over refl

bad_of : (piece : List ℕ) (before after : Option (List ℕ)) → before ≡ preceded piece after → NoFeed piece → 1027 ≤ length piece
    → IfSome before (λ bytes. next_of (lines_of bytes) ≡ Bad)
bad_of piece before None e plain long = subst (λ (o : Option (List ℕ)). IfSome o (λ bytes. next_of (lines_of bytes) ≡ Bad)) (sym e) tt
bad_of piece before (Some rest) e plain long =
    subst (λ (o : Option (List ℕ)). IfSome o (λ bytes. next_of (lines_of bytes) ≡ Bad)) (sym e) (bad_begin piece rest plain long)

pub first-long : (before after : Option (List ℕ)) (empty now : List ℕ) → empty ≡ [] → ReadsLine before after empty now 1027 Limit
    → IfSome before (λ bytes. next_of (lines_of bytes) ≡ Bad)
first-long before after empty now none read =
    bad_of read.piece before after read.bytes read.ends.0 (omega (arith, read.ends.1, ap (λ (bs : List ℕ). length bs) (piece_is before after empty now 1027 Limit none read)))
