-- Laws of what sources and sinks tell.
use Rattle.std.proofs.Common.{◌≡◌, ℕ, ◌+◌, List, [], ◌++◌, length, take, drop, refl, sym, ap, ◌∙◌, append_assoc, arith, length-append}
use Rattle.std.specs.Prelude.{None, Some}
use Rattle.std.specs.declared.option.Option.{Option}
use Rattle.std.proofs.lemmas.List.{append-nil, take-append-drop, take-append-le}
use Rattle.std.proofs.Math.Seq.{take-add, take-append-add, take-length}
use Rattle.mmt_outside.specs.Bytes.{ReadPrefix, Taken, TookPrefix, appended, preceded}

-- bytes taken one piece after the other are the pieces taken at once
pub appended-appended : (taken : Option Taken) (first second : List ℕ) → appended (appended taken first) second ≡ appended taken (first ++ second)
appended-appended None first second = refl
appended-appended (Some taken) first second = simp append_assoc

-- no bytes change nothing
pub appended-nil : (taken : Option Taken) → appended taken [] ≡ taken
appended-nil None = refl
appended-nil (Some taken) = simp append-nil

-- bytes read one piece after the other are the pieces read at once
pub preceded-preceded : (first second : List ℕ) (left : Option (List ℕ)) → preceded first (preceded second left) ≡ preceded (first ++ second) left
preceded-preceded first second None = refl
preceded-preceded first second (Some rest) = simp append_assoc

pub preceded-nil : (left : Option (List ℕ)) → preceded [] left ≡ left
preceded-nil None = refl
preceded-nil (Some rest) = refl

-- nothing that was read is a first part of what was left
pub ReadPrefix-none : (left : Option (List ℕ)) → ReadPrefix left left
ReadPrefix-none left = record { piece = []; read = sym (preceded-nil left) }

-- so is one first part, and then another
pub ReadPrefix-more : (before between now : Option (List ℕ)) → ReadPrefix before between → ReadPrefix between now → ReadPrefix before now
ReadPrefix-more before between now first second = record {
  piece = first.piece ++ second.piece;
  read = first.read ∙ ap (preceded first.piece) second.read ∙ preceded-preceded first.piece second.piece now;
}

-- after a first part of a list the next bytes of it make a longer first part
pub appended-take : (taken : Option Taken) (n m : ℕ) (bytes : List ℕ) → appended (appended taken (take n bytes)) (take m (drop n bytes)) ≡ appended taken (take (n + m) bytes)
appended-take taken n m bytes = rw (appended-appended, take-add n m bytes) refl

-- a first part of the bytes left, and the bytes after it
pub preceded-drop : (count : ℕ) (bytes read : List ℕ) → take count read ≡ take count bytes → Some bytes ≡ preceded (take count read) (Some (drop count bytes))
preceded-drop count bytes read same = rw (same, take-append-drop) refl

-- where the bytes before are told, the bytes after are too, and they are the rest
pub rest_of-preceded : (bytes read : List ℕ) (left : Option (List ℕ)) → Some bytes ≡ preceded read left → (rest : List ℕ) × (left ≡ Some rest) × (bytes ≡ read ++ rest)
rest_of-preceded bytes read None told = absurd (cc)
rest_of-preceded bytes read (Some rest) told = (rest, refl, cc)

-- a piece that was taken as a whole was taken as a first part of it
pub TookPrefix-whole : (before : Option Taken) (piece : List ℕ) → TookPrefix before (appended before piece) piece
TookPrefix-whole before piece = record {
  count = length piece;
  within = omega arith;
  took = rw (take-length piece) refl;
}

-- of nothing taken too
pub TookPrefix-none : (before : Option Taken) (piece : List ℕ) → TookPrefix before before piece
TookPrefix-none before piece = record {
  count = 0;
  within = omega arith;
  took = sym (appended-nil before);
}

-- a first part of a piece is one of a longer piece
pub TookPrefix-append : (before now : Option Taken) (piece more : List ℕ) → TookPrefix before now piece → TookPrefix before now (piece ++ more)
TookPrefix-append before now piece more part = record {
  count = part.count;
  within = omega (arith, part.within, length-append piece more);
  took = rw (take-append-le part.count piece more part.within) part.took;
}

-- after a piece was taken as a whole, a first part of the next makes a first part of both
pub TookPrefix-after : (before now : Option Taken) (first second : List ℕ) → TookPrefix (appended before first) now second → TookPrefix before now (first ++ second)
TookPrefix-after before now first second part = record {
  count = length first + part.count;
  within = omega (arith, part.within, length-append first second);
  took = rw (take-append-add first second part.count, ← appended-appended before first (take part.count second)) part.took;
}
