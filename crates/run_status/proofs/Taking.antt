-- What a sink has taken, from what it took since.
use Rattle.std.proofs.Common.{◌≡◌, ℕ, List, [], ◌++◌, take, refl, sym, ap, ◌∙◌}
use Rattle.std.specs.Prelude.{Option, Some, None, option_map}
use Rattle.mmt_outside.specs.Bytes.{Taken, appended, flushed, TookPrefix}
use Rattle.mmt_outside.proofs.Bytes.{appended-appended, appended-nil}
use Rattle.run_status.specs.Taking.{bytes_of, TookOn}

bytes_appended : (taken : Option Taken) (piece : List ℕ) → bytes_of (appended taken piece) ≡ option_map (λ (bytes : List ℕ). bytes ++ piece) (bytes_of taken)
bytes_appended None piece = refl
bytes_appended (Some taken) piece = refl

bytes_flushed : (taken : Option Taken) → bytes_of (flushed taken) ≡ bytes_of taken
bytes_flushed None = refl
bytes_flushed (Some taken) = refl

-- Nothing was taken since.
pub TookOn-none : (before : Option Taken) → TookOn before before
TookOn-none before = record { piece = []; took = ap bytes_of (sym (appended-nil before)) }

-- Some bytes were, and then more.
pub TookOn-more : (before between now : Option Taken) → TookOn before between → TookOn between now → TookOn before now
TookOn-more before between now first second = record {
  piece = first.piece ++ second.piece;
  took = second.took ∙ bytes_appended between second.piece
      ∙ ap (option_map (λ (bytes : List ℕ). bytes ++ second.piece)) first.took
      ∙ sym (bytes_appended (appended before first.piece) second.piece)
      ∙ ap bytes_of (appended-appended before first.piece second.piece);
}

-- A piece was, as a whole.
pub TookOn-whole : (before now : Option Taken) (piece : List ℕ) → now ≡ appended before piece → TookOn before now
TookOn-whole before now piece took = record { piece = piece; took = ap bytes_of took }

-- A piece was, and all was flushed.
pub TookOn-flushed : (before now : Option Taken) (piece : List ℕ) → now ≡ flushed (appended before piece) → TookOn before now
TookOn-flushed before now piece took = record { piece = piece; took = ap bytes_of took ∙ bytes_flushed (appended before piece) }

-- A first part of a piece was.
pub TookOn-part : (before now : Option Taken) (piece : List ℕ) → TookPrefix before now piece → TookOn before now
TookOn-part before now piece part = TookOn-whole before now (take part.count piece) part.took
