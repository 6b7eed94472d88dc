-- The two writes of an append, from a disk that is ready for it.
use Rattle.std.proofs.Common.{◌≡◌, ℕ, ◌+◌, ◌≤◌, List, [], ◌∷◌, ◌++◌, length, drop, ap, ◌∙◌, subst, arith, length-append}
use Rattle.saved_log_meaning.specs.SavedFiles.{Contents, file_contents}
use Rattle.saved_log_meaning.specs.Disks.{Holds, Torn, Follows, Only}
use Rattle.saved_log_meaning.specs.Appends.{Ready, BeforeOrAfter}
use Rattle.saved_log_laws.proofs.TornWrites.{torn_behind, written_behind, torn_gate, written_gate}

module _ (file : List ℕ) (images : List ℕ → Type 0) (gate : ℕ) (piece : List ℕ) (before after : Contents) (ready : Ready file images gate piece before after) where
  pub at_start : (image : List ℕ) → images image → file_contents image ≡ before
  at_start image left = ap file_contents (ready.is_durable image left ∙ ready.is_split) ∙ ready.if_closed ready.behind

  pub starts : gate + 1 ≤ length file
  starts = omega (arith, ap length ready.is_split, length-append ready.front (0 ∷ ready.behind), ready.is_place)

  pub first : (after_write : List ℕ → Type 0) → Follows (Torn (gate + 1) (length piece)) images after_write → (image : List ℕ) → after_write image → file_contents image ≡ before
  first after_write follows image left =
      let from = follows image left in
      let torn = subst (λ (f : List ℕ). Torn (gate + 1) (length piece) f image) (ready.is_durable from.0 from.1 ∙ ready.is_split) from.2 in
      let torn_at = subst (λ (n : ℕ). Torn (n + 1) (length piece) (ready.front ++ 0 ∷ ready.behind) image) ready.is_place torn in
      torn_behind file_contents ready.front ready.edit_bytes before after ready.if_closed ready.if_open ready.behind image (length piece) torn_at

  abbrev pub rest : List ℕ
  rest = ready.edit_bytes ++ 0 ∷ drop (length ready.edit_bytes + 1) ready.behind

  abbrev pub staged : List ℕ
  staged = ready.front ++ 0 ∷ rest

  pub written : (seen : List ℕ) → Holds file (gate + 1) piece seen → seen ≡ staged
  written seen holds =
      let with_file = subst (λ (f : List ℕ). Holds f (gate + 1) piece seen) ready.is_split holds in
      let with_place = subst (λ (n : ℕ). Holds (ready.front ++ 0 ∷ ready.behind) (n + 1) piece seen) ready.is_place with_file in
      let with_piece = subst (λ (l : List ℕ). Holds (ready.front ++ 0 ∷ ready.behind) (length ready.front + 1) l seen) ready.is_piece with_place in
      written_behind file_contents ready.front ready.edit_bytes before after ready.if_closed ready.if_open ready.behind seen with_piece

  pub long : (seen : List ℕ) → seen ≡ staged → gate ≤ length seen
  long seen is = omega (arith, ap length is, length-append ready.front (0 ∷ rest), ready.is_place)

  pub second : (seen : List ℕ) (synced after_write : List ℕ → Type 0) → seen ≡ staged → Only seen synced → Follows (Torn gate 1) synced after_write → (image : List ℕ) → after_write image → BeforeOrAfter before after image
  second seen synced after_write is only follows image left =
      let from = follows image left in
      let torn = subst (λ (f : List ℕ). Torn gate 1 f image) (only from.0 from.1 ∙ is) from.2 in
      torn_gate file_contents ready.front ready.edit_bytes before after ready.if_closed ready.if_open (drop (length ready.edit_bytes + 1) ready.behind) image (subst (λ (n : ℕ). Torn n 1 staged image) ready.is_place torn)

  pub opened : (seen new : List ℕ) → seen ≡ staged → Holds seen gate (1 ∷ []) new → file_contents new ≡ after
  opened seen new is holds =
      let with_file = subst (λ (f : List ℕ). Holds f gate (1 ∷ []) new) is holds in
      let with_place = subst (λ (n : ℕ). Holds staged n (1 ∷ []) new) ready.is_place with_file in
      ap file_contents (written_gate file_contents ready.front ready.edit_bytes before after ready.if_closed ready.if_open rest new with_place)
      ∙ ready.if_open 1 (drop (length ready.edit_bytes + 1) ready.behind) (λ (e : 1 ≡ 0). cc)
