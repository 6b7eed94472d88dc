-- What is left by the two writes of an append: the one behind a closed gate, and the one of the gate.
use Rattle.std.proofs.Common.{◌≡◌, ◌≢◌, ◌⊎◌, ℕ, zero, suc, ◌+◌, List, [], ◌∷◌, ◌++◌, length, get_or, take, drop, inl, inr, refl, sym, ap, ◌∙◌, arith, length-append, take-append-drop, append_assoc}
use Rattle.std.proofs.lemmas.List.{take_at, drop_at, drop_more}
use Rattle.std.proofs.lemmas.Bool.{cases_eq}
use Rattle.saved_log_meaning.specs.Disks.{Holds, Torn}

drop_past : (xs ys : List ℕ) (m n : ℕ) → m ≡ length xs + n → drop m (xs ++ ys) ≡ drop n ys
drop_past [] ys m n is = let same : m ≡ n = omega (arith, is) in ap (λ (k : ℕ). drop k ys) same
drop_past (x ∷ xs) ys zero n is = absurd (omega (arith, is))
drop_past (x ∷ xs) ys (suc m) n is = drop_past xs ys m n (omega (arith, is))

-- Whatever the files mean, a front stands for `before` with a closed gate behind it, and for `after` with an open gate and the record.
module _ {S : Type 0} (meaning : List ℕ → S) (front edit_bytes : List ℕ) (before after : S)
    (shut : (rest : List ℕ) → meaning (front ++ 0 ∷ rest) ≡ before)
    (wide : (gate : ℕ) (rest : List ℕ) → gate ≢ 0 → meaning (front ++ gate ∷ (edit_bytes ++ 0 ∷ rest)) ≡ after) where
  -- The first write starts behind the closed gate, which so stands in every image.
  pub torn_behind : (behind image : List ℕ) (n : ℕ) → Torn (length front + 1) n (front ++ 0 ∷ behind) image → meaning image ≡ before
  torn_behind behind image n torn =
      let g = length front + 1 in
      let split : front ++ 0 ∷ behind ≡ (front ++ 0 ∷ []) ++ behind = sym (append_assoc front (0 ∷ []) behind) in
      let kept : take g image ≡ front ++ 0 ∷ [] = torn.before ∙ ap (λ (l : List ℕ). take g l) split ∙ take_at (front ++ 0 ∷ []) behind g (length-append front (0 ∷ [])) in
      let whole : image ≡ front ++ 0 ∷ drop g image = sym (take-append-drop g image) ∙ ap (λ (l : List ℕ). l ++ drop g image) kept ∙ append_assoc front (0 ∷ []) (drop g image) in
      ap meaning whole ∙ shut (drop g image)

  -- What a read gives after the first write.
  pub written_behind : (behind image : List ℕ) → Holds (front ++ 0 ∷ behind) (length front + 1) (edit_bytes ++ 0 ∷ []) image → image ≡ front ++ 0 ∷ (edit_bytes ++ 0 ∷ drop (length edit_bytes + 1) behind)
  written_behind behind image holds =
      let g = length front + 1 in
      let piece = edit_bytes ++ 0 ∷ [] in
      let size : length piece ≡ length edit_bytes + 1 = length-append edit_bytes (0 ∷ []) in
      let split : front ++ 0 ∷ behind ≡ (front ++ 0 ∷ []) ++ behind = sym (append_assoc front (0 ∷ []) behind) in
      let is_front : length (front ++ 0 ∷ []) ≡ g = length-append front (0 ∷ []) in
      let back : drop (g + length piece) (front ++ 0 ∷ behind) ≡ drop (length edit_bytes + 1) behind =
      ap (λ (l : List ℕ). drop (g + length piece) l) split ∙ drop_past (front ++ 0 ∷ []) behind (g + length piece) (length edit_bytes + 1) (omega (arith, is_front, size)) in
      holds
      ∙ ap (λ (l : List ℕ). (l ++ piece) ++ drop (g + length piece) (front ++ 0 ∷ behind)) (ap (λ (l : List ℕ). take g l) split ∙ take_at (front ++ 0 ∷ []) behind g is_front)
      ∙ ap (λ (l : List ℕ). ((front ++ 0 ∷ []) ++ piece) ++ l) back
      ∙ append_assoc (front ++ 0 ∷ []) piece (drop (length edit_bytes + 1) behind)
      ∙ append_assoc front (0 ∷ []) (piece ++ drop (length edit_bytes + 1) behind)
      ∙ ap (λ (l : List ℕ). front ++ 0 ∷ l) (append_assoc edit_bytes (0 ∷ []) (drop (length edit_bytes + 1) behind))

  -- The second write turns the gate into any byte, and the record behind it stands whole in every image.
  pub torn_gate : (behind image : List ℕ) → Torn (length front) 1 (front ++ 0 ∷ (edit_bytes ++ 0 ∷ behind)) image → (meaning image ≡ before) ⊎ (meaning image ≡ after)
  torn_gate behind image torn =
      let held = edit_bytes ++ 0 ∷ behind in
      let old = front ++ 0 ∷ held in
      let g = length front in
      let long = length-append front (0 ∷ held) in
      let gate = get_or image g 0 in
      let back : drop (g + 1) old ≡ held = ap (λ (l : List ℕ). drop (g + 1) l) (sym (append_assoc front (0 ∷ []) held)) ∙ drop_at (front ++ 0 ∷ []) held (g + 1) (length-append front (0 ∷ [])) in
      let rest : drop g image ≡ gate ∷ held = drop_more image g 0 (omega (arith, torn.no_shorter, long)) ∙ ap (λ (l : List ℕ). gate ∷ l) (torn.behind ∙ back) in
      let whole : image ≡ front ++ gate ∷ held = sym (take-append-drop g image) ∙ ap (λ (l : List ℕ). l ++ drop g image) (torn.before ∙ take_at front (0 ∷ held) g refl) ∙ ap (λ (l : List ℕ). front ++ l) rest in
      either gate whole (cases_eq gate 0)
    where
      either : (gate : ℕ) → image ≡ front ++ gate ∷ (edit_bytes ++ 0 ∷ behind) → (gate ≡ 0) ⊎ (gate ≢ 0) → (meaning image ≡ before) ⊎ (meaning image ≡ after)
      either gate whole (inl is) = inl (ap meaning (whole ∙ ap (λ (g : ℕ). front ++ g ∷ (edit_bytes ++ 0 ∷ behind)) is) ∙ shut (edit_bytes ++ 0 ∷ behind))
      either gate whole (inr not) = inr (ap meaning whole ∙ wide gate behind not)

  -- What a read gives after the second write.
  pub written_gate : (held image : List ℕ) → Holds (front ++ 0 ∷ held) (length front) (1 ∷ []) image → image ≡ front ++ 1 ∷ held
  written_gate held image holds =
      holds
      ∙ ap (λ (l : List ℕ). (l ++ 1 ∷ []) ++ drop (length front + 1) (front ++ 0 ∷ held)) (take_at front (0 ∷ held) (length front) refl)
      ∙ ap (λ (l : List ℕ). (front ++ 1 ∷ []) ++ l) (ap (λ (l : List ℕ). drop (length front + 1) l) (sym (append_assoc front (0 ∷ []) held)) ∙ drop_at (front ++ 0 ∷ []) held (length front + 1) (length-append front (0 ∷ [])))
      ∙ append_assoc front (1 ∷ []) held
