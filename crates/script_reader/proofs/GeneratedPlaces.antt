-- At which place which edit of the generator stands.
use Rattle.std.proofs.Common.{◌≡◌, ℕ, zero, suc, ◌+◌, ◌-◌, ◌<◌, ◌≤◌, Bool, true, false, List, [], ◌∷◌, ◌++◌, length, nat_lt, refl, sym, ap, ◌∙◌, arith, ltb-true, ltb-false}
use Rattle.std.specs.Prelude.{slice_get, Some}
use Rattle.std.proofs.lemmas.List.{length-append}
use Rattle.edit_log_meaning.specs.Log.{Edit}
use Rattle.list_laws.proofs.Places.{get_front, get_last, get_behind}
use Rattle.run_meaning.specs.Generator.{draw_below, edited_module, generated_put, first_puts, later_puts, generated}
use Rattle.script_reader.specs.Generating.{Generating, ComesNext}

-- the items of a function on numbers, and the next
one_more : (items : List Edit) (at : ℕ → Edit) (n : ℕ) → length items ≡ n → ((k : ℕ) → k < n → slice_get items k ≡ Some (at k))
    → (k : ℕ) → k < suc n → slice_get (items ++ at n ∷ []) k ≡ Some (at k)
one_more items at n e h k lt = by (nat_lt k n) refl
  where
    by : (b : Bool) → nat_lt k n ≡ b → slice_get (items ++ at n ∷ []) k ≡ Some (at k)
    by true t =
        let within : k < n = ltb-true k n t in
        get_front items (at n ∷ []) k (omega (arith, within, e)) ∙ h k within
    by false t =
        let last : k ≡ length items = omega (arith, lt, e, ltb-false k n t) in
        ap (λ (i : ℕ). slice_get (items ++ at n ∷ []) i) last ∙ get_last items (at n) ∙ ap (λ (i : ℕ). Some (at i)) (sym e ∙ sym last)

pub first_length : (start n : ℕ) → length (first_puts start n) ≡ n
unfolding first_puts
first_length start zero = refl
first_length start (suc n) =
    let before : length (first_puts start n) ≡ n = first_length start n in
    omega (arith, before, length-append (first_puts start n) (generated_put start n 0 ∷ []))

first_at : (start n k : ℕ) → k < n → slice_get (first_puts start n) k ≡ Some (generated_put start k 0)
unfolding first_puts
first_at start zero k h = absurd (omega (arith, h))
first_at start (suc n) k h =
    one_more (first_puts start n) (λ (index : ℕ). generated_put start index 0) n (first_length start n) (λ i lt. first_at start n i lt) k h

abbrev pub later_put : ℕ → ℕ → ℕ → Edit
later_put start modules before = generated_put start (edited_module start modules (suc before)) (suc before)

pub later_length : (start modules n : ℕ) → length (later_puts start modules n) ≡ n
unfolding later_puts
later_length start modules zero = refl
later_length start modules (suc n) =
    let before : length (later_puts start modules n) ≡ n = later_length start modules n in
    omega (arith, before, length-append (later_puts start modules n) (later_put start modules n ∷ []))

later_at : (start modules n k : ℕ) → k < n → slice_get (later_puts start modules n) k ≡ Some (later_put start modules k)
unfolding later_puts
later_at start modules zero k h = absurd (omega (arith, h))
later_at start modules (suc n) k h =
    one_more (later_puts start modules n) (later_put start modules) n (later_length start modules n) (λ i lt. later_at start modules n i lt) k h

-- at the places of the modules the module of this index, in revision 0
pub first_next : (generating : Generating) (edit : Edit) → generating.given < generating.modules → edit ≡ generated_put generating.start generating.given 0
    → ComesNext generating edit
unfolding generated
first_next generating edit h e edits more =
    get_front (first_puts generating.start generating.modules) (later_puts generating.start generating.modules edits) generating.given
    (omega (arith, h, first_length generating.start generating.modules))
    ∙ first_at generating.start generating.modules generating.given h ∙ ap (λ (x : Edit). Some x) (sym e)

-- behind them the module that is drawn, and its place is that of the draw
pub later_next : (generating : Generating) (edit : Edit) (revision : ℕ) → 1 ≤ generating.modules → generating.modules ≤ generating.given
    → revision ≡ generating.given - generating.modules + 1
    → edit ≡ generated_put generating.start (draw_below generating.start generating.given generating.modules) revision → ComesNext generating edit
unfolding generated
later_next generating edit revision some h same e edits more =
    get_behind first later before generating.given (omega (arith, h, first_length generating.start generating.modules))
    ∙ later_at generating.start generating.modules edits before (omega (arith, h, more))
    ∙ ap (λ (draw : ℕ). Some (generated_put generating.start (draw_below generating.start draw generating.modules) (suc before))) draw_is
    ∙ ap (λ (r : ℕ). Some (generated_put generating.start (draw_below generating.start generating.given generating.modules) r)) revision_is
    ∙ ap (λ (x : Edit). Some x) (sym e)
  where
    before : ℕ
    before = generating.given - generating.modules

    first : List Edit
    first = first_puts generating.start generating.modules

    later : List Edit
    later = later_puts generating.start generating.modules edits

    draw_is : generating.modules - 1 + suc before ≡ generating.given
    draw_is = omega (arith, some, h)

    revision_is : suc before ≡ revision
    revision_is = omega (arith, same)
