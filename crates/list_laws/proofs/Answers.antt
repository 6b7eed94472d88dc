-- Answers taken apart, and put together.
use Rattle.std.proofs.Common.{◌≡◌, ℕ, Result, Ok, Err, IfErr, refl, sym, ap, ◌∙◌, true≢false}
use Rattle.std.specs.Result.{IsOk, OnOk, OnErr}
use Rattle.answer_meaning.specs.Answers.{◌>>=◌}

pub record Came {E A B : Type 0} (first : Result A E) (next : A → Result B E) (value : B) : Type 0 where
  pub item : A
  pub came : first ≡ Ok item
  pub goes : next item ≡ Ok value

pub came_by : {E A B : Type 0} (first : Result A E) (next : A → Result B E) (value : B) → first >>= next ≡ Ok value → Came first next value
came_by (Err fault) next value h = absurd (cc)
came_by (Ok item) next value h = record { item = item; came = refl; goes = h }

pub goes_by : {E A B : Type 0} (first : Result A E) (next : A → Result B E) (item : A) (value : B) → first ≡ Ok item → next item ≡ Ok value → first >>= next ≡ Ok value
goes_by first next item value h g = ap (λ r. r >>= next) h ∙ g

-- a whole that goes on with a value
pub goes_on : {E A B : Type 0} (first : Result A E) (next : A → Result B E) (whole : Result B E) (value : A) → whole ≡ (first >>= next) → first ≡ Ok value → whole ≡ next value
goes_on first next whole value e h = e ∙ ap (λ r. r >>= next) h

abbrev Same : (A : Type 0) → A → A → Type 0
Same A x y = x ≡ y

pub ok_same : {E A : Type 0} {x y : A} → Same (Result A E) (Ok x) (Ok y) → x ≡ y
ok_same h = cc

pub bind_assoc : {E A B C : Type 0} (first : Result A E) (next : A → Result B E) (last : B → Result C E) → (first >>= next) >>= last ≡ first >>= (λ item. next item >>= last)
bind_assoc (Err fault) next last = refl
bind_assoc (Ok item) next last = refl

-- what holds anyhow holds of an error
pub on_err : {A E P : Type 0} (answer : Result A E) → P → OnErr answer P
on_err (Ok item) p = tt
on_err (Err fault) p = p

-- what a call says of its Ok, where it is known to succeed
pub at_ok : {E A : Type 0} (answer : Result A E) (P : Type 0) → IsOk answer → OnOk answer P → P
at_ok (Ok item) P h p = p
at_ok (Err fault) P h p = absurd (true≢false (sym h))

-- the place that is told where none was found
pub where_missing : (r : Result ℕ ℕ) (P : ℕ → Type 0) → ((x : ℕ) → r ≡ Ok x → ⊥) → IfErr r P → (x : ℕ) × P x
where_missing (Ok x) P n h = absurd (n x (λ i. Ok x))
where_missing (Err x) P n h = (x, h)
