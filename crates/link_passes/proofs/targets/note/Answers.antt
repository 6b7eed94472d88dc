use Rattle.std.proofs.Common.{◌≡◌, ◌∷◌, [], ℕ, List, Option, Some, None, true, false, Bool, cond, is_some, refl, sym, ap, ◌∙◌}
use Rattle.std.specs.Prelude.{nat_eq}
use Rattle.std.specs.Map.{lookup}
use Rattle.std.specs.Option.{option_or}
use Rattle.std.proofs.lemmas.Bool.{eqb-true}
use Rattle.indexmap.proofs.CallerLemmas.{insert_entry-new}
use Rattle.list_laws.proofs.Options.{none_of}
use Rattle.lf_terms.proofs.SharedPairs.{found_joined}
use Rattle.link_passes.specs.Targets.{number_at, numbered_more}
use Rattle.link_passes.proofs.targets.note.Goals as goal

-- A place that has a number keeps it.
kept : (numbers : List (ℕ × ℕ)) (place number other : ℕ) → is_some (number_at numbers place) ≡ true → number_at numbers other ≡ numbered_more (number_at numbers other) place number other
kept numbers place number other there = by (number_at numbers other) (nat_eq other place) refl refl
  where
    by : (o : Option ℕ) (b : Bool) → number_at numbers other ≡ o → nat_eq other place ≡ b → o ≡ option_or o (cond b (Some number) None)
    by (Some known) b e f = refl
    by None false e f = refl
    by None true e f = absurd (let same : is_some (number_at numbers other) ≡ true = ap (λ p. is_some (number_at numbers p)) (eqb-true other place f) ∙ there in let lost = ap is_some (sym e) ∙ same in cc)

pub returns-then-contains_key : goal.returns-then-contains_key
returns-then-contains_key c = λ other. kept c.args.numbers.now.entries c.args.place c.args.number other (sym c.contains_key.ensures ∙ c.if-contains_key.true)

pub returns : goal.returns
returns c = λ other.
    let numbers = c.args.numbers.now in
    let absent : lookup (nat_eq c.args.place) numbers.entries ≡ None = none_of (lookup (nat_eq c.args.place) numbers.entries) (sym c.contains_key.ensures ∙ c.if-contains_key.false) in
    ap (λ entries. number_at entries other) (c.in_ok-insert.ensures.entries ∙ insert_entry-new nat_eq numbers c.args.place c.args.number absent)
    ∙ found_joined (nat_eq other) numbers.entries ((c.args.place, c.args.number) ∷ [])
