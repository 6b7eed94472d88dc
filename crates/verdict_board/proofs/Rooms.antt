-- How many claims are open and how many verdicts were installed, after one more entry.
use Rattle.std.proofs.Common.{◌≡◌, ℕ, suc, ◌+◌, ◌<◌, ◌≤◌, Bool, true, false, List, [], ◌∷◌, ◌++◌, length, filter, Option, Some, None, option_map, is_some, cond, ◌||◌, inl, inr, ⊎_elim, refl, sym, ap, ◌∙◌, true≢false, arith, length-append}
use Rattle.std.specs.List.{cons_option}
use Rattle.std.proofs.Math.Bool.{or-false}
use Rattle.std.proofs.lemmas.Bool.{or_parts}
use Rattle.std.proofs.lemmas.List.Folds.{list_any-append}
use Rattle.std.proofs.lemmas.List.Elements.{filter-append}
use Rattle.name_meaning.specs.Names.{Name}
use Rattle.list_laws.proofs.Members.{Member, in_option}
use Rattle.list_laws.proofs.Options.{some_of}
use Rattle.module_graph_laws.proofs.Walking.{filter_shorter, filter_within}
use Rattle.board_meaning.specs.Events.{Entry, History}
use Rattle.board_meaning.specs.Claims.{claimed_name, claim_at, claims_from, ends_claim, is_ended, is_open, open_claims}
use Rattle.board_meaning.specs.Standing.{installed_claim, installed_claims, installs}
use Rattle.board_meaning.specs.Ready.{is_close, is_closed}
use Rattle.board_laws.proofs.Claiming.{claim_entry, claim_front}
use Rattle.board_laws.proofs.Earlier.{claims_in}
use Rattle.verdict_board.proofs.Currents.{open_parts, open_from, ended_more}

pub closed_more : (H : History) (e : Entry) → is_closed (H ++ e ∷ []) ≡ (is_closed H || is_close e.event)
unfolding is_closed
closed_more H e = list_any-append (λ (entry : Entry). is_close entry.event) H (e ∷ []) ∙ ap (λ b. is_closed H || b) (or-false (is_close e.event))

-- no more verdicts were installed than there are entries
pub installs_within : (H : History) → installs H ≤ length H
unfolding installed_claims
installs_within [] = omega arith
installs_within (x ∷ H) = by (installed_claim x.event) (installs_within H)
  where
    by : (o : Option ℕ) → length (installed_claims H) ≤ length H → length (cons_option o (installed_claims H)) ≤ suc (length H)
    by None h = omega (arith, h)
    by (Some c) h = omega (arith, h)

-- ---- the claims of a history

claims_last : (k : ℕ) (H : History) (e : Entry) → claims_from k (H ++ e ∷ []) ≡ claims_from k H ++ cons_option (option_map (λ (name : Name). k + length H) (claimed_name e.event)) []
unfolding claims_from
claims_last k [] e =
    let same : k ≡ k + 0 = omega arith in
    ap (λ (n : ℕ). cons_option (option_map (λ (name : Name). n) (claimed_name e.event)) []) same
claims_last k (x ∷ H) e =
    let same : suc k + length H ≡ k + suc (length H) = omega arith in
    ap (cons_option (option_map (λ (name : Name). k) (claimed_name x.event))) (claims_last (suc k) H e)
    ∙ front (option_map (λ (name : Name). k) (claimed_name x.event)) (claims_from (suc k) H) (cons_option (option_map (λ (name : Name). suc k + length H) (claimed_name e.event)) [])
    ∙ ap (λ (n : ℕ). cons_option (option_map (λ (name : Name). k) (claimed_name x.event)) (claims_from (suc k) H) ++ cons_option (option_map (λ (name : Name). n) (claimed_name e.event)) []) same
  where
    front : (o : Option ℕ) (xs ys : List ℕ) → cons_option o (xs ++ ys) ≡ cons_option o xs ++ ys
    front None xs ys = refl
    front (Some y) xs ys = refl

claims_within : (k : ℕ) (H : History) (c : ℕ) → Member c (claims_from k H) → c < k + length H
unfolding claims_from
claims_within k [] c m = absurd m
claims_within k (x ∷ H) c m = ⊎_elim (λ f. first (claimed_name x.event) f) (λ r. let w = claims_within (suc k) H c r in omega (arith, w)) (in_option (option_map (λ (name : Name). k) (claimed_name x.event)) (claims_from (suc k) H) c m)
  where
    first : (o : Option Name) → option_map (λ (name : Name). k) o ≡ Some c → c < k + suc (length H)
    first None f = absurd (cc)
    first (Some n) f = let q : k ≡ c = cc in omega (arith, q)

module _ {A : Type 0} (p q : A → Bool) where
  fewer : (xs : List A) → ((x : A) → Member x xs → q x ≡ true → p x ≡ true) → length (filter q xs) ≤ length (filter p xs)
  fewer [] h = omega arith
  fewer (y ∷ ys) h = by (q y) (p y) (h y (inl refl)) (fewer ys (λ x m. h x (inr m)))
    where
      by : (b c : Bool) → (b ≡ true → c ≡ true) → length (filter q ys) ≤ length (filter p ys) → length (cond b (y ∷ filter q ys) (filter q ys)) ≤ length (cond c (y ∷ filter p ys) (filter p ys))
      by true true f g = omega (arith, g)
      by true false f g = absurd (true≢false (sym (f refl)))
      by false true f g = omega (arith, g)
      by false false f g = g

module _ (H : History) (e : Entry) where
  -- what is open after the entry, and stood before it, was open before it
  opened_before : (c : ℕ) → Member c (claims_from 0 H) → is_open (H ++ e ∷ []) c ≡ true → is_open H c ≡ true
  opened_before c m o =
      let w = claims_within 0 H c m in
      let q = open_parts (H ++ e ∷ []) c o in
      open_from H c (ap is_some (sym (claim_front H (e ∷ []) c (omega (arith, w)))) ∙ q.0) (or_parts (is_ended H c) (ends_claim c e.event) (sym (ended_more H e c) ∙ q.1)).0

  parts : length (open_claims (H ++ e ∷ [])) ≡ length (filter (is_open (H ++ e ∷ [])) (claims_from 0 H)) + length (filter (is_open (H ++ e ∷ [])) (cons_option (option_map (λ (name : Name). 0 + length H) (claimed_name e.event)) []))
  parts =
      ap (λ (xs : List ℕ). length (filter (is_open (H ++ e ∷ [])) xs)) (claims_last 0 H e)
      ∙ ap length (filter-append (is_open (H ++ e ∷ [])) (claims_from 0 H) (cons_option (option_map (λ (name : Name). 0 + length H) (claimed_name e.event)) []))
      ∙ length-append (filter (is_open (H ++ e ∷ [])) (claims_from 0 H)) (filter (is_open (H ++ e ∷ [])) (cons_option (option_map (λ (name : Name). 0 + length H) (claimed_name e.event)) []))

  one_at_most : (o : Option ℕ) → length (filter (is_open (H ++ e ∷ [])) (cons_option o [])) ≤ 1
  one_at_most None = omega arith
  one_at_most (Some c) = filter_within (is_open (H ++ e ∷ [])) (c ∷ [])

  none_more : claimed_name e.event ≡ None → length (open_claims (H ++ e ∷ [])) ≡ length (filter (is_open (H ++ e ∷ [])) (claims_from 0 H))
  none_more h =
      let z : length (filter (is_open (H ++ e ∷ [])) (cons_option (option_map (λ (name : Name). 0 + length H) (claimed_name e.event)) [])) ≡ 0 =
      ap (λ (o : Option Name). length (filter (is_open (H ++ e ∷ [])) (cons_option (option_map (λ (name : Name). 0 + length H) o) []))) h in
      omega (arith, parts, z)

  pub opened_more : length (open_claims (H ++ e ∷ [])) ≤ length (open_claims H) + 1
  opened_more =
      let a = fewer (is_open H) (is_open (H ++ e ∷ [])) (claims_from 0 H) opened_before in
      let b = one_at_most (option_map (λ (name : Name). 0 + length H) (claimed_name e.event)) in
      omega (arith, parts, a, b)

  pub opened_same : claimed_name e.event ≡ None → length (open_claims (H ++ e ∷ [])) ≤ length (open_claims H)
  opened_same h =
      let a = fewer (is_open H) (is_open (H ++ e ∷ [])) (claims_from 0 H) opened_before in
      let b = none_more h in
      omega (arith, a, b)

  -- the end of an open claim
  pub opened_less : claimed_name e.event ≡ None → (c : ℕ) → is_open H c ≡ true → ends_claim c e.event ≡ true → length (open_claims (H ++ e ∷ [])) < length (open_claims H)
  opened_less h c o f =
      let n = some_of (claim_at H c) (open_parts H c o).0 in
      let q = claim_entry H c n.0 n.1 in
      let m = claims_in H 0 c c q.0 n.0 (omega arith) q.1 q.2 in
      let a = filter_shorter (is_open H) (is_open (H ++ e ∷ [])) (claims_from 0 H) c opened_before m o ended in
      let b = none_more h in
      omega (arith, a, b)
    where
      ended : is_open (H ++ e ∷ []) c ≡ false
      ended = by (is_open (H ++ e ∷ []) c) refl
        where
          either : (a b : Bool) → b ≡ true → (a || b) ≡ false → ⊥
          either true b g k = true≢false k
          either false b g k = true≢false (sym g ∙ k)

          by : (b : Bool) → is_open (H ++ e ∷ []) c ≡ b → b ≡ false
          by true k = absurd (either (is_ended H c) (ends_claim c e.event) f (sym (ended_more H e c) ∙ (open_parts (H ++ e ∷ []) c k).1))
          by false k = refl
