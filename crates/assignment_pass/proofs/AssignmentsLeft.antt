-- Assignments that are left, with what those before have given.
use Rattle.std.proofs.Common.{◌≡◌, ℕ, ◌+◌, ◌<◌, ◌≤◌, List, [], ◌∷◌, ◌++◌, drop, length, get_or, Ok, Err, refl, sym, ap, ◌∙◌, append_assoc}
use Rattle.std.proofs.lemmas.List.{append-nil, drop_all}
use Rattle.name_meaning.specs.Names.{Path}
use Rattle.answer_meaning.specs.Answers.{◌>>=◌}
use Rattle.link_meaning.specs.Refusals.{Outcome}
use Rattle.link_meaning.specs.Assignments.{Setting, Assigned, read_assign, read_assigns, with_target}
use Rattle.mmt_syntax.specs.Readings as trees
use Rattle.mmt_syntax.specs.declared.assign.Assign.{Assign}
use Rattle.link_setting.proofs.Below.ListsLeft.{left}

-- What assignments give behind these targets, with what is given already in front.
abbrev pub goes_on_with : Setting → List Path → List Assigned → List Assign → Outcome (List Assigned)
goes_on_with setting earlier given assigns = read_assigns setting earlier (trees.read_assigns assigns) >>= (λ rest. Ok (given ++ rest))

taken : (given : List Assigned) (first : Outcome Assigned) (rest : Outcome (List Assigned))
    → ((first >>= (λ a. rest >>= (λ r. Ok (a ∷ r)))) >>= (λ r. Ok (given ++ r))) ≡ (first >>= (λ a. rest >>= (λ r. Ok ((given ++ a ∷ []) ++ r))))
taken given (Err refusal) rest = refl
taken given (Ok a) (Err refusal) = refl
taken given (Ok a) (Ok r) = ap Ok (sym (append_assoc given (a ∷ []) r))

once : (o : Outcome (List Assigned)) → o ≡ (o >>= (λ r. Ok ([] ++ r)))
once (Err refusal) = refl
once (Ok r) = refl

-- At the beginning nothing is given.
pub none_given : (setting : Setting) (earlier : List Path) (given : List Assigned) (assigns : List Assign) → earlier ≡ [] → given ≡ []
    → read_assigns setting [] (trees.read_assigns assigns) ≡ goes_on_with setting earlier given assigns
none_given setting earlier given assigns no_targets nothing =
    once (read_assigns setting [] (trees.read_assigns assigns)) ∙ (λ i. goes_on_with setting (sym no_targets i) (sym nothing i) assigns)

-- The next assignment.
pub next_given : (setting : Setting) (earlier : List Path) (given : List Assigned) (assigns : List Assign) (i : ℕ) (assign : Assign) → i < length assigns → assign ≡ get_or assigns i assign
    → goes_on_with setting earlier given (drop i assigns)
    ≡ (read_assign setting earlier (trees.read_assign assign) >>= (λ a. goes_on_with setting (with_target earlier (trees.read_assign assign)) (given ++ a ∷ []) (drop (i + 1) assigns)))
unfolding read_assigns
next_given setting earlier given assigns i assign within here =
    ap (goes_on_with setting earlier given) (left assigns i assign within here)
    ∙ taken given (read_assign setting earlier (trees.read_assign assign)) (read_assigns setting (with_target earlier (trees.read_assign assign)) (trees.read_assigns (drop (i + 1) assigns)))

-- At the end no assignment is left.
pub all_given : (setting : Setting) (earlier : List Path) (given : List Assigned) (assigns : List Assign) (i : ℕ) → length assigns ≤ i → goes_on_with setting earlier given (drop i assigns) ≡ Ok given
unfolding read_assigns
all_given setting earlier given assigns i past = ap (goes_on_with setting earlier given) (drop_all i assigns past) ∙ ap Ok (append-nil given)
