-- Whether a slice of names contains a name: the test of the names in the other order.
use Rattle.std.proofs.Common.{◌≡◌, Bool, ◌||◌, List, [], ◌∷◌, refl, sym}
use Rattle.std.specs.List.{list_any}
use Rattle.std.specs.Cmp.{both_ways}
use Rattle.name_meaning.specs.Names.{Name, same_name, is_among}
use Rattle.name_laws.proofs.Order.{same_sound, same_of}

pub same_other_way : (n m : Name) → same_name n m ≡ same_name m n
same_other_way n m = both_ways (same_name n m) (same_name m n) (λ e. same_of m n (sym (same_sound n m e))) (λ e. same_of n m (sym (same_sound m n e)))

pub contained_among : (names : List Name) (n : Name) → list_any (λ (m : Name). same_name m n) names ≡ is_among names n
unfolding is_among
contained_among [] n = refl
contained_among (m ∷ names) n = λ i. same_other_way m n i || contained_among names n i
