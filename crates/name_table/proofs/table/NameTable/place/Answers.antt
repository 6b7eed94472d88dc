use Rattle.std.proofs.Common.{ℕ, ◌<◌, length, Result, Ok, Err, IfOk, rules}
use Rattle.std.specs.List.Sorted.{IsSearchInRange}
use Rattle.std.specs.Ordering.{nat_cmp}
use Rattle.std.specs.Cmp.Lexicographic.{slice_cmp}
use Rattle.std.proofs.lemmas.Fn.{always_returns_same}
use Rattle.name_laws.proofs.Searching.{searched}
use Rattle.name_table.proofs.table.NameTable.place.Goals as goal

-- the closure compares a row's name, and the slice is the table's rows
pub returns-clause-found : goal.returns-clause-found
returns-clause-found g c =
    let facts = c.binary_search_by.ensures in
    let by_name = facts.position (λ row. slice_cmp nat_cmp row.0 c.args.name.now) (always_returns_same _ _ _ (λ a r f called. search rules)) in
    rw (← c.self.view_is, ← c.deref.ensures.value) (searched (λ row. row.0) _ c.args.name.now _ (rw c.deref.ensures.value c.self.invariant) facts.bound by_name).found

pub returns-clause-absent : goal.returns-clause-absent
returns-clause-absent g c =
    let facts = c.binary_search_by.ensures in
    let by_name = facts.position (λ row. slice_cmp nat_cmp row.0 c.args.name.now) (always_returns_same _ _ _ (λ a r f called. search rules)) in
    rw (← c.self.view_is, ← c.deref.ensures.value) (searched (λ row. row.0) _ c.args.name.now _ (rw c.deref.ensures.value c.self.invariant) facts.bound by_name).absent

in_range : (r : Result ℕ ℕ) (n : ℕ) → IsSearchInRange r n → IfOk r (λ place. place < n)
in_range (Ok i) n h = h
in_range (Err i) n h = tt

pub returns-clause-within : goal.returns-clause-within
returns-clause-within g c = rw (← c.self.view_is, ← c.deref.ensures.value) (in_range c.binary_search_by.result (length c.deref.result.now) c.binary_search_by.ensures.bound)
