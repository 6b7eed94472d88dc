-- An expression in its place: what is written in front of it and behind it, and how it is printed between.
use Rattle.std.specs.Prelude.{ℕ, Bool, true, false, List, [], ◌++◌, codes}
use Rattle.print_meaning.specs.PrintedItems.{Gap}

-- nothing, or the parenthesis that opens
abbrev pub opening : Bool → List ℕ
opening true = []
opening false = codes "("

-- nothing, or the parenthesis that closes, and the gap
abbrev pub closing : Bool → Gap → List ℕ
closing true gap = []
closing false gap = codes ")" ++ gap

-- the gap behind the expression itself
abbrev pub inner_gap : Bool → Gap → Gap
inner_gap true gap = gap
inner_gap false gap = []

-- nothing follows in the parentheses
abbrev pub inner_free : Bool → Bool → Bool
inner_free true free = free
inner_free false free = true
