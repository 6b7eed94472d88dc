-- The simple type of a value that took an argument.
use Rattle.lf_meaning.specs.Terms.{Simple, Base, Arrow}

-- The codomain of an arrow; a base stays.
abbrev pub codomain_of : Simple → Simple
codomain_of (Base c) = Base c
codomain_of (Arrow s t) = t
