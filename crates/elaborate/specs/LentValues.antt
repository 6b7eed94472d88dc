-- What is borrowed or made.
use Rattle.elaborate.specs.declared.lent.Lent.{Lent}
use Rattle.elaborate.specs.declared.lent.Lent.TheVariants.{Borrowed, Made}

abbrev pub value_of : {T : Type 0} → Lent T → T
value_of (Borrowed value) = value.now
value_of (Made value) = value.value
