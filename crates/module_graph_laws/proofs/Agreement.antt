-- Libraries that agree on the reach of a name.
use Rattle.std.proofs.Common.{◌≡◌, ℕ, zero, suc, true, not, List, length, is_some, ◌&&◌, sym, ap, ◌∙◌, subst}
use Rattle.std.specs.Cmp.{both_ways}
use Rattle.name_meaning.specs.Names.{Name}
use Rattle.edit_log_meaning.specs.Log.{Library, text_of, is_present}
use Rattle.module_graph_meaning.specs.Walks.{Dependencies, of_text, direct, walking, is_ungrounded, is_grounded}
use Rattle.module_graph_meaning.specs.Reach.{reach, AgreesOn}
use Rattle.list_laws.proofs.Members.{Member}
use Rattle.name_laws.proofs.Order.{member_among}
use Rattle.module_graph_laws.proofs.Walking.{present_in, in_present, walking_step, walking_next, walks_on, ungrounded_in, in_ungrounded}
use Rattle.module_graph_laws.proofs.Reaching.{one_list, IsClosed, reach_closed, reach_first, reach_ascending, reach_least}

pub direct_same : (dependencies : Dependencies) (library other : Library) (n : Name) → text_of library n ≡ text_of other n → direct dependencies library n ≡ direct dependencies other n
unfolding direct
direct_same dependencies library other n e = ap (of_text (dependencies n)) e

-- names that are closed under the dependencies of a library, on which the two agree
abbrev Agree : Library → Library → List Name → Type 0
Agree library other names = (x : Name) → Member x names → text_of library x ≡ text_of other x

closed_same : (dependencies : Dependencies) (library other : Library) (name : Name) (names : List Name) → Agree library other names → IsClosed dependencies library name names → IsClosed dependencies other name names
closed_same dependencies library other name names a c x d m n =
    c x d m (subst (Member d) (sym (direct_same dependencies library other x (a x m))) n)

walking_same : (dependencies : Dependencies) (library other : Library) (name : Name) (names : List Name) → Agree library other names → IsClosed dependencies library name names
    → (k : ℕ) (x : Name) → Member x names → Member x (walking dependencies library k) → Member x (walking dependencies other k)
unfolding walking
walking_same dependencies library other name names a c zero x m w =
    present_in dependencies other x (ap is_some (sym (a x m)) ∙ in_present dependencies library x w)
walking_same dependencies library other name names a c (suc k) x m w =
    let q = walking_next dependencies library k x w in
    walking_step dependencies other k x q.0 (subst (Member q.0) (direct_same dependencies library other x (a x m)) q.1)
    (walking_same dependencies library other name names a c k q.0 (c x q.0 m q.1) q.2)

ungrounded_same : (dependencies : Dependencies) (library other : Library) (name : Name) (names : List Name) → Agree library other names → IsClosed dependencies library name names
    → Member name names → is_ungrounded dependencies library name ≡ true → is_ungrounded dependencies other name ≡ true
ungrounded_same dependencies library other name names a c m h =
    in_ungrounded dependencies other name (walking_same dependencies library other name names a c (length other) name m (walks_on dependencies library name (ungrounded_in dependencies library name h) (length other)))

module _ (dependencies : Dependencies) (library other : Library) (name : Name) (agrees : AgreesOn library other (reach dependencies library name)) where
  agree_on : Agree library other (reach dependencies library name)
  agree_on x m = agrees x (member_among (reach dependencies library name) x m)

  agree_back : Agree other library (reach dependencies library name)
  agree_back x m = sym (agree_on x m)

  closed : IsClosed dependencies library name (reach dependencies library name)
  closed = reach_closed dependencies library name

  closed_other : IsClosed dependencies other name (reach dependencies library name)
  closed_other = closed_same dependencies library other name (reach dependencies library name) agree_on closed

  first : Member name (reach dependencies library name)
  first = reach_first dependencies library name

  -- the other's reach is within this one's, so that they agree on it
  other_within : (x : Name) → Member x (reach dependencies other name) → Member x (reach dependencies library name)
  other_within = reach_least dependencies other name (reach dependencies library name) closed_other first

  within_other : (x : Name) → Member x (reach dependencies library name) → Member x (reach dependencies other name)
  within_other =
      reach_least dependencies library name (reach dependencies other name)
      (closed_same dependencies other library name (reach dependencies other name) back (reach_closed dependencies other name)) (reach_first dependencies other name)
    where
      back : Agree other library (reach dependencies other name)
      back x m = sym (agree_on x (other_within x m))

  pub reach_same : reach dependencies other name ≡ reach dependencies library name
  reach_same = one_list (reach dependencies other name) (reach dependencies library name) (reach_ascending dependencies other name) (reach_ascending dependencies library name) other_within within_other

  pub ungrounded_agrees : is_ungrounded dependencies other name ≡ is_ungrounded dependencies library name
  ungrounded_agrees =
      both_ways (is_ungrounded dependencies other name) (is_ungrounded dependencies library name)
      (ungrounded_same dependencies other library name (reach dependencies library name) agree_back closed_other first)
      (ungrounded_same dependencies library other name (reach dependencies library name) agree_on closed first)

  pub present_same : is_present other name ≡ is_present library name
  present_same = ap is_some (sym (agree_on name first))

  pub grounded_same : is_grounded dependencies other name ≡ is_grounded dependencies library name
  grounded_same = λ i. present_same i && not (ungrounded_agrees i)
