-- A long form is one head with one row of arguments under λs.
use Rattle.std.proofs.Common.{◌≡◌, ℕ, suc, ◌+◌, List, [], ◌∷◌, ◌++◌, ◌-◌, map, sym, ap, ap₂, ◌∙◌, arith}
use Rattle.std.proofs.lemmas.List.{append_assoc}
use Rattle.lf_meaning.specs.Terms.{Constant, Object, Lam, At, Atomic, Var, App, Family, FamilyCon, Kind, PiKind, Simple, Base, Arrow, apply_all, family_apply_all, domain_count}
use Rattle.lf_meaning.specs.Raising.{raise, raise_atomic}
use Rattle.lf_meaning.specs.Erasure.{erase}
use Rattle.lf_substitution_laws.proofs.Indices.{raised_above}
use Rattle.lf_substitution_laws.proofs.Raising.{raise_atomic_by_zero, raise_atomic_twice}
use Rattle.lf_term_laws.proofs.Spines.{raise_applied, map_applied, apply_all_appended, family_apply_all_appended}
use Rattle.eta_meaning.specs.LongTerms.{eta, eta_family}
use Rattle.eta_laws.specs.LongTermLaws.{domain_variables}
use Rattle.eta_laws.proofs.LongTerms.{raise_free_variable}
use Rattle.eta_laws.proofs.LongFamilies.{eta_family_is_applied}
use Rattle.term_trees.specs.Readings.{read_object, read_objects}
use Rattle.term_trees.specs.declared.obj.Obj.{Obj}
use Rattle.term_trees.proofs.ReadingEquations.{read_objects_joined}
use Rattle.hereditary_subst.specs.LongForms.{arity, under_lambdas, arrow_variables}

-- an atomic object raised over one binder and then over k more
raise_once_more : (k : ℕ) (r : Atomic) → raise_atomic k 0 (raise_atomic 1 0 r) ≡ raise_atomic (suc k) 0 r
raise_once_more k r = raise_atomic_twice 1 k 0 0 r (omega arith) (omega arith) ∙ ap (λ i. raise_atomic i 0 r) (omega arith)

pub eta_is_applied : (t : Simple) (r : Atomic) → eta t r ≡ under_lambdas (arity t) (At (apply_all (raise_atomic (arity t) 0 r) (arrow_variables t)))
eta_is_applied (Base c) r = ap At (sym (raise_atomic_by_zero 0 r))
eta_is_applied (Arrow s t) r =
    ap Lam (eta_is_applied t (App (raise_atomic 1 0 r) (eta s (Var 0)))
    ∙ ap (λ q. under_lambdas (arity t) (At (apply_all q (arrow_variables t)))) (ap₂ App (raise_once_more (arity t) r) (raise_free_variable (arity t) s)))

-- the long form of a head with arguments, which are raised in front of those of the domains
pub eta_of_applied : (t : Simple) (r : Atomic) (ms : List Object) → eta t (apply_all r ms) ≡ under_lambdas (arity t) (At (apply_all (raise_atomic (arity t) 0 r) (map (raise (arity t) 0) ms ++ arrow_variables t)))
eta_of_applied t r ms =
    eta_is_applied t (apply_all r ms)
    ∙ ap (λ q. under_lambdas (arity t) (At q)) (ap (λ q. apply_all q (arrow_variables t)) (raise_applied (arity t) 0 r ms) ∙ sym (apply_all_appended (raise_atomic (arity t) 0 r) (map (raise (arity t) 0) ms) (arrow_variables t)))

pub eta_family_of_applied : (k : Kind) (c : Constant) (ms : List Object) → eta_family k (family_apply_all (FamilyCon c) ms) ≡ family_apply_all (FamilyCon c) (map (raise (domain_count k) 0) ms ++ domain_variables k)
eta_family_of_applied k c ms =
    eta_family_is_applied k (family_apply_all (FamilyCon c) ms)
    ∙ ap (λ p. family_apply_all p (domain_variables k)) (map_applied (raise (domain_count k)) 0 (FamilyCon c) ms)
    ∙ sym (family_apply_all_appended (FamilyCon c) (map (raise (domain_count k) 0) ms) (domain_variables k))

-- what is built of a head and arguments that were raised
pub eta_built : (t : Simple) (h : Atomic) (ms : List Object) (count : ℕ) (head : Atomic) (arguments : List Object) → count ≡ arity t → head ≡ raise_atomic count 0 h → arguments ≡ map (raise count 0) ms
    → under_lambdas count (At (apply_all head (arguments ++ arrow_variables t))) ≡ eta t (apply_all h ms)
eta_built t h ms count head arguments counted lifted given =
    ap (λ q. under_lambdas count (At (apply_all q (arguments ++ arrow_variables t)))) lifted
    ∙ ap (λ ns. under_lambdas count (At (apply_all (raise_atomic count 0 h) (ns ++ arrow_variables t)))) given
    ∙ ap (λ n. under_lambdas n (At (apply_all (raise_atomic n 0 h) (map (raise n 0) ms ++ arrow_variables t)))) counted
    ∙ sym (eta_of_applied t h ms)

-- the same of a variable without arguments
pub variable_built : (t : Simple) (i count index : ℕ) (arguments : List Object) → count ≡ arity t → index ≡ i + count → arguments ≡ []
    → under_lambdas count (At (apply_all (Var index) (arguments ++ arrow_variables t))) ≡ eta t (Var i)
variable_built t i count index arguments counted lifted none =
    eta_built t (Var i) [] count (Var index) arguments counted (ap Var (lifted ∙ sym (raised_above count 0 i (omega arith)))) none

pub family_built : (k : Kind) (c : Constant) (ms : List Object) (count : ℕ) (arguments all : List Object) → count ≡ domain_count k → arguments ≡ map (raise count 0) ms → all ≡ arguments ++ domain_variables k
    → family_apply_all (FamilyCon c) all ≡ eta_family k (family_apply_all (FamilyCon c) ms)
family_built k c ms count arguments all counted given whole =
    ap (family_apply_all (FamilyCon c)) (whole ∙ ap (λ ns. ns ++ domain_variables k) (given ∙ ap (λ n. map (raise n 0) ms) counted))
    ∙ sym (eta_family_of_applied k c ms)

-- one λ more, around those that are there
pub one_lambda_more : (n : ℕ) (m : Object) → Lam (under_lambdas n m) ≡ under_lambdas (n + 1) m
one_lambda_more n m = let more : suc n ≡ n + 1 = omega arith in ap (λ k. under_lambdas k m) more

-- one argument is pushed, and the others are still to come
pub pushed_before : (items more : List Obj) (pushed : Obj) (m : Object) (rest : List Object) → more ≡ items ++ pushed ∷ [] → read_object pushed ≡ m → read_objects more ++ rest ≡ read_objects items ++ m ∷ rest
pushed_before items more pushed m rest made is =
    ap (λ (all : List Obj). read_objects all ++ rest) made
    ∙ ap (λ ms. ms ++ rest) (read_objects_joined items (pushed ∷ []))
    ∙ append_assoc (read_objects items) (read_object pushed ∷ []) rest
    ∙ ap (λ (first : Object). read_objects items ++ first ∷ rest) is

-- one domain is done, and those of the codomain, or of the body, are left
pub arrow_further : (u s t : Simple) (index : ℕ) (items more : List Obj) (pushed : Obj) (whole : List Object) → u ≡ Arrow s t → index ≡ arity u → more ≡ items ++ pushed ∷ [] → read_object pushed ≡ eta s (Var (index - 1))
    → read_objects items ++ arrow_variables u ≡ whole → (index - 1 ≡ arity t) × (read_objects more ++ arrow_variables t ≡ whole)
arrow_further u s t index items more pushed whole is counted made long held =
    let all : index ≡ suc (arity t) = counted ∙ ap arity is in
    let less : index - 1 ≡ arity t = omega (arith, all) in
    (less, pushed_before items more pushed (eta s (Var (arity t))) (arrow_variables t) made (long ∙ ap (λ i. eta s (Var i)) less) ∙ ap (λ v. read_objects items ++ arrow_variables v) (sym is) ∙ held)

pub kind_further : (l : Kind) (a : Family) (k : Kind) (index : ℕ) (items more : List Obj) (pushed : Obj) (whole : List Object) → l ≡ PiKind a k → index ≡ domain_count l → more ≡ items ++ pushed ∷ [] → read_object pushed ≡ eta (erase a) (Var (index - 1))
    → read_objects items ++ domain_variables l ≡ whole → (index - 1 ≡ domain_count k) × (read_objects more ++ domain_variables k ≡ whole)
kind_further l a k index items more pushed whole is counted made long held =
    let all : index ≡ suc (domain_count k) = counted ∙ ap domain_count is in
    let less : index - 1 ≡ domain_count k = omega (arith, all) in
    (less, pushed_before items more pushed (eta (erase a) (Var (domain_count k))) (domain_variables k) made (long ∙ ap (λ i. eta (erase a) (Var i)) less) ∙ ap (λ v. read_objects items ++ domain_variables v) (sym is) ∙ held)
