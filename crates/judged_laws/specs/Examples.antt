-- Worked cases: whole scripts, a folder and the generator, with the verdicts of the rules.
use Rattle.std.specs.Prelude.{◌≡◌, ℕ, List, [], ◌∷◌, ◌++◌, codes}
use Rattle.edit_log_meaning.specs.Log.{library_of}
use Rattle.run_meaning.specs.Files.{File}
use Rattle.run_meaning.specs.Generator.{declarations_of}
use Rattle.run_meaning.specs.ScriptLogs.{script_log}
use Rattle.judged_meaning.specs.JudgingByRules.{rules}
use Rattle.judged_meaning.specs.Outputs.{play_output, check_output, generate_output}

abbrev pub put_numbers : List ℕ
put_numbers = codes "put Nat\n%sig Nat = {\nnat : type.\nz : nat.\ns : nat -> nat.\n}.\n%%end\n"

abbrev pub NaturalNumbers : Type 0
NaturalNumbers = play_output (put_numbers ++ codes "report Nat\nlog\n") ≡ codes "@1 put Nat\nNat @1 accepted theory 3\n@1 log\n1 put Nat 53\n"

abbrev pub MisspelledName : Type 0
MisspelledName =
    play_output (codes "put Nat\n%sig Nat = {\nnat : type.\nz : nat.\ns : nat -> nta.\n}.\n%%end\nreport Nat\n")
    ≡ codes "@1 put Nat\nNat @1 refused 4:12 unknown-name s\n"

abbrev pub Monoid : Type 0
Monoid =
    play_output (codes "put FOL\n%sig FOL = {\ni : type.\no : type.\npf : o -> type.\neq : i -> i -> o.\nall : (i -> o) -> o.\n}.\n%%end\nput Magma\n%sig Magma = {\n%include FOL.\nop : i -> i -> i.\n}.\n%%end\nput Monoid\n%sig Monoid = {\n%include FOL.\n%struct mag : Magma.\ne : i.\nleft : {x:i} pf (eq (mag.op e x) x).\nright : {x:i} pf (eq (mag.op x e) x).\n}.\n%%end\ncheck\nflat Monoid\n")
    ≡ codes "@1 put FOL\n@2 put Magma\n@3 put Monoid\nFOL @3 accepted theory 5\nMagma @3 accepted theory 6\nMonoid @3 accepted theory 9\nMonoid @3 flat 9\nFOL.i : type.\nFOL.o : type.\nFOL.pf : FOL.o -> type.\nFOL.eq : FOL.i -> FOL.i -> FOL.o.\nFOL.all : (FOL.i -> FOL.o) -> FOL.o.\nmag.op : FOL.i -> FOL.i -> FOL.i.\ne : FOL.i.\nleft : {x1:FOL.i} FOL.pf (FOL.eq (mag.op e x1) x1).\nright : {x1:FOL.i} FOL.pf (FOL.eq (mag.op x1 e) x1).\n"

abbrev pub AssignedStructure : Type 0
AssignedStructure =
    play_output (codes "put Car\n%sig Car = {\na : type.\nop : a -> a -> a.\n}.\n%%end\nput Nat\n%sig Nat = {\nnat : type.\nz : nat.\ns : nat -> nat.\nplus : nat -> nat -> nat.\n%struct m : Car = { a := nat. op := plus. }.\n}.\n%%end\nflat Nat\n")
    ≡ codes "@1 put Car\n@2 put Nat\nNat @2 flat 6\nnat : type.\nz : nat.\ns : nat -> nat.\nplus : nat -> nat -> nat.\nm.a : type = nat.\nm.op : nat -> nat -> nat = plus.\n"

abbrev pub Ring : Type 0
Ring =
    play_output (codes "put Set\n%sig Set = { a : type. }.\n%%end\nput Mag\n%sig Mag = { %struct u : Set. op : u.a -> u.a -> u.a. }.\n%%end\nput Ring\n%sig Ring = { %struct add : Mag. %struct mul : Mag = { %struct u := Ring.add.u. }. }.\n%%end\nflat Ring\n")
    ≡ codes "@1 put Set\n@2 put Mag\n@3 put Ring\nRing @3 flat 4\nadd.u.a : type.\nadd.op : add.u.a -> add.u.a -> add.u.a.\nmul.u.a : type = add.u.a.\nmul.op : add.u.a -> add.u.a -> add.u.a.\n"

-- The view F from S to U, where U has this line more.
abbrev pub put_view : List ℕ → List ℕ
put_view more =
    codes "put S\n%sig S = {\nt : type.\nz : t.\nf : t -> t.\napp : (t -> t) -> t.\n}.\n%%end\nput U\n%sig U = {\nu : type.\nz : u.\ng : u -> u -> u.\n" ++ more
    ++ codes "}.\n%%end\nput F\n%view F : S -> U = { t := u. z := z. f := [x] g x x. app := [h] h (h z). }.\n%%end\n"

abbrev pub CarriedJudgement : Type 0
CarriedJudgement =
    play_output (put_view [] ++ codes "carry F f (f z) : t\ncarry F app ([x] f x) : t\ncarry F f f : t\ncarry S z : t\nflat F\n")
    ≡ codes "@1 put S\n@2 put U\n@3 put F\nF @3 carries g (g z z) (g z z) : u\nF @3 carries g (g z z) (g z z) : u\nF @3 ill 3 mismatch\nS @3 no-view\nF @3 map 4\nt := u.\nz := z.\nf := [x1] g x1 x1.\napp := [x1] x1 (x1 z).\n"

abbrev pub ChangedPrefix : Type 0
ChangedPrefix =
    play_output (put_view (codes "x1 : u.\n") ++ codes "carry F f (f z) : t\ncarry F app ([x] f x) : t\ncarry F f f : t\ncarry S z : t\nflat F\n")
    ≡ codes "@1 put S\n@2 put U\n@3 put F\nF @3 carries g (g z z) (g z z) : u\nF @3 carries g (g z z) (g z z) : u\nF @3 ill 3 mismatch\nS @3 no-view\nF @3 map 4\nt := u.\nz := z.\nf := [x'1] g x'1 x'1.\napp := [x'1] x'1 (x'1 z).\n"

abbrev pub Cycle : Type 0
Cycle =
    play_output (codes "put A\n%sig A = {\n%include B.\n}.\n%%end\nput B\n%sig B = {\n%include A.\n}.\n%%end\nput C\n%sig C = {\n%include A.\n}.\n%%end\ncheck\ndrop B\ncheck\n")
    ≡ codes "@1 put A\n@2 put B\n@3 put C\nA @3 refused 2:10 cycle B\nB @3 refused 2:10 cycle A\nC @3 refused 2:10 cycle A\n@4 drop B\nA @4 refused 2:10 unknown-module B\nC @4 refused 2:10 dependency-refused A\n"

-- A folder with a file that is no module, and one with two; and the same with a misspelled name.
abbrev pub numbers_file : List ℕ → File
numbers_file name = record {
  name = codes "nat.elf";
  bytes = codes "%sig Nat = {\nnat : type.\nz : nat.\ns : nat -> nat.\n}.\n%sig User = {\n%include Nat.\none : nat = s " ++ name ++ codes ".\n}.\n";
}

abbrev pub AFolder : Type 0
AFolder =
    check_output (numbers_file (codes "z") ∷ record { name = codes "bad.elf"; bytes = codes "foo" } ∷ [])
    ≡ codes "bad.elf refused 1:1 syntax\nNat @2 accepted theory 3\nUser @2 accepted theory 4\nfiles 2 modules 2 accepted 2 refused 0\n"

abbrev pub MisspelledInFolder : Type 0
MisspelledInFolder =
    check_output (numbers_file (codes "zz") ∷ [])
    ≡ codes "Nat @2 accepted theory 3\nUser @2 refused nat.elf:8:15 unknown-name one\nfiles 1 modules 2 accepted 1 refused 1\n"

-- The generator: five modules and three edits.
abbrev pub Generator : Type 0
Generator =
    generate_output 1 5 3 0 ≡ codes "gen modules 5 edits 3 version 8 accepted 5 refused 0 declarations 32\ninstalls 12\n"

abbrev pub GeneratorWithWorkers : Type 0
GeneratorWithWorkers = generate_output 1 5 3 4 ≡ codes "gen modules 5 edits 3 version 8 accepted 5 refused 0 declarations 32\n"

-- Two theories of four and three constants, and a view of four images.
abbrev pub ImagesAreCounted : Type 0
ImagesAreCounted = declarations_of rules (library_of (script_log (put_view []))) ≡ 11
