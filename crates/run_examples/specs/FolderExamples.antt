-- Worked examples of folders, and of the generator's draws.
use Rattle.std.specs.Prelude.{◌≡◌, ℕ, true, false, List, [], ◌∷◌, None, map, codes, if◌then◌else◌}
use Rattle.lf_meaning.specs.Terms.{Ty}
use Rattle.lf_meaning.specs.Signatures.{KindClass, Declaration}
use Rattle.name_meaning.specs.Names.{same_name, Name, Text}
use Rattle.edit_log_meaning.specs.Log.{Put, Drop, Library, edited_name, library_of}
use Rattle.module_graph_meaning.specs.Walks.{Dependencies}
use Rattle.library_meaning.specs.Faces.{TheoryFace}
use Rattle.printing_meaning.specs.VerdictLines.{Judged, Refused, AcceptedTheory}
use Rattle.printing_meaning.specs.CarriedLines.{NoView}
use Rattle.run_meaning.specs.Judging.{Judging}
use Rattle.run_meaning.specs.Files.{File}
use Rattle.run_meaning.specs.Folders.{folder_output, has_refusal}
use Rattle.run_meaning.specs.Generator.{upper_bits, parent_of, edited_module, module_text, generated, grounded_names, asked_after}

abbrev pub file : List ℕ → List ℕ → File
file name bytes = record { name = name; bytes = bytes }

abbrev pub PrintsFolder : List File → List ℕ → Type 0
PrintsFolder files text = (judging : Judging) → folder_output judging files ≡ text

abbrev pub EmptyFolder : Type 0
EmptyFolder = PrintsFolder [] (codes "files 0 modules 0 accepted 0 refused 0\n")

-- A file of another kind is left out, and one without a module is loaded.
abbrev pub OtherFiles : Type 0
OtherFiles = PrintsFolder (file (codes "notes") (codes "foo") ∷ file (codes "a.elf") (codes "% nothing\n") ∷ []) (codes "files 1 modules 0 accepted 0 refused 0\n")

abbrev pub BadFiles : Type 0
BadFiles =
    PrintsFolder (file (codes "c.elf") (codes "%mode a.") ∷ file (codes "b.elf") (codes "\n%sig A = { }") ∷ [])
    (codes "b.elf refused 2:13 syntax\nc.elf refused 1:1 unsupported\nfiles 2 modules 0 accepted 0 refused 0\n")

-- Two theories, of which the second is refused at a misspelled name. What is judged is written out here.
abbrev pub of_kind : Name → Declaration
of_kind name = record { name = record { theory = codes "Nat"; path = name ∷ [] }; class = KindClass Ty; value = None }

abbrev pub three : TheoryFace
three = record {
  name = codes "Nat";
  own = of_kind (codes "nat") ∷ of_kind (codes "z") ∷ of_kind (codes "s") ∷ [];
  includes = [];
  structures = [];
}

abbrev pub judged_so : Library → Name → Judged
judged_so library name =
    if same_name name (codes "User") then Refused (record { at = 42; rule = codes "unknown-name"; label = codes "one" ∷ [] }) else AcceptedTheory three

abbrev pub judging_so : Judging
judging_so = record {
  dependencies = λ (name : Name) (text : Text). [];
  judged = judged_so;
  carried = λ (library : Library) (name : Name) (text : Text). NoView;
}

abbrev pub numbers_file : File
numbers_file =
    file (codes "nat.elf") (codes "%sig Nat = {\nnat : type.\nz : nat.\ns : nat -> nat.\n}.\n%sig User = {\n%include Nat.\none : nat = s zz.\n}.\n")

abbrev pub PlacesAreInFiles : Type 0
PlacesAreInFiles =
    folder_output judging_so (numbers_file ∷ file (codes "bad.elf") (codes "foo") ∷ [])
    ≡ codes "bad.elf refused 1:1 syntax\nNat @2 accepted theory 3\nUser @2 refused nat.elf:8:15 unknown-name one\nfiles 2 modules 2 accepted 1 refused 1\n"

-- A name that an earlier file has; nothing of the file is loaded.
abbrev pub SecondOfName : Type 0
SecondOfName =
    folder_output judging_so (numbers_file ∷ file (codes "z.elf") (codes "%sig B = { }.\n%sig Nat = { }.") ∷ [])
    ≡ codes "z.elf refused 2:6 duplicate-name Nat\nNat @2 accepted theory 3\nUser @2 refused nat.elf:8:15 unknown-name one\nfiles 2 modules 2 accepted 1 refused 1\n"

-- A name that an earlier module of the same file has.
abbrev pub SecondInFile : Type 0
SecondInFile =
    PrintsFolder (file (codes "a.elf") (codes "%sig A = { }.\n%sig B = { }.\n%sig A = { }.") ∷ [])
    (codes "a.elf refused 3:6 duplicate-name A\nfiles 1 modules 0 accepted 0 refused 0\n")

-- A file whose name is the ending alone.
abbrev pub EndingAlone : Type 0
EndingAlone = PrintsFolder (file (codes ".elf") [] ∷ []) (codes "files 1 modules 0 accepted 0 refused 0\n")

-- Of two files with one name the first counts.
abbrev pub FirstOfName : Type 0
FirstOfName =
    PrintsFolder (file (codes "a.elf") (codes "foo") ∷ file (codes "a.elf") (codes "% nothing\n") ∷ [])
    (codes "a.elf refused 1:1 syntax\nfiles 1 modules 0 accepted 0 refused 0\n")

-- A refused module is a refusal, and so is a refused file; an accepted module is none.
abbrev pub RefusalsAreSeen : Type 0
RefusalsAreSeen =
    map (has_refusal judging_so) ((numbers_file ∷ []) ∷ (file (codes "bad.elf") (codes "foo") ∷ []) ∷ (file (codes "a.elf") (codes "%sig Nat = { }.") ∷ []) ∷ [])
    ≡ true ∷ true ∷ false ∷ []

-- The draws of `gen 1 5 3`: four parents and three edited modules.
abbrev pub DrawsAreMade : Type 0
DrawsAreMade = map (upper_bits 1) (1 ∷ 2 ∷ 3 ∷ 4 ∷ 5 ∷ 6 ∷ 7 ∷ []) ≡ 16838 ∷ 5758 ∷ 10113 ∷ 17515 ∷ 31051 ∷ 5627 ∷ 23010 ∷ []

abbrev pub ParentsAreDrawn : Type 0
ParentsAreDrawn = map (parent_of 1) (1 ∷ 2 ∷ 3 ∷ 4 ∷ []) ≡ 0 ∷ 0 ∷ 0 ∷ 3 ∷ []

abbrev pub EditsAreDrawn : Type 0
EditsAreDrawn = map (edited_module 1 5) (1 ∷ 2 ∷ 3 ∷ []) ≡ 1 ∷ 2 ∷ 0 ∷ []

abbrev pub TextsAreMade : Type 0
TextsAreMade = map (λ (revision : ℕ). module_text 1 4 revision) (0 ∷ 12 ∷ []) ≡ codes "%sig G4 = {\n%include G3.\n%struct s : G3.\nt : type.\nc0 : t.\n}.\n" ∷ codes "%sig G4 = {\n%include G3.\n%struct s : G3.\nt : type.\nc12 : t.\n}.\n" ∷ []

abbrev pub FirstHasNoParent : Type 0
FirstHasNoParent = module_text 1 0 0 ≡ codes "%sig G0 = {\nt : type.\nc0 : t.\n}.\n"

abbrev pub EditsStandInOrder : Type 0
EditsStandInOrder =
    map edited_name (generated 1 5 3)
    ≡ codes "G0" ∷ codes "G1" ∷ codes "G2" ∷ codes "G3" ∷ codes "G4" ∷ codes "G1" ∷ codes "G2" ∷ codes "G0" ∷ []

-- Where each byte of a text names a dependency: A names B, then B names A, so that both are ungrounded, and then B is
-- dropped. The first and the last edit ask for the verdict of A, and the second for none.
abbrev pub letters : Dependencies
letters name text = map (λ (byte : ℕ). byte ∷ []) text

abbrev pub UngroundedAreNotInstalled : Type 0
UngroundedAreNotInstalled =
    asked_after letters [] (Put (codes "A") (codes "B") ∷ Put (codes "B") (codes "A") ∷ Drop (codes "B") ∷ []) ≡ 2

abbrev pub UngroundedAreLeftOut : Type 0
UngroundedAreLeftOut =
    grounded_names letters (library_of (Put (codes "A") (codes "B") ∷ Put (codes "B") (codes "A") ∷ Put (codes "C") [] ∷ [])) ≡ codes "C" ∷ []
