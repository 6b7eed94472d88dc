-- The tests of whole modules, by the steps that the code takes.
use Rattle.std.proofs.Common.{◌≡◌, ℕ, true, false, length, Ok, Err, sym, ap, ◌∙◌, List}
use Rattle.name_meaning.specs.Names.{Name, same_name}
use Rattle.answer_meaning.specs.Answers.{◌>>=◌}
use Rattle.text_meaning.specs.Trees.{Written, Decl, Module, SigModule, first_name}
use Rattle.library_meaning.specs.Faces.{TheoryFace, Environment, flat_signature}
use Rattle.elaborate_meaning.specs.Rules.{Rule}
use Rattle.link_meaning.specs.Refusals.{demand}
use Rattle.verdict_meaning.specs.Modules.{declare_all, empty_theory}
use Rattle.verdict_meaning.specs.Verdicts.{Theory, checked, judge_tree, written_name}
use Rattle.link_setting.specs.Answers.{IsFirstRefusal}
use Rattle.link_setting.specs.declared.fault.LinkFault.{LinkFault}
use Rattle.link_setting.specs.declared.fault.LinkFault.TheVariants.{Broken, Memory}
use Rattle.module_verdicts.specs.Answers.{IsRefusalOf}

-- The interface of a theory from its face and its size.
pub theory_made : (environment : Environment) (name : Written) (decls : List Decl) (face : TheoryFace) (size : ℕ) → declare_all environment (empty_theory (first_name name.path)) decls ≡ Ok face
    → size ≡ length (flat_signature environment face) → checked environment (SigModule name decls) ≡ Ok (Theory face size)
theory_made environment name decls face size h e = ap (λ z. z >>= (λ f. Ok (Theory f (length (flat_signature environment f))))) h ∙ ap (λ z. Ok (Theory face z)) (sym e)

-- A module that is written with another name.
pub wrong_name : (environment : Environment) (name : Name) (tree : Module) (fault : LinkFault) → same_name (first_name (written_name tree).path) name ≡ false
    → IsRefusalOf fault (record { span = (written_name tree).span; rule = Rule.WrongName; label = (written_name tree).path }) → IsFirstRefusal fault (judge_tree environment (λ other. false) name tree false)
wrong_name environment name tree (Broken refusal) h e = ap (λ b. demand b (written_name tree).span Rule.WrongName (written_name tree).path >>= (λ done. checked environment tree)) h ∙ ap Err (sym e)
wrong_name environment name tree Memory h e = tt

-- A module that is written with its name is checked.
pub right_name : (environment : Environment) (name : Name) (tree : Module) → same_name (first_name (written_name tree).path) name ≡ true → judge_tree environment (λ other. false) name tree false ≡ checked environment tree
right_name environment name tree h = ap (λ b. demand b (written_name tree).span Rule.WrongName (written_name tree).path >>= (λ done. checked environment tree)) h
