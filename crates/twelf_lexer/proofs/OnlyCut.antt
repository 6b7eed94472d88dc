-- A text has one cut, so what is answered by a cut is answered by each.
use Rattle.std.proofs.Common.{◌≡◌, List, ℕ, Err, sym, ◌∙◌}
use Rattle.text_meaning.specs.Cut.{Lexed, IsLexed, NotUtf8, OpenComment}
use Rattle.token_laws.proofs.OneCut.{one_cut}
use Rattle.twelf_lexer.specs.Answers.{AnswersSo, IsFaultOf}
use Rattle.twelf_lexer.specs.declared.fault.LexFault.{LexFault}
use Rattle.twelf_lexer.specs.declared.fault.LexFault.TheVariants as faults

pub same_cut : (text : List ℕ) (a b : Lexed) → IsLexed text a → IsLexed text b → a ≡ b
same_cut text a b h k = let one = one_cut text in one.only a h ∙ sym (one.only b k)

pub fault_only : (text : List ℕ) (fault : LexFault) → IsFaultOf text fault → (lexed : Lexed) → IsLexed text lexed → AnswersSo text lexed (Err fault)
fault_only text (faults.NotUtf8 at) f lexed h = same_cut text lexed (NotUtf8 at) h f
fault_only text (faults.OpenComment at) f lexed h = same_cut text lexed (OpenComment at) h f
fault_only text faults.Memory f lexed h = tt
