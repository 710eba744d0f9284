-- What a clean check promises.
use Rattle.std.specs.Prelude.{◌≡◌, ℕ, List}
use Rattle.vocabulary.specs.declared.class.Class.{Class}
use Rattle.meaning_text.specs.Tokens.{Tok}
use Rattle.meaning_answer.specs.Answers.{IsCheckReply}
use Rattle.meaning_answer.specs.Reply.{Reply, Clean}
use Rattle.meaning_safety.specs.Safe.{AreSafeTokens, DeriveLinkedTree}

-- where nothing is told of tokens they are safe, if the names in their tree are linked
abbrev pub CleanChecksAreSafe : Type 0
CleanChecksAreSafe =
    (classes : List Class) (files : List (List ℕ)) (tokens undefined : List Tok) (reply : Reply) → IsCheckReply classes files tokens undefined reply
    → reply.ending ≡ Clean → DeriveLinkedTree tokens → AreSafeTokens classes tokens
