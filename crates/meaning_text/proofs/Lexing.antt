-- Each text has one answer: its tokens, or its fault.
use Rattle.std.proofs.Common.{◌≡◌, List, ◌⊎◌, inl, inr, refl, subst}
use Rattle.meaning_text.specs.Logical.{SourceByte}
use Rattle.meaning_text.specs.Tokens.{Tok, Context, LexFault}
use Rattle.meaning_text.specs.Lexing.{Lexed, Tokens, Refused, lexed}
use Rattle.meaning_text.specs.laws.Tokens.{TokensExist, TokensAreUnique, FaultsExist, FaultsAreUnique, HasTokensAlone, HasFaultAlone, EachTextHasOneAnswer}
use Rattle.meaning_text.proofs.LexingTokens.{lexed-Lexes, lexed-Opens}
use Rattle.meaning_text.proofs.LexingAnswers.{HasAnswer, HasAnswer-lexed}

pub tokens_exist : TokensExist
tokens_exist context text tokens is = subst (HasAnswer context text) is (HasAnswer-lexed context text)

pub tokens_are_unique : TokensAreUnique
tokens_are_unique = lexed-Lexes

pub faults_exist : FaultsExist
faults_exist context text fault is = subst (HasAnswer context text) is (HasAnswer-lexed context text)

pub faults_are_unique : FaultsAreUnique
faults_are_unique = lexed-Opens

has_tokens_alone : (context : Context) (text : List SourceByte) (tokens : List Tok) → lexed context text ≡ Tokens tokens → HasTokensAlone context text tokens
has_tokens_alone context text tokens is = record {
  has = tokens_exist context text tokens is;
  no_others = λ others lexes. let also = lexed-Lexes context text others lexes in cc;
  no_fault = λ fault opens. let also = lexed-Opens context text fault opens in cc;
}

has_fault_alone : (context : Context) (text : List SourceByte) (fault : LexFault) → lexed context text ≡ Refused fault → HasFaultAlone context text fault
has_fault_alone context text fault is = record {
  has = faults_exist context text fault is;
  no_other = λ other opens. let also = lexed-Opens context text other opens in cc;
  no_tokens = λ tokens lexes. let also = lexed-Lexes context text tokens lexes in cc;
}

one_answer :
    (context : Context) (text : List SourceByte) (answer : Lexed) → lexed context text ≡ answer →
    ((tokens : List Tok) × HasTokensAlone context text tokens) ⊎ ((fault : LexFault) × HasFaultAlone context text fault)
one_answer context text (Tokens tokens) is = inl (tokens, has_tokens_alone context text tokens is)
one_answer context text (Refused fault) is = inr (fault, has_fault_alone context text fault is)

pub each_text_has_one_answer : EachTextHasOneAnswer
each_text_has_one_answer context text = one_answer context text (lexed context text) refl
