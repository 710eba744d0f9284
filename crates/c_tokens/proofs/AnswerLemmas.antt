-- What the answer of the plain function says of the tokens and the faults of a text.
use Rattle.std.proofs.Common.{◌≡◌, ℕ, List, Option, Some, None, IfSome, sym, ◌∙◌}
use Rattle.meaning_text.specs.Logical.{logical_text}
use Rattle.meaning_text.specs.Tokens.{Tok, AtLineStart, LexFault, LexesFile, OpensFile}
use Rattle.meaning_text.specs.Lexing.{Tokens, Refused, lexed_file}
use Rattle.meaning_text.proofs.Lexing.{tokens_exist, tokens_are_unique, faults_exist, faults_are_unique}

pub IfSome-weaker : {X : Type 0} (found : Option X) (P Q : X → Type 0) → ((x : X) → P x → Q x) → IfSome found P → IfSome found Q
IfSome-weaker None P Q weaker holds = holds
IfSome-weaker (Some x) P Q weaker holds = weaker x holds

pub LexesFile-lexed : (file : ℕ) (text : List ℕ) (tokens : List Tok) → lexed_file file text ≡ Tokens tokens → LexesFile file text tokens
LexesFile-lexed file text tokens is = tokens_exist AtLineStart (logical_text file text) tokens is

pub LexesFile-alike :
    (file : ℕ) (text : List ℕ) (tokens : List Tok) → lexed_file file text ≡ Tokens tokens → (others : List Tok) → LexesFile file text others → others ≡ tokens
LexesFile-alike file text tokens is others lexes =
    let also : Tokens others ≡ Tokens tokens = sym (tokens_are_unique AtLineStart (logical_text file text) others lexes) ∙ is in
    cc

pub OpensFile-none :
    (file : ℕ) (text : List ℕ) (tokens : List Tok) → lexed_file file text ≡ Tokens tokens → (fault : LexFault) → OpensFile file text fault → ⊥
OpensFile-none file text tokens is fault opens =
    let also : Refused fault ≡ Tokens tokens = sym (faults_are_unique AtLineStart (logical_text file text) fault opens) ∙ is in
    cc

pub OpensFile-lexed : (file : ℕ) (text : List ℕ) (fault : LexFault) → lexed_file file text ≡ Refused fault → OpensFile file text fault
OpensFile-lexed file text fault is = faults_exist AtLineStart (logical_text file text) fault is

pub OpensFile-alike :
    (file : ℕ) (text : List ℕ) (fault : LexFault) → lexed_file file text ≡ Refused fault → (other : LexFault) → OpensFile file text other → other ≡ fault
OpensFile-alike file text fault is other opens =
    let also : Refused other ≡ Refused fault = sym (faults_are_unique AtLineStart (logical_text file text) other opens) ∙ is in
    cc

pub LexesFile-none :
    (file : ℕ) (text : List ℕ) (fault : LexFault) → lexed_file file text ≡ Refused fault → (tokens : List Tok) → LexesFile file text tokens → ⊥
LexesFile-none file text fault is tokens lexes =
    let also : Tokens tokens ≡ Refused fault = sym (tokens_are_unique AtLineStart (logical_text file text) tokens lexes) ∙ is in
    cc
