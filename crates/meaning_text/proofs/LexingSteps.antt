-- The plain function goes front by front, and how many fronts it may take doesn't matter.
use Rattle.std.proofs.Common.{◌≡◌, ℕ, zero, suc, ◌≤◌, Bool, true, false, List, [], ◌∷◌, length, drop, refl, ap, ◌∙◌, arith}
use Rattle.std.proofs.lemmas.List.{length-drop}
use Rattle.meaning_text.specs.Logical.{SourceByte, bytes_of}
use Rattle.meaning_text.specs.Fronts.{Front, AtEnd, AtNewLine, AtBlank, AtComment, AtToken, AtOpenComment, AtOpenLiteral, front_of}
use Rattle.meaning_text.specs.Tokens.{Context, AtLineStart, allows_header_name}
use Rattle.meaning_text.specs.Lexing.{Lexed, with_token, lexed_front, lexed_within, lexed_behind}
use Rattle.meaning_text.proofs.LexingFronts.{IsFront, front_of-IsFront}

-- what gives the tokens of a text
abbrev pub Lexer : Type 0
Lexer = Context → Bool → List SourceByte → Lexed

-- two lexers agree on the texts that are no longer than this
abbrev AgreeTo : ℕ → Lexer → Lexer → Type 0
AgreeTo most later other = (context : Context) (space : Bool) (text : List SourceByte) → length text ≤ most → later context space text ≡ other context space text

-- each front takes a byte, so what is behind it is no longer than what is behind its first byte
lexed_front-agree :
    (later other : Lexer) (allowed : Bool) (context : Context) (space : Bool) (first : SourceByte) (rest : List SourceByte) (front : Front) →
    IsFront allowed first.byte (bytes_of rest) front → AgreeTo (length rest) later other →
    lexed_front later context space first rest front ≡ lexed_front other context space first rest front
lexed_front-agree later other allowed context space first rest AtEnd is agree = refl
lexed_front-agree later other allowed context space first rest AtNewLine is agree = agree AtLineStart true rest (omega arith)
lexed_front-agree later other allowed context space first rest AtBlank is agree = agree context true rest (omega arith)
lexed_front-agree later other allowed context space first rest (AtComment count) is agree =
    agree context true (drop count (first ∷ rest)) (omega (arith, length-drop count (first ∷ rest), is.some))
lexed_front-agree later other allowed context space first rest (AtToken kind count) is agree =
    ap (with_token _) (agree _ false (drop count (first ∷ rest)) (omega (arith, length-drop count (first ∷ rest), is.1.some)))
lexed_front-agree later other allowed context space first rest AtOpenComment is agree = refl
lexed_front-agree later other allowed context space first rest AtOpenLiteral is agree = refl

-- as many fronts as there are bytes are enough
pub lexed_within-enough :
    (fronts others : ℕ) (context : Context) (space : Bool) (text : List SourceByte) → length text ≤ fronts → length text ≤ others →
    lexed_within fronts context space text ≡ lexed_within others context space text
lexed_within-enough fronts others context space [] enough also = refl
lexed_within-enough zero others context space (first ∷ rest) enough also = absurd (omega arith)
lexed_within-enough (suc fronts) zero context space (first ∷ rest) enough also = absurd (omega arith)
lexed_within-enough (suc fronts) (suc others) context space (first ∷ rest) enough also =
    lexed_front-agree (lexed_within fronts) (lexed_within others) (allows_header_name context) context space first rest _
    (front_of-IsFront (allows_header_name context) first.byte (bytes_of rest))
    (λ later_context later_space text within. lexed_within-enough fronts others later_context later_space text (omega arith) (omega arith))

-- the tokens of a text by its front
pub lexed_behind-front :
    (context : Context) (space : Bool) (first : SourceByte) (rest : List SourceByte) →
    lexed_behind context space (first ∷ rest)
    ≡ lexed_front lexed_behind context space first rest (front_of (allows_header_name context) (bytes_of (first ∷ rest)))
lexed_behind-front context space first rest =
    lexed_front-agree (lexed_within (length rest)) lexed_behind (allows_header_name context) context space first rest _
    (front_of-IsFront (allows_header_name context) first.byte (bytes_of rest))
    (λ later_context later_space text within. lexed_within-enough (length rest) (length text) later_context later_space text within (omega arith))

pub lexed_behind-at :
    (context : Context) (space : Bool) (first : SourceByte) (rest : List SourceByte) (front : Front) →
    front_of (allows_header_name context) (bytes_of (first ∷ rest)) ≡ front →
    lexed_behind context space (first ∷ rest) ≡ lexed_front lexed_behind context space first rest front
lexed_behind-at context space first rest front is =
    lexed_behind-front context space first rest ∙ ap (lexed_front lexed_behind context space first rest) is
