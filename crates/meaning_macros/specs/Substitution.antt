-- What a body becomes with its arguments in place (C11 6.10.3.1 to 6.10.3.3).
use Rattle.std.specs.Prelude.{ℕ, ◌+◌, Bool, false, List, [], ◌∷◌, ◌++◌, length, slice_get, Option, Some, None, unwrap_or}
use Rattle.vocabulary.specs.declared.token_kind.TokenKind.{TokenKind}
use Rattle.meaning_text.specs.Places.{At}
use Rattle.meaning_text.specs.Kinds.{kind_in}
use Rattle.meaning_macros.specs.Bodies.{Operand, OwnToken, Argument, Stringized, CommaAndRest, Chain, space_of_chain}
use Rattle.meaning_macros.specs.Hiding.{NameSet, no_names, Hiding, hides_nothing, hiding, led, space_first, put_at, set_at}
use Rattle.meaning_macros.specs.Stringizing.{string_of_argument}

-- the argument of the parameter with this number
abbrev pub argument_of : List (List Hiding) → ℕ → List Hiding
argument_of arguments k = unwrap_or (slice_get arguments k) []

-- the comma of `, ## V` goes where V's argument is empty or absent
abbrev pub comma_before : Hiding → List Hiding → List Hiding
comma_before comma [] = []
comma_before comma (t ∷ ts) = comma ∷ t ∷ ts

-- An operand beside `#` or `##`, or a token of the body, at this place. Arguments are as they were written
-- (6.10.3.1 p1).
abbrev pub operand_tokens : At → (raw : List (List Hiding)) → Operand → List Hiding
operand_tokens place raw (OwnToken t) = hides_nothing (put_at place t) ∷ []
operand_tokens place raw (Argument space k) = set_at place (argument_of raw k)
operand_tokens place raw (Stringized space k) = string_of_argument place (argument_of raw k) ∷ []
operand_tokens place raw (CommaAndRest comma space k) =
    comma_before (hides_nothing (put_at place comma)) (led space (set_at place (argument_of raw k)))

-- what `##` makes of two lists of tokens
pub data Pasted : Type 0 where
  Joins : List Hiding → Pasted
  -- two tokens don't make one; so many stand before them
  BadBehind : ℕ → Pasted

abbrev pub put_before : Hiding → Pasted → Pasted
put_before t (Joins ts) = Joins (t ∷ ts)
put_before t (BadBehind count) = BadBehind (count + 1)

-- A token that is joined with the first of some others and then has this kind, if any, and this spelling. It hides nothing:
-- it is available for further replacement (6.10.3.3 p3).
abbrev pub pasted : Hiding → Option TokenKind → List ℕ → List Hiding → Pasted
pasted left None text others = BadBehind 0
pasted left (Some kind) text others =
    Joins (record { token = record left.token { kind = kind; text = text }; hides = no_names } ∷ others)

-- The last token on the left and the first on the right become the one token that is spelled as both. An empty list joined
-- with another is that one (6.10.3.3 p2, p3).
abbrev pub paste : List Hiding → List Hiding → Pasted
paste [] right = Joins right
paste (a ∷ left) [] = Joins (a ∷ left)
paste (a ∷ []) (b ∷ right) = pasted a (kind_in false (a.token.text ++ b.token.text)) (a.token.text ++ b.token.text) right
paste (a ∷ c ∷ left) (b ∷ right) = put_before a (paste (c ∷ left) (b ∷ right))

-- what is pasted so far, and then the operands of a chain from the left, which is our choice of an order (6.10.3.3 p3)
abbrev pub chain_tokens : At → (raw : List (List Hiding)) → Pasted → Chain → Pasted
chain_tokens place raw (BadBehind count) os = BadBehind count
chain_tokens place raw (Joins left) [] = Joins left
chain_tokens place raw (Joins left) (o ∷ os) = chain_tokens place raw (paste left (operand_tokens place raw o)) os

-- what a chain becomes: a parameter that stands apart is its expanded argument (6.10.3.1 p1)
abbrev pub part_of : At → (raw expanded : List (List Hiding)) → Chain → Pasted
part_of place raw expanded (Argument space k ∷ []) = Joins (set_at place (argument_of expanded k))
part_of place raw expanded os = chain_tokens place raw (Joins []) os

-- the tokens of a chain, apart from the white space before it
pub record LaidPart : Type 0 where
  pub space : Bool
  pub tokens : List Hiding

-- a body with its arguments in place
pub data Substituted : Type 0 where
  WholeBody : List LaidPart → Substituted
  -- a `##` makes no token; so many stand before the two that it was to join
  BrokenBehind : ℕ → Substituted

abbrev pub with_part : Bool → Pasted → Substituted → Substituted
with_part space (BadBehind count) others = BrokenBehind count
with_part space (Joins tokens) (WholeBody parts) = WholeBody (record { space = space; tokens = led false tokens } ∷ parts)
with_part space (Joins tokens) (BrokenBehind count) = BrokenBehind (length tokens + count)

-- the chains of a body in order
abbrev pub substituted : At → (raw expanded : List (List Hiding)) → List Chain → Substituted
substituted place raw expanded [] = WholeBody []
substituted place raw expanded (chain ∷ chains) =
    with_part (space_of_chain chain) (part_of place raw expanded chain) (substituted place raw expanded chains)

-- how many tokens the parts have
abbrev pub count_of : List LaidPart → ℕ
count_of [] = 0
count_of (part ∷ parts) = length part.tokens + count_of parts

-- The parts, which hide these names too, before the rest. White space before an empty part goes to what follows.
abbrev pub laid_before : NameSet → List LaidPart → List Hiding → List Hiding
laid_before names [] rest = rest
laid_before names (part ∷ parts) rest = space_first part.space (hiding names part.tokens ++ laid_before names parts rest)
