-- Tokens on their way through an expansion, and the names that aren't replaced in them (C11 6.10.3.4 p2).
use Rattle.std.specs.Prelude.{ℕ, Bool, false, ◌&&◌, ◌||◌, List, [], ◌∷◌}
use Rattle.std.specs.Str.{bytes_eq}
use Rattle.meaning_text.specs.Places.{At}
use Rattle.meaning_text.specs.Tokens.{Tok}

-- a set of names, as its test
abbrev pub NameSet : Type 0
NameSet = List ℕ → Bool

-- the empty set
abbrev pub no_names : NameSet
no_names = λ name. false

-- the set of this name
abbrev pub only : List ℕ → NameSet
only name = λ other. bytes_eq other name

-- the names of both
abbrev pub common : NameSet → NameSet → NameSet
common a b = λ name. a name && b name

-- the names of either
abbrev pub joined : NameSet → NameSet → NameSet
joined a b = λ name. a name || b name

-- A token, and the names that it hides: where it is one of them it isn't replaced, now or later.
pub record Hiding : Type 0 where
  pub token : Tok
  pub hides : NameSet

-- a token that hides nothing
abbrev pub hides_nothing : Tok → Hiding
hides_nothing t = record { token = t; hides = no_names }

-- each token hides these names too
abbrev pub hiding : NameSet → List Hiding → List Hiding
hiding names [] = []
hiding names (t ∷ ts) = record t { hides = joined t.hides names } ∷ hiding names ts

-- the token with this white space before it
abbrev pub behind_space : Bool → Hiding → Hiding
behind_space space t = record t { token = record t.token { space_before = space } }

-- the first token has exactly this white space before it
abbrev pub led : Bool → List Hiding → List Hiding
led space [] = []
led space (t ∷ ts) = behind_space space t ∷ ts

-- white space goes before the first token, where there is one; what it has of its own stays
abbrev pub space_first : Bool → List Hiding → List Hiding
space_first space [] = []
space_first space (t ∷ ts) = behind_space (space || t.token.space_before) t ∷ ts

-- a token that an expansion puts at this place; it begins no line
abbrev pub put_at : At → Tok → Tok
put_at place t = record t { at = place; line_start = false }

-- the tokens as an expansion puts them at this place
abbrev pub set_at : At → List Hiding → List Hiding
set_at place [] = []
set_at place (t ∷ ts) = record t { token = put_at place t.token } ∷ set_at place ts
