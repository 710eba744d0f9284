-- Where the parts of conditional groups end, so that one that is skipped is passed at once.
use Rattle.std.specs.Prelude.{◌≡◌, ◌≢◌, ◌≤◌, ◌-◌, ℕ, Bool, true, false, nat_eq, List, [], ◌∷◌, length, drop, Option, Some, None, ⊤, if◌then◌else◌}
use Rattle.std.specs.Map.{lookup}
use Rattle.meaning_text.specs.Tokens.{Tok}
use Rattle.meaning_preprocessing.specs.Groups.{Evaluation, Group, are_read}
use Rattle.meaning_preprocessing.specs.Lines.{DirectiveBehind, directive_of}
use Rattle.meaning_preprocessing.specs.State.{UnitState}
use Rattle.meaning_preprocessing.specs.Unit.{Reader, over_parts}
use Rattle.c_tokens.specs.declared.token.Token.{Token}
use Rattle.c_directives.specs.Lines.{name_seen, parts_of}
use Rattle.c_directives.specs.declared.skipped_parts.OpenPart.{OpenPart}
use Rattle.c_directives.specs.declared.words.DirectiveName.{DirectiveName}
use Rattle.c_directives.specs.declared.words.DirectiveName.TheVariants as found

-- so many of the tokens, those at the end
abbrev pub last_tokens : List Token → ℕ → List Token
last_tokens tokens count = drop (length tokens - count) tokens

-- Lines that are skipped

-- where lines are skipped, the tokens are worth no more than those behind some of them
pub record ArePassed (names : List (List ℕ)) (before behind : List Token) : Type 0 where
  pub fewer : length behind ≤ length before
  pub same : (value : Evaluation) (include : Reader) (groups : List Group) (s : UnitState) → are_read groups ≡ false
      → over_parts value include (parts_of names before) groups s ≡ over_parts value include (parts_of names behind) groups s

-- a group within one that is skipped, of which the last part is open or another one
pub record IsInner (at_last : Bool) (group : Group) : Type 0 where
  pub outer : group.outer ≡ false
  pub reads : group.reads ≡ false
  pub last : group.last ≡ at_last

-- the same, where those between begin such a group
pub record BeginGroup (names : List (List ℕ)) (before : List Token) (at_last : Bool) (behind : List Token) : Type 0 where
  pub fewer : length behind ≤ length before
  pub same : (value : Evaluation) (include : Reader) (groups : List Group) (s : UnitState) → are_read groups ≡ false
      → (group : Group) × IsInner at_last group × (over_parts value include (parts_of names before) groups s ≡ over_parts value include (parts_of names behind) (group ∷ groups) s)

-- each of these is the end of a part that begins so
abbrev pub ArePartEnds : List (List ℕ) → List Token → List (ℕ × ℕ) → Type 0
ArePartEnds names tokens ends =
    (begin end : ℕ) → lookup (nat_eq begin) ends ≡ Some end → ArePassed names (last_tokens tokens begin) (last_tokens tokens end)

-- A file that is read for them

-- parts stand within one another, the innermost first
abbrev pub StandWithin : List (List ℕ) → List Token → OpenPart → List OpenPart → Type 0
StandWithin names tokens part [] = ⊤
StandWithin names tokens part (outer ∷ others) =
    BeginGroup names (last_tokens tokens outer.behind) part.last (last_tokens tokens part.behind) × StandWithin names tokens outer others

-- they are open where these tokens are left
abbrev pub AreOpen : List (List ℕ) → List Token → List Token → List OpenPart → Type 0
AreOpen names tokens left [] = ⊤
AreOpen names tokens left (part ∷ parts) = ArePassed names (last_tokens tokens part.behind) left × StandWithin names tokens part parts

-- a directive with this name stands behind text, and these are the tokens from its `#` on, and those behind its line
pub record IsAtDirective (names : List (List ℕ)) (name : DirectiveName) (left from_hash behind : List Token) : Type 0 where
  pub text : List Tok
  pub hash : Tok
  pub rest : List Tok
  pub parts : parts_of names left ≡ DirectiveBehind text hash rest (parts_of names behind)
  pub parts_from_hash : parts_of names from_hash ≡ DirectiveBehind [] hash rest (parts_of names behind)
  pub named : directive_of rest ≡ name_seen name
  pub fewer_from_hash : length from_hash ≤ length left
  pub fewer : length behind ≤ length from_hash

-- the innermost part
abbrev pub innermost : List OpenPart → Option OpenPart
innermost [] = None
innermost (part ∷ parts) = Some part

-- where the innermost part ends and, unless its group does, another one begins; nothing is passed over one that stands behind an `#else`
abbrev pub followed : Option OpenPart → List OpenPart → List OpenPart
followed next [] = []
followed None (part ∷ parts) = parts
followed (Some next) (part ∷ parts) = if part.last then [] else next ∷ parts

-- the parts that are open behind a directive
abbrev pub next_open : DirectiveName → (behind : ℕ) → List OpenPart → List OpenPart
next_open found.If behind parts = record { behind = behind; last = false } ∷ parts
next_open found.Ifdef behind parts = record { behind = behind; last = false } ∷ parts
next_open found.Ifndef behind parts = record { behind = behind; last = false } ∷ parts
next_open found.Elif behind parts = followed (Some (record { behind = behind; last = false })) parts
next_open found.Else behind parts = followed (Some (record { behind = behind; last = true })) parts
next_open found.Endif behind parts = followed None parts
next_open name behind parts = parts

-- the part that ends at it
abbrev pub ended_part : DirectiveName → List OpenPart → Option OpenPart
ended_part found.Elif parts = innermost parts
ended_part found.Else parts = innermost parts
ended_part found.Endif parts = innermost parts
ended_part name parts = None

-- the end of this part comes to those that were met before
abbrev pub HasEnd : (before now : List (ℕ × ℕ)) → Option OpenPart → (at : ℕ) → Type 0
HasEnd before now None at = now ≡ before
HasEnd before now (Some part) at =
    (lookup (nat_eq part.behind) now ≡ Some at) × ((other : ℕ) → other ≢ part.behind → lookup (nat_eq other) now ≡ lookup (nat_eq other) before)
