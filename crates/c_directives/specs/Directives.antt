-- How a directive is seen by the definitions of `meaning_preprocessing`.
use Rattle.std.specs.Prelude.{◌≡◌, ℕ, Bool, List, ◌∷◌, Some, Result, Ok, Err, ⊤}
use Rattle.meaning_text.specs.Tokens.{Tok}
use Rattle.vocabulary.specs.declared.error_kind.ErrorKind.TheVariants.{ErrorDirective}
use Rattle.meaning_preprocessing.specs.Directives.{define_turn, error_words, include_turn, undef_turn}
use Rattle.meaning_preprocessing.specs.Groups as groups
use Rattle.meaning_preprocessing.specs.Groups.{Evaluation, Turn, Turns, Halts, evaluated_line, group_of}
use Rattle.meaning_preprocessing.specs.State.{UnitState, refused}
use Rattle.c_tokens.specs.declared.token.Token.{Token}
use Rattle.c_tokens.specs.Seen.{toks_of}
use Rattle.c_directives.specs.Conditions.{AreKnown}
use Rattle.c_directives.specs.declared.directive.Task as task
use Rattle.c_directives.specs.declared.directive.Task.TheVariants.{Nothing, If, Elif, Include, Define, Undef, Error}
use Rattle.c_directives.specs.declared.fault.LineFault.{LineFault}
use Rattle.c_directives.specs.declared.fault.LineFault.TheVariants.{Refused, Memory}
use Rattle.c_directives.specs.declared.groups.Group.{Group}
use Rattle.c_directives.specs.Groups.{groups_seen, with_part, word_seen}
use Rattle.std.specs.Global.{Vec}

-- the result tells the tokens whose value is asked for, or why there are none, or that memory is wanting
abbrev pub IsCondition : List (List ℕ) → Evaluation → Tok → UnitState → (Bool → UnitState → Turn) → Result (Vec Token) LineFault → Turn → Type 0
IsCondition names value hash s next (Ok tokens) turn = turn ≡ evaluated_line value hash (Some (toks_of names tokens.items)) s next
IsCondition names value hash s next (Err (Refused kind word)) turn = turn ≡ Halts (refused s kind hash.at (word_seen names word))
IsCondition names value hash s next (Err Memory) turn = ⊤

-- The result tells what a directive does, by what is left to do within these groups, or that memory is wanting.
abbrev pub IsDirective : List (List ℕ) → Evaluation → UnitState → Tok → List Group → Result task.Task LineFault → Turn → Type 0
IsDirective names value s hash groups (Ok Nothing) turn = turn ≡ Turns (groups_seen groups) s
IsDirective names value s hash groups (Ok (If tokens)) turn =
    turn ≡ evaluated_line value hash (Some (toks_of names tokens.items)) s (λ holds u. Turns (group_of hash holds ∷ groups_seen groups) u)
IsDirective names value s hash groups (Ok (Elif tokens)) turn =
    turn ≡ evaluated_line value hash (Some (toks_of names tokens.items)) s (λ holds u. Turns (with_part holds (groups_seen groups)) u)
IsDirective names value s hash groups (Ok (Include line)) turn = turn ≡ include_turn hash (toks_of names line.now) s
IsDirective names value s hash groups (Ok (Define line)) turn = turn ≡ define_turn hash (toks_of names line.now) (groups_seen groups) s
IsDirective names value s hash groups (Ok (Undef line)) turn = turn ≡ undef_turn hash (toks_of names line.now) (groups_seen groups) s
IsDirective names value s hash groups (Ok (Error line)) turn = turn ≡ Halts (refused s ErrorDirective hash.at (error_words (toks_of names line.now)))
IsDirective names value s hash groups (Err (Refused kind word)) turn = turn ≡ Halts (refused s kind hash.at (word_seen names word))
IsDirective names value s hash groups (Err Memory) turn = ⊤

-- an `#include` leaves the groups as they were
abbrev pub LeavesGroups : List groups.Group → List groups.Group → task.Task → Type 0
LeavesGroups before now Nothing = ⊤
LeavesGroups before now (If tokens) = ⊤
LeavesGroups before now (Elif tokens) = ⊤
LeavesGroups before now (Include line) = now ≡ before
LeavesGroups before now (Define line) = ⊤
LeavesGroups before now (Undef line) = ⊤
LeavesGroups before now (Error line) = ⊤

-- each id of what is left to do is one of the table
abbrev pub IsKnownTask : List (List ℕ) → task.Task → Type 0
IsKnownTask names Nothing = ⊤
IsKnownTask names (If tokens) = AreKnown names tokens.items
IsKnownTask names (Elif tokens) = AreKnown names tokens.items
IsKnownTask names (Include line) = AreKnown names line.now
IsKnownTask names (Define line) = AreKnown names line.now
IsKnownTask names (Undef line) = AreKnown names line.now
IsKnownTask names (Error line) = AreKnown names line.now
