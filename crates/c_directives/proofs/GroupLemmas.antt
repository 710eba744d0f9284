-- Names that stand alone, and the groups that are open at the end of a file.
use Rattle.std.proofs.Common.{◌≡◌, ℕ, Bool, true, false, List, [], ◌∷◌, ◌++◌, map, reverse, None, Some, if◌then◌else◌, refl, ap, ◌∙◌}
use Rattle.std.proofs.lemmas.List.{map-append, reverse-append}
use Rattle.std.proofs.lemmas.Option.{same_Some, none-some}
use Rattle.vocabulary.specs.declared.error_kind.ErrorKind.TheVariants.{MalformedDirective, UnterminatedConditional}
use Rattle.meaning_text.specs.Tokens.{Tok}
use Rattle.meaning_macros.specs.Signs.{is_identifier_kind}
use Rattle.meaning_preprocessing.specs.ConditionLines.{is_defined}
use Rattle.meaning_preprocessing.specs.Groups as groups
use Rattle.meaning_preprocessing.specs.Groups.{Turn, Turns, Halts, closed_file, group_of, ifdef_turn, same_truth}
use Rattle.meaning_preprocessing.specs.State.{UnitState, IsOver, only_ending, refused}
use Rattle.c_directives.specs.declared.groups.Group.{Group}
use Rattle.c_directives.specs.Conditions.{name_alone}
use Rattle.c_directives.specs.Groups.{closed_by, group_seen, groups_seen}

-- a line of one name begins a group
pub named-turn : (wanted : Bool) (hash : Tok) (ts : List Tok) (open_groups : List groups.Group) (s : UnitState) (name : List ℕ) → name_alone ts ≡ Some name
    → ifdef_turn wanted hash ts open_groups s ≡ Turns (group_of hash (same_truth wanted (is_defined s.definitions name)) ∷ open_groups) s
named-turn wanted hash [] open_groups s name found = absurd (none-some name found)
named-turn wanted hash (t ∷ u ∷ ts) open_groups s name found = absurd (none-some name found)
named-turn wanted hash (t ∷ []) open_groups s name found = by (is_identifier_kind t.kind) found
  where
    by : (names_it : Bool) → (if names_it then Some t.text else None) ≡ Some name →
        (elim names_it as (λ _. Turn) [
          | true ↦ Turns (group_of hash (same_truth wanted (is_defined s.definitions t.text)) ∷ open_groups) s
          | false ↦ Halts (refused s MalformedDirective hash.at [])
        ])
        ≡ Turns (group_of hash (same_truth wanted (is_defined s.definitions name)) ∷ open_groups) s
    by true is = ap (λ text. Turns (group_of hash (same_truth wanted (is_defined s.definitions text)) ∷ open_groups) s) (same_Some _ _ is)
    by false is = absurd (none-some name is)

outermost-last : (first : groups.Group) (others : List groups.Group) (last : groups.Group) → groups.outermost first (others ++ last ∷ []) ≡ last.place
outermost-last first [] last = refl
outermost-last first (other ∷ others) last = outermost-last other others last

closed-last : (s : UnitState) (others : List groups.Group) (last : groups.Group) → closed_file (others ++ last ∷ []) s ≡ only_ending (IsOver (refused s UnterminatedConditional last.place []))
closed-last s [] last = refl
closed-last s (other ∷ others) last = ap (λ place. only_ending (IsOver (refused s UnterminatedConditional place []))) (outermost-last other others last)

-- the group that was opened first is told
pub closed-first : (s : UnitState) (all : List Group) (group : Group) (others : List Group) → all ≡ group ∷ others → closed_file (groups_seen all) s ≡ closed_by s (Some group.place)
closed-first s all group others front =
    ap (λ open_groups. closed_file open_groups s)
    (ap (λ open_groups. map group_seen (reverse open_groups)) front ∙ ap (map group_seen) (reverse-append (group ∷ []) others) ∙ map-append group_seen (reverse others) (group ∷ []))
    ∙ closed-last s (map group_seen (reverse others)) (group_seen group)
