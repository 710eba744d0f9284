-- Levels around, as they are kept and as they are seen.
use Rattle.std.proofs.Common.{◌≡◌, ℕ, zero, suc, arith, Bool, List, [], ◌∷◌, ◌++◌, All, map, reverse, sym, ap, subst, ◌∙◌}
use Rattle.std.proofs.lemmas.List.{map-append, reverse-append}
use Rattle.std.proofs.lemmas.List.Elements.{All-append, All-tail}
use Rattle.meaning_initializers.specs.Items.{Items}
use Rattle.c_types.specs.Table.{TypeTable}
use Rattle.initializer_levels.specs.declared.items.ItemList.{ItemList}
use Rattle.initializer_levels.specs.declared.level.Level as kept
use Rattle.initializer_levels.specs.Kept.{IsKnownLevel, level_seen}
use Rattle.initializer_levels.specs.Levels.{Level, behind_part}
use Rattle.initializer_levels.specs.Turns.{Found, Goes}
use Rattle.initializer_levels.specs.Walks.{left_behind, levels_seen}

pub levels_pushed : (table : TypeTable) (paths : List (List ℕ)) (read : ItemList → Items) (levels : List kept.Level) (level : kept.Level)
    → levels_seen table paths read (levels ++ level ∷ []) ≡ level_seen table paths read level ∷ levels_seen table paths read levels
levels_pushed table paths read levels level =
    ap (reverse {A = Level}) (map-append (level_seen table paths read) levels (level ∷ []))
    ∙ reverse-append (map (level_seen table paths read) levels) (level_seen table paths read level ∷ [])

one : (P : kept.Level → Type 0) (level : kept.Level) → P level → All P (level ∷ [])
one P level known zero e within = known
one P level known (suc i) e within = absurd (omega (arith, within))

pub levels_known_more : (table : TypeTable) (paths : List (List ℕ)) (levels : List kept.Level) (level : kept.Level) → All (IsKnownLevel table paths) levels
    → IsKnownLevel table paths level → All (IsKnownLevel table paths) (levels ++ level ∷ [])
levels_known_more table paths levels level all known =
    All-append (IsKnownLevel table paths) levels (level ∷ []) all (one (IsKnownLevel table paths) level known)

known_front : (P : kept.Level → Type 0) (levels more : List kept.Level) → All P (levels ++ more) → All P levels
known_front P [] more all i e within = absurd (omega (arith, within))
known_front P (first ∷ levels) more all zero e within = all zero first (omega arith)
known_front P (first ∷ levels) more all (suc i) e within =
    known_front P levels more (All-tail P first (levels ++ more) all) i e (omega (arith, within))

known_last : (P : kept.Level → Type 0) (levels : List kept.Level) (level : kept.Level) → All P (levels ++ level ∷ []) → P level
known_last P [] level all = all zero level (omega arith)
known_last P (first ∷ levels) level all = known_last P levels level (All-tail P first (levels ++ level ∷ []) all)

pub outer_known : (table : TypeTable) (paths : List (List ℕ)) (all levels : List kept.Level) (level : kept.Level) → all ≡ levels ++ level ∷ []
    → All (IsKnownLevel table paths) all → IsKnownLevel table paths level
outer_known table paths all levels level is known = known_last (IsKnownLevel table paths) levels level (subst (All (IsKnownLevel table paths)) is known)

pub others_known : (table : TypeTable) (paths : List (List ℕ)) (all levels : List kept.Level) (level : kept.Level) → all ≡ levels ++ level ∷ []
    → All (IsKnownLevel table paths) all → All (IsKnownLevel table paths) levels
others_known table paths all levels level is known =
    known_front (IsKnownLevel table paths) levels (level ∷ []) (subst (All (IsKnownLevel table paths)) is known)

-- behind the last of them
pub left_last : (table : TypeTable) (paths : List (List ℕ)) (read : ItemList → Items) (found : Found) (length : ℕ) (is_filled : Bool) (all levels : List kept.Level)
    (level next : kept.Level) (items : Items) → all ≡ levels ++ level ∷ []
    → level_seen table paths read next ≡ behind_part (level_seen table paths read level) is_filled
    → Goes (record { found = found; level = level_seen table paths read next; levels = levels_seen table paths read levels; items = items })
    ≡ left_behind found length is_filled (levels_seen table paths read all) items
left_last table paths read found length is_filled all levels level next items is behind =
    ap (λ (l : Level). Goes (record { found = found; level = l; levels = levels_seen table paths read levels; items = items })) behind
    ∙ ap (λ (ls : List Level). left_behind found length is_filled ls items) (sym (levels_pushed table paths read levels level) ∙ ap (levels_seen table paths read) (sym is))
