-- A path more.
use Rattle.std.proofs.Common.{◌≡◌, ℕ, ◌+◌, ◌<◌, Bool, true, false, List, [], ◌∷◌, ◌++◌, length, get_or, Option, Some, None, refl, sym, ap, ◌∙◌, arith}
use Rattle.std.proofs.Math.ListN.{get_or-append}
use Rattle.std.proofs.Math.Seq.{get_or-append_seam}
use Rattle.std.proofs.lemmas.List.{append-nil, length-append}
use Rattle.meaning_types.specs.Types.{TypeTree, Typed, VoidTree, IntegerTree, RestrictedTree, PointerTree, ArrayTree, FunctionTree, AggregateTree}
use Rattle.meaning_initializers.specs.Parts as meaning
use Rattle.meaning_initializers.specs.Parts.{path_to}
use Rattle.c_types.specs.Table.{IsLonger, TypeTable}
use Rattle.initializer_levels.specs.declared.parts.Parts.{Parts}
use Rattle.initializer_levels.specs.declared.parts.Parts.TheVariants as parts
use Rattle.initializer_levels.specs.declared.paths.PathId.{PathId}
use Rattle.initializer_levels.specs.declared.paths.PathStep.{PathStep}
use Rattle.initializer_levels.specs.Kept.{level_seen}
use Rattle.initializer_levels.specs.Laws.{LevelsStay}
use Rattle.initializer_levels.specs.Parts.{Elements, Itself, Members, PartsTree, is_own_part, parts_in, parts_seen}
use Rattle.initializer_levels.specs.Paths.{IsPathIn, path_at, paths_from, paths_of}

pushed : (paths : List (List ℕ)) (steps : List PathStep) (step : PathStep)
    → paths_from paths (steps ++ step ∷ []) ≡ paths_from paths steps ++ (path_at (paths_from paths steps) step.within ++ step.number ∷ []) ∷ []
pushed paths [] step = refl
pushed paths (first ∷ steps) step = pushed (paths ++ (path_at paths first.within ++ first.number ∷ []) ∷ []) steps step

pub paths_pushed : (steps : List PathStep) (step : PathStep)
    → paths_of (steps ++ step ∷ []) ≡ paths_of steps ++ (path_at (paths_of steps) step.within ++ step.number ∷ []) ∷ []
paths_pushed steps step = pushed [] steps step

many : (paths : List (List ℕ)) (steps : List PathStep) → length (paths_from paths steps) ≡ length paths + length steps
many paths [] = omega arith
many paths (step ∷ steps) =
    let more = paths ++ (path_at paths step.within ++ step.number ∷ []) ∷ [] in
    let one : length more ≡ length paths + 1 = length-append paths ((path_at paths step.within ++ step.number ∷ []) ∷ []) in
    many more steps ∙ omega (arith, one)

pub paths_many : (steps : List PathStep) → length (paths_of steps) ≡ length steps
paths_many steps = let count = many [] steps in omega (arith, count)

-- Where parts stand

pub no_longer : (paths : List (List ℕ)) → IsLonger paths paths
no_longer paths = ([], sym (append-nil paths))

last_of : (paths : List (List ℕ)) (path : List ℕ) (id : ℕ) → id ≡ length paths → get_or (paths ++ path ∷ []) id [] ≡ path
last_of paths path id is = ap (λ (place : ℕ). get_or (paths ++ path ∷ []) place []) is ∙ get_or-append_seam paths path [] []

abbrev is_itself : PartsTree → Bool
is_itself Itself = true
is_itself (Elements element count) = false
is_itself (Members number is_union) = false

itself_seen : (table : TypeTable) (of : Parts) → is_own_part of ≡ is_itself (parts_seen table of)
itself_seen table (parts.Elements element count) = refl
itself_seen table (parts.Members number is_union) = refl
itself_seen table parts.Itself = refl

abbrev path_if : (is_own : Bool) → List ℕ → ℕ → List ℕ
path_if true path number = path
path_if false path number = path ++ number ∷ []

to_part : (type_ : TypeTree) (path : List ℕ) (part : meaning.Part) → path_to type_ path part ≡ path_if (is_itself (parts_in type_)) path part.number
to_part (Typed VoidTree _ _) path part = refl
to_part (Typed (IntegerTree kind) _ _) path part = refl
to_part (Typed (RestrictedTree kind identity) _ _) path part = refl
to_part (Typed (PointerTree target) _ _) path part = refl
to_part (Typed (ArrayTree element count) _ _) path part = refl
to_part (Typed (FunctionTree result parameters variadic) _ _) path part = refl
to_part (Typed (AggregateTree number is_union) _ _) path part = refl

to_seen : (table : TypeTable) (of : Parts) (type_ : TypeTree) (path : List ℕ) (part : meaning.Part) (is_own : Bool) → is_own_part of ≡ is_own
    → parts_seen table of ≡ parts_in type_ → path_to type_ path part ≡ path_if is_own path part.number
to_seen table of type_ path part is_own own is =
    to_part type_ path part ∙ ap (λ (b : Bool). path_if b path part.number) (ap is_itself (sym is) ∙ (sym (itself_seen table of) ∙ own))

pub own_path : (table : TypeTable) (of : Parts) (type_ : TypeTree) (path : List ℕ) (part : meaning.Part) → is_own_part of ≡ true
    → parts_seen table of ≡ parts_in type_ → path ≡ path_to type_ path part
own_path table of type_ path part own is = sym (to_seen table of type_ path part true own is)

pub part_path : (table : TypeTable) (of : Parts) (type_ : TypeTree) (old new : List (List ℕ)) (within : Option PathId) (part : meaning.Part) (id : ℕ)
    → is_own_part of ≡ false → parts_seen table of ≡ parts_in type_ → new ≡ old ++ (path_at old within ++ part.number ∷ []) ∷ [] → id ≡ length old
    → get_or new id [] ≡ path_to type_ (path_at old within) part
part_path table of type_ old new within part id own is more last =
    ap (λ (paths : List (List ℕ)). get_or paths id []) more
    ∙ (last_of old (path_at old within ++ part.number ∷ []) id last ∙ sym (to_seen table of type_ (path_at old within) part false own is))

pub last_is_path : (old new : List (List ℕ)) (path : List ℕ) (id : ℕ) → new ≡ old ++ path ∷ [] → id ≡ length old → id < length new
last_is_path old new path id is last = let count = ap length is ∙ length-append old (path ∷ []) in omega (arith, count, last)

-- More paths change no path

path_later : (old new : List (List ℕ)) (more : List (List ℕ)) (path : Option PathId) → new ≡ old ++ more → IsPathIn old path → path_at new path ≡ path_at old path
path_later old new more None is known = refl
path_later old new more (Some id) is known = ap (λ (paths : List (List ℕ)). get_or paths id.0 []) is ∙ get_or-append old more [] id.0 known

pub path_stays : (old new : List (List ℕ)) (path : Option PathId) → IsLonger old new → IsPathIn old path → path_at new path ≡ path_at old path
path_stays old new path longer known = path_later old new longer.0 path longer.1 known

pub levels_stay : LevelsStay
levels_stay table old new read level longer known =
    ap (λ (path : List ℕ). record (level_seen table old read level) { path = path }) (path_later old new longer.0 level.path longer.1 known)
