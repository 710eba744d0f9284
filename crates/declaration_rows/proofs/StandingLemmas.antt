-- What a node stands in that isn't there, and the part of a declarator that stands at its name.
use Rattle.std.proofs.Common.{◌≡◌, ℕ, zero, suc, ◌≤◌, true, false, List, [], ◌∷◌, ◌++◌, length, get_or, if◌then◌else◌, refl, sym, ap, ◌∙◌, arith}
use Rattle.meaning_typing.specs.DeclarationRows.{are_around_part, part_at_name}
use Rattle.meaning_typing.specs.Units.{UnitNodes, kind_at}
use Rattle.decl_judge.specs.Units.{handles_of}

pub past_end : {X : Type 0} (xs : List X) (i : ℕ) (otherwise : X) → length xs ≤ i → get_or xs i otherwise ≡ otherwise
past_end [] i otherwise past = refl
past_end (x ∷ xs) zero otherwise past = absurd (omega arith)
past_end (x ∷ xs) (suc i) otherwise past = past_end xs i otherwise (omega arith)

-- A walk over the parts of a declarator from the last one on: attributes are passed over, and another part is the one at the name.
at_name_with : (nodes : UnitNodes) (parts : List ℕ) (last otherwise : ℕ)
    → part_at_name nodes (parts ++ last ∷ []) otherwise ≡ (if are_around_part (kind_at nodes last) then part_at_name nodes parts otherwise else last)
at_name_with nodes [] last otherwise = refl
at_name_with nodes (part ∷ parts) last otherwise = at_name_with nodes parts last (if are_around_part (kind_at nodes part) then otherwise else part)

handles_with : (rest : List (ℕ × ℕ)) (last : ℕ × ℕ) → handles_of (rest ++ last ∷ []) ≡ handles_of rest ++ last.0 ∷ []
handles_with [] last = refl
handles_with (first ∷ rest) last = ap (λ handles. first.0 ∷ handles) (handles_with rest last)

pub at_name_behind : (nodes : UnitNodes) (children rest : List (ℕ × ℕ)) (last : ℕ × ℕ) (otherwise : ℕ) → children ≡ rest ++ last ∷ []
    → part_at_name nodes (handles_of children) otherwise
    ≡ (if are_around_part (kind_at nodes last.0) then part_at_name nodes (handles_of rest) otherwise else last.0)
at_name_behind nodes children rest last otherwise is =
    ap (λ children. part_at_name nodes (handles_of children) otherwise) is
    ∙ ap (λ handles. part_at_name nodes handles otherwise) (handles_with rest last)
    ∙ at_name_with nodes (handles_of rest) last.0 otherwise

pub passed_over : (nodes : UnitNodes) (children rest : List (ℕ × ℕ)) (last : ℕ × ℕ) (otherwise : ℕ) → children ≡ rest ++ last ∷ []
    → are_around_part (kind_at nodes last.0) ≡ true
    → part_at_name nodes (handles_of rest) otherwise ≡ part_at_name nodes (handles_of children) otherwise
passed_over nodes children rest last otherwise is around =
    sym (at_name_behind nodes children rest last otherwise is
    ∙ ap (λ around. if around then part_at_name nodes (handles_of rest) otherwise else last.0) around)

pub found_behind : (nodes : UnitNodes) (children rest : List (ℕ × ℕ)) (last : ℕ × ℕ) (otherwise : ℕ) → children ≡ rest ++ last ∷ []
    → are_around_part (kind_at nodes last.0) ≡ false
    → last.0 ≡ part_at_name nodes (handles_of children) otherwise
found_behind nodes children rest last otherwise is around =
    sym (at_name_behind nodes children rest last otherwise is
    ∙ ap (λ around. if around then part_at_name nodes (handles_of rest) otherwise else last.0) around)
