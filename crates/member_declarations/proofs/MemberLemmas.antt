-- What a member's declarator breaks by its type is told by its name and its place.
use Rattle.std.proofs.Common.{◌≡◌, ℕ, not, List, Option, Some, None, refl}
use Rattle.meaning_layout.specs.Sizes.{Told}
use Rattle.meaning_types.specs.Types.{TypeTree}
use Rattle.meaning_typing.specs.MemberDeclarations.{is_empty}
use Rattle.meaning_typing.specs.MemberRows.{may_be_flexible, typed_member_broken}
use Rattle.meaning_typing.specs.Surroundings.{Surrounding}
use Rattle.meaning_typing.specs.Units.{UnitNodes, node_at}
use Rattle.member_declarations.specs.Members.{type_broken}

pub typed_told : (nodes : UnitNodes) (surroundings : List Surrounding) (told : Told) (handle declaration : ℕ) (of : Option TypeTree)
    → type_broken told (node_at nodes handle).token (not (is_empty (node_at nodes handle).name))
    (may_be_flexible nodes surroundings handle declaration) of
    ≡ typed_member_broken nodes surroundings told handle declaration of
typed_told nodes surroundings told handle declaration None = refl
typed_told nodes surroundings told handle declaration (Some type_) = refl
