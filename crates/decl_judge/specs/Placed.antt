-- Declarators where they stand, and parameters.
use Rattle.std.specs.Prelude.{ℕ, Bool, true, false, List, Option, None, option_map}
use Rattle.vocabulary.specs.declared.node_kind.NodeKind.{NodeKind}
use Rattle.vocabulary.specs.declared.node_kind.NodeKind.TheVariants as kinds
use Rattle.meaning_types.specs.Types.{TypeTree}
use Rattle.meaning_tree.specs.Nodes.{TreeNode}
use Rattle.meaning_typing.specs.Declarators.{adjusted, adjusted_in, declared_if, declared_type, nameless_type, own_marks}
use Rattle.meaning_typing.specs.Facts as meaning
use Rattle.meaning_typing.specs.Specifiers.{with_marks}
use Rattle.meaning_typing.specs.Surroundings.{Surrounding, ForNothing}
use Rattle.meaning_typing.specs.Units.{UnitNodes, kind_at, node_at}
use Rattle.decl_judge.specs.declared.declared.DeclaratorPlace.{DeclaratorPlace}
use Rattle.decl_judge.specs.Units.{handles_of}

-- What a declarator stands in, as far as it is asked: not what is wanted of it, whether it is evaluated, and the function
-- around it.
abbrev pub standing : DeclaratorPlace → Surrounding
standing at =
    record {
      parent = at.parent;
      place = at.place;
      want = ForNothing;
      is_evaluated = false;
      around = record { function = None; scope = at.scope };
    }

abbrev pub is_parameter : NodeKind → Bool
is_parameter kinds.Parameter = true
is_parameter kind = false

-- a type that the parts of a declarator derived, where that stands at this place
abbrev pub placed_type : UnitNodes → (parent place : ℕ) → TypeTree → TypeTree
placed_type nodes parent place derived =
    adjusted_in (kind_at nodes parent) (with_marks (node_at nodes parent).token (own_marks nodes parent place) derived)

-- what is known of this declarator behind these specifiers
abbrev pub declared_behind : UnitNodes → Surrounding → List meaning.Fact → TreeNode (List ℕ) → meaning.SpecifiedFact → meaning.Fact
declared_behind nodes surrounding facts declarator specifiers =
    declared_if nodes surrounding declarator.name specifiers.storage
    (declared_type nodes facts surrounding.parent surrounding.place (handles_of declarator.children) specifiers.type_)

-- the type of a parameter without a declarator
abbrev pub nameless_told : UnitNodes → (parameter : ℕ) → Option meaning.SpecifiedFact → Option TypeTree
nameless_told nodes parameter specifiers = option_map (λ said. adjusted (nameless_type nodes parameter said)) specifiers
