-- Worked examples: how far a `__builtin_offsetof` leads.
use Rattle.std.specs.Prelude.{◌≡◌, ℕ, ℤ, pos, negsuc, ◌-◌, false, List, [], ◌∷◌, length, codes, Option, Some, None, Ok, nat_eq, if◌then◌else◌}
use Rattle.vocabulary.specs.declared.int_kind.IntKind.TheVariants as integers
use Rattle.vocabulary.specs.declared.node_kind.NodeKind.TheVariants as kinds
use Rattle.vocabulary.specs.declared.role.Role.TheVariants.{TypePart, Unevaluated}
use Rattle.meaning_types.specs.Types.{TypeTree, AggregateTree, IntegerTree}
use Rattle.meaning_layout.specs.Layouts.{Layout}
use Rattle.meaning_layout.specs.Members.{DeclaredMember, Names, names_of_members, no_names}
use Rattle.meaning_layout.specs.Sizes.{Told}
use Rattle.meaning_tree.specs.Trees.{SyntaxTree, Node, Part, NoParts, parts_of}
use Rattle.meaning_typing.specs.Units.{UnitNodes}
use Rattle.meaning_typing.specs.Facts.{Fact, Expression, NamedType, Unknown, value}
use Rattle.meaning_typing.specs.Specifiers.{plain_type}
use Rattle.meaning_typing.specs.Declarators.{array_type, nothing_told}
use Rattle.meaning_typing.specs.Offsets.{known_members, members_named, offset_at}
use Rattle.meaning_typing.specs.examples.Drawn.{leaf, nodes_from}

-- `struct pair { int first; int second[2]; }` is the aggregate 1, and no other is told
abbrev pub int : TypeTree
int = plain_type (IntegerTree integers.Int)

abbrev pub pair : TypeTree
pair = plain_type (AggregateTree 1 false)

abbrev pub pair_layout : Layout
pair_layout = record { first_bits = 0 ∷ 32 ∷ []; size = 12; align = 4 }

abbrev pub told : Told
told number is_union = if nat_eq number 1 then Some (Ok pair_layout) else None

abbrev pub member_called : List ℕ → TypeTree → DeclaredMember (List ℕ)
member_called name of = record { name = Some name; of = of; width = None }

abbrev pub names : ℕ → Names (List ℕ)
names aggregate = names_of_members told no_names 0 (member_called (codes "first") int ∷ member_called (codes "second") (array_type int (Some 2)) ∷ [])

-- `.NAME`, and `[..]` around an expression
abbrev pub at_member : List ℕ → SyntaxTree
at_member name = Node kinds.MemberDesignator 3 name 0 NoParts

abbrev pub at_index : SyntaxTree
at_index = Node kinds.IndexDesignator 3 [] 0 (Part Unevaluated (leaf kinds.Name 4) NoParts)

-- an expression that has this constant
abbrev pub index : Option ℤ → Fact
index number = Expression (record (value int) { constant = number })

-- `__builtin_offsetof(TYPE, NAME ..)`, whose type is the first node and whose designators are those behind it
abbrev pub leading : List ℕ → List SyntaxTree → UnitNodes
leading name designators = nodes_from 0 (Node kinds.BuiltinOffsetof 0 name 0 (Part TypePart (leaf kinds.TypeName 1) (parts_of Unevaluated designators)))

-- how far it leads in a pair, where this is known of the nodes of its designators
abbrev pub leads : List ℕ → List SyntaxTree → List Fact → Option ℕ
leads name designators facts =
    offset_at told (members_named told names) (leading name designators) (NamedType pair ∷ facts) (length (leading name designators) - 1)

pub record OffsetExamples : Type 0 where
  pub first : leads (codes "first") [] [] ≡ Some 0
  pub second : leads (codes "second") [] [] ≡ Some 4
  -- `second[1]`, and an element that lies behind the last one
  pub element : leads (codes "second") (at_index ∷ []) (index (Some (pos 1)) ∷ []) ≡ Some 8
  pub behind : leads (codes "second") (at_index ∷ []) (index (Some (pos 7)) ∷ []) ≡ Some 32
  -- `second[-1]`, `second[i]` and `second[f()]`, of which nothing is known
  pub before : leads (codes "second") (at_index ∷ []) (index (Some (negsuc 0)) ∷ []) ≡ None
  pub not_constant : leads (codes "second") (at_index ∷ []) (index None ∷ []) ≡ None
  pub unknown : leads (codes "second") (at_index ∷ []) (Unknown ∷ []) ≡ None
  pub no_member : leads (codes "third") [] [] ≡ None
  -- `first.first` and `first[1]`
  pub no_aggregate : leads (codes "first") (at_member (codes "first") ∷ []) [] ≡ None
  pub no_array : leads (codes "first") (at_index ∷ []) (index (Some (pos 1)) ∷ []) ≡ None
  pub nothing_is_told : offset_at nothing_told known_members (leading (codes "first") []) (NamedType pair ∷ []) 1 ≡ None
