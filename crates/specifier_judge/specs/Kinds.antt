-- Kinds of nodes whose rows stand here.
use Rattle.std.specs.Prelude.{Bool, true, false}
use Rattle.vocabulary.specs.declared.node_kind.NodeKind.{NodeKind}
use Rattle.vocabulary.specs.declared.node_kind.NodeKind.TheVariants as kinds

-- specifiers, those among them that name a type, enumerators, and names of types
abbrev pub is_of_specifiers : NodeKind → Bool
is_of_specifiers kinds.Specifiers = true
is_of_specifiers kinds.StructSpecifier = true
is_of_specifiers kinds.UnionSpecifier = true
is_of_specifiers kinds.EnumSpecifier = true
is_of_specifiers kinds.Enumerator = true
is_of_specifiers kinds.TypedefName = true
is_of_specifiers kinds.TypeofType = true
is_of_specifiers kinds.TypeofExpression = true
is_of_specifiers kinds.TypeName = true
is_of_specifiers kind = false

-- a list of the members of a structure or a union
abbrev pub is_member_list : NodeKind → Bool
is_member_list kinds.MemberList = true
is_member_list kind = false
