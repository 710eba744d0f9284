-- What is kept of tags, and that it is kept of the first so many nodes of a unit. A tag is known by a number: the token of the keyword
-- that first names it in its scope.
use Rattle.std.specs.Prelude.{◌≡◌, ℕ, zero, suc, min, nat_eq, nat_lt, Bool, true, false, ◌&&◌, List, length, Option, Some, None, option_map, if◌then◌else◌}
use Rattle.std.specs.Option.{option_or}
use Rattle.indexmap.specs.IndexMap.{get}
use Rattle.vocabulary.specs.declared.node_kind.NodeKind.{NodeKind}
use Rattle.vocabulary.specs.declared.node_kind.NodeKind.TheVariants as nodes_kinds
use Rattle.meaning_tree.specs.Nodes.{TreeNode}
use Rattle.meaning_typing.specs.Tags as meaning
use Rattle.meaning_typing.specs.Units.{UnitNodes, node_at}
use Rattle.tag_rows.specs.declared.seen.TagsSeen.{TagsSeen}
use Rattle.tag_rows.specs.Seen.{kind_seen}

-- the lower of two tokens
abbrev pub least_of : Option ℕ → Option ℕ → Option ℕ
least_of None later = later
least_of (Some token) None = Some token
least_of (Some token) (Some later) = Some (min token later)

-- a token is there, and is before this one
abbrev pub is_before : Option ℕ → (token : ℕ) → Bool
is_before None token = false
is_before (Some least) token = nat_lt least token

-- a handle that is there and below so many nodes
abbrev pub below : (count : ℕ) → Option ℕ → Option ℕ
below count None = None
below count (Some handle) = if nat_lt handle count then Some handle else None

-- What one node adds

-- the kind of its tag, by the token at which it stands
abbrev pub kind_here : TreeNode (List ℕ) → (token : ℕ) → Option meaning.TagKind
kind_here node token = if nat_eq node.token token then meaning.tag_kind node.kind else None

-- where it has a body, the token at which it stands, by its number
abbrev pub body_here : TreeNode (List ℕ) → (has_body : Bool) → (number : ℕ) → Option ℕ
body_here node has_body number =
    if meaning.is_tagged node.kind && has_body then (if nat_eq node.number number then Some node.token else None) else None

abbrev pub is_enumeration : NodeKind → Bool
is_enumeration nodes_kinds.EnumSpecifier = true
is_enumeration kind = false

-- where it is an enumeration and has a body, its handle, by its number
abbrev pub enumeration_here : (handle : ℕ) → TreeNode (List ℕ) → (has_body : Bool) → (number : ℕ) → Option ℕ
enumeration_here handle node has_body number =
    if is_enumeration node.kind && has_body then (if nat_eq node.number number then Some handle else None) else None

-- What the first so many nodes add

-- the kind of the first specifier at this token
abbrev pub first_kind : UnitNodes → (token count : ℕ) → Option meaning.TagKind
first_kind nodes token zero = None
first_kind nodes token (suc count) = option_or (first_kind nodes token count) (kind_here (node_at nodes count) token)

-- the least token of a specifier with this number and a body
abbrev pub least_body : UnitNodes → (number count : ℕ) → Option ℕ
least_body nodes number zero = None
least_body nodes number (suc count) =
    least_of (least_body nodes number count) (body_here (node_at nodes count) (meaning.has_body nodes count) number)

-- the handle of the first enumeration with this number and a body
abbrev pub first_enumeration : UnitNodes → (number count : ℕ) → Option ℕ
first_enumeration nodes number zero = None
first_enumeration nodes number (suc count) =
    option_or (first_enumeration nodes number count) (enumeration_here count (node_at nodes count) (meaning.has_body nodes count) number)

-- what is kept stands for the first so many nodes: at each number the maps have what these nodes add, and nothing else
pub record StandsForFirst (nodes : UnitNodes) (count : ℕ) (tags : TagsSeen) : Type 0 where
  pub kinds : (token : ℕ) → option_map kind_seen (get nat_eq tags.kinds token) ≡ first_kind nodes token count
  pub bodies : (number : ℕ) → get nat_eq tags.bodies number ≡ least_body nodes number count
  pub enumerations : (number : ℕ) → get nat_eq tags.enumerations number ≡ first_enumeration nodes number count

-- and for all of them
abbrev pub StandsFor : UnitNodes → TagsSeen → Type 0
StandsFor nodes tags = StandsForFirst nodes (length nodes) tags
