-- Initializers by the kinds of their nodes.
use Rattle.std.proofs.Common.{◌≡◌, ℕ, ◌<◌, Bool, true, false, ◌&&◌, ◌||◌, not, is_some, length, List, [], ◌∷◌, Option, Some, None, refl, sym, ap, ◌∙◌, arith, if◌then◌else◌}
use Rattle.std.proofs.lemmas.Bool.{false≢true}
use Rattle.vocabulary.specs.declared.node_kind.NodeKind.{NodeKind}
use Rattle.vocabulary.specs.declared.node_kind.NodeKind.TheVariants as kinds
use Rattle.meaning_types.specs.Types.{TypeTree, Typed, VoidTree, IntegerTree, RestrictedTree, PointerTree, ArrayTree, FunctionTree, AggregateTree}
use Rattle.meaning_tree.specs.Nodes.{ChildrenStandBefore}
use Rattle.meaning_typing.specs.Facts.{Fact}
use Rattle.meaning_typing.specs.Units.{UnitNodes, children_at, kind_at, node_at, unit_list}
use Rattle.meaning_initializers.specs.Items.{Given, Designator, Initializer, Value, Braces, Items, NoItems, Item, moved_with}
use Rattle.meaning_initializers.specs.Parts.{has_parts, is_array_of_characters, is_string_for, is_value_of, string_before, string_if, takes_value, takes_whole}
use Rattle.meaning_initializers.specs.Reading.{elements_of, given_at, initializer_at, initializer_by, items_of}
use Rattle.c_types.specs.Table.{TypeTable}
use Rattle.initializer_levels.specs.declared.parts.Parts.{Parts}
use Rattle.initializer_levels.specs.declared.parts.Parts.TheVariants as parts
use Rattle.initializer_levels.specs.Parts.{Elements, Itself, Members, PartsTree, is_own_part, parts_in, parts_seen}
use Rattle.initializer_levels.specs.Reading.{is_braces}
use Rattle.initializer_levels.specs.Levels.{Level}
use Rattle.initializer_levels.specs.Turns.{Found, received, received_braces}
use Rattle.initializer_levels.proofs.Depth.{initializers_are_of_parts}

-- What takes an expression

abbrev are_parts : PartsTree → Bool
are_parts (Elements element count) = true
are_parts (Members number is_union) = true
are_parts Itself = false

parts_are : (table : TypeTable) (of : Parts) → is_own_part of ≡ not (are_parts (parts_seen table of))
parts_are table (parts.Elements element count) = refl
parts_are table (parts.Members number is_union) = refl
parts_are table parts.Itself = refl

has_them : (type_ : TypeTree) → are_parts (parts_in type_) ≡ has_parts type_
has_them (Typed VoidTree _ _) = refl
has_them (Typed (IntegerTree kind) _ _) = refl
has_them (Typed (RestrictedTree kind identity) _ _) = refl
has_them (Typed (PointerTree target) _ _) = refl
has_them (Typed (ArrayTree element count) _ _) = refl
has_them (Typed (FunctionTree result parameters variadic) _ _) = refl
has_them (Typed (AggregateTree number is_union) _ _) = refl

pub scalars_are : (table : TypeTable) (of : Parts) (type_ : TypeTree) → parts_seen table of ≡ parts_in type_ → is_own_part of ≡ not (has_parts type_)
scalars_are table of type_ is = parts_are table of ∙ ap not (ap are_parts is ∙ has_them type_)

one_of_three : (a b c : Bool) → ((a || b) || c) ≡ (a || (b || c))
one_of_three true b c = refl
one_of_three false b c = refl

pub takes_if : (type_ : TypeTree) (given : Given) (is_scalar is_string is_value : Bool) → is_scalar ≡ not (has_parts type_) → is_string ≡ is_string_for type_ given
    → is_value ≡ is_value_of type_ given.fact → ((is_scalar || is_string) || is_value) ≡ takes_value type_ given
takes_if type_ given is_scalar is_string is_value scalar string value =
    one_of_three is_scalar is_string is_value
    ∙ (ap (λ (b : Bool). b || (is_string || is_value)) scalar
    ∙ (ap (λ (b : Bool). not (has_parts type_) || (b || is_value)) string ∙ ap (λ (b : Bool). not (has_parts type_) || (is_string_for type_ given || b)) value))

-- Initializers by the kinds of their nodes

module _ (nodes : UnitNodes) (facts : List Fact) where
  braces_by : (handle : ℕ) (kind : NodeKind) → is_braces kind ≡ true
      → initializer_by nodes facts (initializer_at nodes facts) handle kind
      ≡ Braces handle (node_at nodes handle).token (items_of nodes facts (initializer_at nodes facts) (children_at nodes handle))
  braces_by handle kinds.BracedInitializer is = refl
  braces_by handle kind is = absurd (cc is)

  value_by : (handle : ℕ) (kind : NodeKind) → is_braces kind ≡ false → initializer_by nodes facts (initializer_at nodes facts) handle kind ≡ Value (given_at nodes facts handle)
  value_by handle kinds.BracedInitializer is = absurd (cc is)
  value_by handle kind is = refl

  module _ (order : ChildrenStandBefore (unit_list nodes)) where
    pub braces_at : (handle : ℕ) → is_braces (kind_at nodes handle) ≡ true
        → initializer_at nodes facts handle ≡ Braces handle (node_at nodes handle).token (items_of nodes facts (initializer_at nodes facts) (children_at nodes handle))
    braces_at handle is = initializers_are_of_parts nodes facts order handle ∙ braces_by handle (kind_at nodes handle) is

    pub value_at : (handle : ℕ) → is_braces (kind_at nodes handle) ≡ false → initializer_at nodes facts handle ≡ Value (given_at nodes facts handle)
    value_at handle is = initializers_are_of_parts nodes facts order handle ∙ value_by handle (kind_at nodes handle) is

    taken_by : (type_ : TypeTree) (handle : ℕ) (is_braced takes : Bool) → is_braces (kind_at nodes handle) ≡ is_braced → takes ≡ takes_value type_ (given_at nodes facts handle)
        → (is_braced || takes) ≡ takes_whole type_ (initializer_at nodes facts handle)
    taken_by type_ handle true takes braced is = ap (takes_whole type_) (sym (braces_at handle braced))
    taken_by type_ handle false takes braced is = is ∙ ap (takes_whole type_) (sym (value_at handle braced))

    pub taken_whole : (type_ : TypeTree) (handle : ℕ) (is_braced takes : Bool) → is_braced ≡ is_braces (kind_at nodes handle)
        → takes ≡ takes_value type_ (given_at nodes facts handle) → (is_braced || takes) ≡ takes_whole type_ (initializer_at nodes facts handle)
    taken_whole type_ handle is_braced takes braced is = taken_by type_ handle is_braced takes (sym braced) is

    -- a string is in no braces
    unbraced : (handle : ℕ) (kind : NodeKind) → is_some (elements_of nodes handle kind) ≡ true → is_braces kind ≡ false
    unbraced handle kinds.BracedInitializer is = absurd (cc is)
    unbraced handle kind is = refl

    and_right : (a b : Bool) → (a && b) ≡ true → b ≡ true
    and_right true b is = is
    and_right false b is = absurd (cc is)

    with_string : (type_ : TypeTree) (handle : ℕ) (is_moved : Bool) (behind : Items) → is_string_for type_ (given_at nodes facts handle) ≡ true
        → string_before type_ (Item [] is_moved (initializer_at nodes facts handle) behind) ≡ Some (given_at nodes facts handle, behind)
    with_string type_ handle is_moved behind is =
        ap (λ (i : Initializer). string_before type_ (Item [] is_moved i behind))
        (value_at handle (unbraced handle (kind_at nodes handle) (and_right (is_array_of_characters type_) (is_some (elements_of nodes handle (kind_at nodes handle))) is)))
        ∙ ap (λ (b : Bool). string_if b (given_at nodes facts handle) behind) is

    without_string : (type_ : TypeTree) (handle : ℕ) (is_moved : Bool) (behind : Items) (is_braced : Bool) → is_braces (kind_at nodes handle) ≡ is_braced
        → is_string_for type_ (given_at nodes facts handle) ≡ false → string_before type_ (Item [] is_moved (initializer_at nodes facts handle) behind) ≡ None
    without_string type_ handle is_moved behind true braced is = ap (λ (i : Initializer). string_before type_ (Item [] is_moved i behind)) (braces_at handle braced)
    without_string type_ handle is_moved behind false braced is =
        ap (λ (i : Initializer). string_before type_ (Item [] is_moved i behind)) (value_at handle braced) ∙ ap (λ (b : Bool). string_if b (given_at nodes facts handle) behind) is

    pub string_there : (type_ : TypeTree) (items behind : Items) (handle : ℕ) (is_designated is_moved : Bool) (designators : List Designator)
        → items ≡ Item (if is_designated then designators else []) is_moved (initializer_at nodes facts handle) behind → is_designated ≡ false
        → is_string_for type_ (given_at nodes facts handle) ≡ true → string_before type_ items ≡ Some (given_at nodes facts handle, behind)
    string_there type_ items behind handle true is_moved designators is designated string = absurd (cc designated)
    string_there type_ items behind handle false is_moved designators is designated string = ap (string_before type_) is ∙ with_string type_ handle is_moved behind string

    pub designated_there : (type_ : TypeTree) (items behind : Items) (handle : ℕ) (is_designated is_moved : Bool) (designators : List Designator)
        → items ≡ Item (if is_designated then designators else []) is_moved (initializer_at nodes facts handle) behind → is_designated ≡ true
        → (is_designated ≡ true → 0 < length designators) → string_before type_ items ≡ None
    designated_there type_ items behind handle false is_moved designators is designated some = absurd (cc designated)
    designated_there type_ items behind handle true is_moved [] is designated some = let few = some refl in absurd (omega (arith, few))
    designated_there type_ items behind handle true is_moved (designator ∷ designators) is designated some = ap (string_before type_) is

    pub no_string_there : (type_ : TypeTree) (items behind : Items) (handle : ℕ) (is_designated is_moved : Bool) (designators : List Designator)
        → items ≡ Item (if is_designated then designators else []) is_moved (initializer_at nodes facts handle) behind → is_designated ≡ false
        → is_string_for type_ (given_at nodes facts handle) ≡ false → string_before type_ items ≡ None
    no_string_there type_ items behind handle true is_moved designators is designated string = absurd (cc designated)
    no_string_there type_ items behind handle false is_moved designators is designated string =
        ap (string_before type_) is ∙ without_string type_ handle is_moved behind (is_braces (kind_at nodes handle)) refl string

-- Braces that a part receives

string_moved : (type_ : TypeTree) (is_moved : Bool) (items : Items) → string_before type_ (moved_with is_moved items) ≡ string_before type_ items
string_moved type_ false items = refl
string_moved type_ true NoItems = refl
string_moved type_ true (Item [] is_moved (Value given) items) = refl
string_moved type_ true (Item [] is_moved (Braces handle token inner) items) = refl
string_moved type_ true (Item (designator ∷ designators) is_moved initializer items) = refl

pub braces_received : (is_static : Bool) (found : Found) (type_ : TypeTree) (path : List ℕ) (level : Level) (levels : List Level) (is_moved : Bool)
    (initializer : Initializer) (behind : Items) (handle token : ℕ) (inner : Items) (told : Option (Given × Items)) → initializer ≡ Braces handle token inner
    → string_before type_ (moved_with is_moved inner) ≡ told
    → received is_static found type_ path level levels is_moved initializer behind ≡ received_braces is_static found type_ path level levels is_moved inner behind told
braces_received is_static found type_ path level levels is_moved initializer behind handle token inner told braces string =
    ap (λ (i : Initializer). received is_static found type_ path level levels is_moved i behind) braces
    ∙ ap (received_braces is_static found type_ path level levels is_moved inner behind) (sym (string_moved type_ is_moved inner) ∙ string)
