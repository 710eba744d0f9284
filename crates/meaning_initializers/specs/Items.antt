-- Initializers as they are written (C11 6.7.9 p1): expressions, and items in braces, each with the designators before it.
use Rattle.std.specs.Prelude.{ℕ, Bool, true, false, List, [], ◌∷◌, Option}
use Rattle.meaning_typing.specs.Facts.{Fact}

-- an expression that gives a value
pub record Given : Type 0 where
  -- of its node
  pub handle : ℕ
  pub token : ℕ
  -- how many elements a string literal has, the last zero among them; other expressions have none, also such a literal in parentheses
  pub elements : Option ℕ
  pub fact : Fact

-- what a designator names
pub data Target : Type 0 where
  -- a member, by its name
  MemberNamed : List ℕ → Target
  -- an element, by what is known of the index
  ElementAt : Fact → Target

pub record Designator : Type 0 where
  -- of its node
  pub handle : ℕ
  pub token : ℕ
  pub target : Target

mutual
  pub data Initializer : Type 0 where
    Value : Given → Initializer
    Braces : (handle token : ℕ) → Items → Initializer

  -- Items in order. One is moved where a designator stands before it, or before braces that it begins.
  pub data Items : Type 0 where
    NoItems : Items
    Item : List Designator → (is_moved : Bool) → Initializer → Items → Items

-- the node and the token of an initializer
abbrev pub handle_of : Initializer → ℕ
handle_of (Value given) = given.handle
handle_of (Braces handle token items) = handle

abbrev pub token_of : Initializer → ℕ
token_of (Value given) = given.token
token_of (Braces handle token items) = token

-- an item without a designator comes next
abbrev pub begins_undesignated : Items → Bool
begins_undesignated NoItems = false
begins_undesignated (Item [] is_moved initializer items) = true
begins_undesignated (Item (designator ∷ designators) is_moved initializer items) = false

-- from the next item on that has a designator
abbrev pub from_designator : Items → Items
from_designator NoItems = NoItems
from_designator (Item [] is_moved initializer items) = from_designator items
from_designator (Item (designator ∷ designators) is_moved initializer items) = Item (designator ∷ designators) is_moved initializer items

-- the items of braces that a designator moved, or didn't
abbrev pub moved_with : (is_moved : Bool) → Items → Items
moved_with false items = items
moved_with true NoItems = NoItems
moved_with true (Item designators is_moved initializer items) = Item designators true initializer items
