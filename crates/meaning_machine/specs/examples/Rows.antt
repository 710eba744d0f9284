-- Worked examples: conversions, what fits, single loads and stores, and blocks that outlast others.
use Rattle.std.specs.Prelude.{◌≡◌, ℕ, Bool, true, false, ℤ, pos, negsuc, List, [], ◌∷◌, Some, None, map, replicate, codes}
use Rattle.vocabulary.specs.declared.int_kind.IntKind.TheVariants as kinds
use Rattle.meaning_types.specs.Types.{NumberedSpace, Flags, TypeTree}
use Rattle.meaning_types.specs.examples.Types.{plain}
use Rattle.meaning_tree.specs.Trees.{SyntaxTree}
use Rattle.meaning_syntax.specs.Items.{Object}
use Rattle.meaning_syntax.specs.Trees.{unit_tree}
use Rattle.meaning_first_rules.specs.Bindings.{pointer_to}
use Rattle.meaning_first_rules.specs.Typing.{int_with}
use Rattle.meaning_first_rules.specs.examples.Failures.{noderef_flags, function_of}
use Rattle.meaning_machine.specs.Values.{Spot, Null, Foreign, In, Value, Integer, Pointer, ForObject, ForFunction, Cell, Block, Fits}
use Rattle.meaning_machine.specs.Outcomes.{DeadBlock, ForeignPointer, OutOfBounds, ReadOnly, AccessFault, SpaceFault, RestrictedFault, ShapeFault, Gives, IsFault, IsUndefined}
use Rattle.meaning_machine.specs.Memory.{adopt, content_at, with_content, block_with, load, store}
use Rattle.meaning_machine.specs.Runs.{IsWritable, opening, Write, Moves}
use Rattle.meaning_machine.specs.laws.Soundness.{Last}
use Rattle.meaning_machine.specs.examples.Runs.{plain_int, const_int, int_of, object_spot, indeterminate_block}

-- Storage of one int

-- a block that holds this int
abbrev pub int_block : TypeTree → Bool → ℕ → Block
int_block declared is_alive number =
    record { made = ForObject declared; is_alive = is_alive; cells = record { path = []; content = Some (int_of number) } ∷ [] }

abbrev pub living : List Block
living = int_block plain_int true 3 ∷ []

abbrev pub dead : List Block
dead = int_block plain_int false 3 ∷ []

abbrev pub constant : List Block
constant = int_block const_int true 3 ∷ []

-- the flags that `__attribute__((address_space(2)))` gives
abbrev pub space_flags : Flags
space_flags = record { noderef = false; space = NumberedSpace 2 }

-- a block for a function
abbrev pub function_block : Block
function_block = record { made = ForFunction; is_alive = true; cells = [] }

-- just behind the only element of block 0
abbrev pub behind_the_end : Spot
behind_the_end = In 0 [] 1 1

-- an int with this number
abbrev pub integer : ℤ → Value
integer number = Integer kinds.Int None false number

pub record RowExamples : Type 0 where
  -- `extern int x; extern int *p; void f(void) { }`: x is 0 and p null at the opening; a function has no cells
  pub opening_blocks :
      (opening (unit_tree (Object [] 0 (codes "x") ∷ Object [] 1 (codes "p") ∷ function_of [] ∷ []))).blocks
      ≡ int_block plain_int true 0
      ∷ record {
        made = ForObject (pointer_to plain_int);
        is_alive = true;
        cells = record { path = []; content = Some (Pointer plain_int Null) } ∷ [];
      }
      ∷ function_block
      ∷ []
  pub loaded : load living (record { type_ = plain_int; spot = object_spot 0 }) ≡ Gives (int_of 3)
  pub const_loaded : load constant (record { type_ = plain_int; spot = object_spot 0 }) ≡ Gives (int_of 3)
  pub foreign_loaded : load living (record { type_ = plain_int; spot = Foreign }) ≡ IsUndefined ForeignPointer
  pub dead_loaded : load dead (record { type_ = plain_int; spot = object_spot 0 }) ≡ IsUndefined DeadBlock
  pub loaded_behind_the_end : load living (record { type_ = plain_int; spot = behind_the_end }) ≡ IsUndefined OutOfBounds
  -- a dead block goes before its bounds
  pub dead_loaded_behind_the_end : load dead (record { type_ = plain_int; spot = behind_the_end }) ≡ IsUndefined DeadBlock
  -- a fault is looked for before what is undefined
  pub loaded_as_pointer : load dead (record { type_ = pointer_to plain_int; spot = object_spot 0 }) ≡ IsFault ShapeFault
  pub noderef_null_loaded : load [] (record { type_ = int_with noderef_flags; spot = Null }) ≡ IsFault AccessFault
  -- a space alone is a flag too
  pub space_null_loaded : load [] (record { type_ = int_with space_flags; spot = Null }) ≡ IsFault AccessFault
  -- what is no object of this type is none that one may load
  pub function_loaded : load (function_block ∷ []) (record { type_ = plain_int; spot = object_spot 0 }) ≡ IsFault ShapeFault
  pub no_block_loaded : load [] (record { type_ = plain_int; spot = object_spot 0 }) ≡ IsFault ShapeFault
  pub stored : store living (object_spot 0) (int_of 5) ≡ Gives (int_block plain_int true 5 ∷ [])
  pub indeterminate_stored : store (indeterminate_block ∷ []) (object_spot 0) (int_of 5) ≡ Gives (int_block plain_int true 5 ∷ [])
  pub dead_stored : store dead (object_spot 0) (int_of 5) ≡ IsUndefined DeadBlock
  pub stored_behind_the_end : store living behind_the_end (int_of 5) ≡ IsUndefined OutOfBounds
  pub const_stored : store constant (object_spot 0) (int_of 5) ≡ IsUndefined ReadOnly
  -- dead blocks go before bounds, and bounds before const
  pub dead_stored_behind_the_end : store dead behind_the_end (int_of 5) ≡ IsUndefined DeadBlock
  pub const_stored_behind_the_end : store constant behind_the_end (int_of 5) ≡ IsUndefined OutOfBounds
  pub no_block_stored : store [] (object_spot 0) (int_of 5) ≡ IsUndefined OutOfBounds
  -- a plain 0 becomes a null pointer, and no other number does (6.3.2.3 p3)
  pub zero_adopted : adopt (int_of 0) (pointer_to plain_int) ≡ Gives (Pointer plain_int Null)
  pub one_adopted : adopt (int_of 1) (pointer_to plain_int) ≡ IsFault ShapeFault
  pub negative_adopted : adopt (integer (negsuc 0)) (pointer_to plain_int) ≡ IsFault ShapeFault
  -- a pointer becomes no number but that of a _Bool, in which each but a null one is 1 (6.3.1.2)
  pub pointer_adopted_by_int : adopt (Pointer plain_int Null) plain_int ≡ IsFault ShapeFault
  pub null_adopted_by_bool : adopt (Pointer plain_int Null) (plain kinds.Bool) ≡ Gives (Integer kinds.Bool None false (pos 0))
  pub pointers_adopted_by_bool :
      map (λ spot. adopt (Pointer (int_with noderef_flags) spot) (plain kinds.Bool)) (Foreign ∷ object_spot 0 ∷ behind_the_end ∷ [])
      ≡ replicate 3 (Gives (Integer kinds.Bool None false (pos 1)))
  -- a plain integer becomes any integer type
  pub other_kind_adopted : adopt (Integer kinds.Char None false (pos 1)) plain_int ≡ Gives (int_of 1)
  pub wider_adopted :
      adopt (Integer kinds.ULong None false (pos 18446744073709551615)) plain_int ≡ Gives (integer (negsuc 0))
  pub adopted_by_bool : adopt (int_of 256) (plain kinds.Bool) ≡ Gives (Integer kinds.Bool None false (pos 1))
  -- no integer type has an identity, so a restricted number meets another one, 0 and a fouled one too
  pub restricted_adopted : adopt (Integer kinds.Int (Some 0) false (pos 1)) plain_int ≡ IsFault RestrictedFault
  pub restricted_zero_adopted : adopt (Integer kinds.Int (Some 0) false (pos 0)) plain_int ≡ IsFault RestrictedFault
  pub restricted_fouled_adopted : adopt (Integer kinds.Int (Some 7) true (pos 1)) (plain kinds.Long) ≡ IsFault RestrictedFault
  -- a pointer's type has none to meet
  pub restricted_adopted_by_pointer : adopt (Integer kinds.Int (Some 0) false (pos 0)) (pointer_to plain_int) ≡ IsFault ShapeFault
  -- a plain number is never fouled
  pub fouled_adopted : adopt (Integer kinds.Int None true (pos 1)) plain_int ≡ IsFault ShapeFault
  -- targets that differ in flags alone, at any level, and targets that differ otherwise
  pub flags_lost : adopt (Pointer (int_with noderef_flags) Null) (pointer_to plain_int) ≡ IsFault SpaceFault
  pub deeper_flags_lost :
      adopt (Pointer (pointer_to (int_with noderef_flags)) Null) (pointer_to (pointer_to plain_int)) ≡ IsFault SpaceFault
  pub other_target_adopted : adopt (Pointer (pointer_to plain_int) Null) (pointer_to plain_int) ≡ IsFault ShapeFault
  pub other_flagged_target_adopted :
      adopt (Pointer (pointer_to (int_with noderef_flags)) Null) (pointer_to plain_int) ≡ IsFault ShapeFault

-- Blocks with several cells, as no object of the first form has them

-- an int in a cell
abbrev pub int_cell : ℕ → ℕ → Cell
int_cell part number = record { path = part ∷ []; content = Some (int_of number) }

-- three cells, of which the middle one holds this int
abbrev pub three_cells : ℕ → List Cell
three_cells number = int_cell 0 3 ∷ int_cell 1 number ∷ int_cell 2 5 ∷ []

pub record CellExamples : Type 0 where
  pub found : content_at (three_cells 4) (1 ∷ []) ≡ Some (Some (int_of 4))
  pub none : content_at (three_cells 4) [] ≡ None
  -- a write changes its one cell
  pub written : with_content (three_cells 4) (1 ∷ []) (int_of 7) ≡ three_cells 7
  pub nowhere : with_content (three_cells 4) [] (int_of 7) ≡ three_cells 4
  -- and nothing else of its block
  pub rest_kept : block_with (int_block const_int false 3) [] (int_of 5) ≡ int_block const_int false 5

-- What fits

pub record FitExamples : Type 0 where
  pub least_fits : Fits [] (integer (negsuc 2147483647)) plain_int
  pub greatest_fits : Fits [] (integer (pos 2147483647)) plain_int
  pub one_less : Fits [] (integer (negsuc 2147483648)) plain_int → ⊥
  pub one_more : Fits [] (integer (pos 2147483648)) plain_int → ⊥
  pub null : Fits [] (Pointer plain_int Null) (pointer_to plain_int)
  pub foreign : Fits [] (Pointer plain_int Foreign) (pointer_to plain_int)
  -- a pointer may stand just behind the last element, and not further; its block may be dead (6.5.6 p8)
  pub behind : Fits living (Pointer plain_int behind_the_end) (pointer_to plain_int)
  pub further : Fits living (Pointer plain_int (In 0 [] 2 1)) (pointer_to plain_int) → ⊥
  pub into_dead : Fits dead (Pointer plain_int (object_spot 0)) (pointer_to plain_int)
  pub no_block : Fits [] (Pointer plain_int (object_spot 0)) (pointer_to plain_int) → ⊥
  pub function : Fits (function_block ∷ []) (Pointer plain_int (object_spot 0)) (pointer_to plain_int) → ⊥
  -- an object is one element
  pub two_elements : Fits living (Pointer plain_int (In 0 [] 0 2)) (pointer_to plain_int) → ⊥
  pub part : Fits living (Pointer plain_int (In 0 (0 ∷ []) 0 1)) (pointer_to plain_int) → ⊥
  -- a pointer's target counts, but for const, and so does what it points to
  pub const_target : Fits living (Pointer const_int (object_spot 0)) (pointer_to plain_int)
  pub other_flags : Fits [] (Pointer (int_with noderef_flags) Null) (pointer_to plain_int) → ⊥
  pub other_block : Fits living (Pointer (pointer_to plain_int) (object_spot 0)) (pointer_to (pointer_to plain_int)) → ⊥
  -- an int is plain
  pub other_kind : Fits [] (Integer kinds.Char None false (pos 0)) plain_int → ⊥
  pub restricted : Fits [] (Integer kinds.Int (Some 0) false (pos 0)) plain_int → ⊥
  pub fouled : Fits [] (Integer kinds.Int None true (pos 0)) plain_int → ⊥
  -- the outside writes into living cells alone, into indeterminate ones too
  pub written : IsWritable living (int_block plain_int true 3) [] (int_of 5)
  pub const_written : IsWritable constant (int_block const_int true 3) [] (int_of 5)
  pub indeterminate_written : IsWritable (indeterminate_block ∷ []) indeterminate_block [] (int_of 5)
  pub indeterminate_moved :
      (unit : SyntaxTree)
      → Moves unit (record { blocks = indeterminate_block ∷ []; activities = [] }) (Write 0 [] (int_of 5))
      (record { blocks = int_block plain_int true 5 ∷ []; activities = [] })
  pub dead_written : IsWritable dead (int_block plain_int false 3) [] (int_of 5) → ⊥
  pub no_cell : IsWritable living (int_block plain_int true 3) (0 ∷ []) (int_of 5) → ⊥

-- Blocks that outlast others

pub record LastExamples : Type 0 where
  pub written : Last living (int_block plain_int true 5 ∷ [])
  pub killed : Last living dead
  pub more : Last [] living
  pub lives_again : Last dead living → ⊥
  pub made_for_another : Last living constant → ⊥
  pub gone : Last living [] → ⊥
