-- What stands above a node, as it is kept.
use Rattle.std.specs.Prelude.{◌≡◌, ℕ, nat_lt, List, [], ◌∷◌, Option, Some, None, get_or, if◌then◌else◌}
use Rattle.meaning_typing.specs.Units.{UnitNodes}
use Rattle.meaning_typing.specs.Surroundings.{Surrounding}
use Rattle.meaning_statements.specs.Above.{Above, expressions_among, first_above, innermost, is_statement_expression, node_above, nodes_above, outermost}
use Rattle.meaning_statements.specs.Jumps.{in_loop, in_loop_or_switch, in_switch}
pub use Rattle.statement_judge.specs.declared.enclosing.Enclosing.{Enclosing}

-- nothing does
abbrev pub nothing_above : Enclosing
nothing_above = record { switch = None; left = None; continued = None; innermost = None; outermost = None }

-- what is kept of the nodes above, from the nearest one
abbrev pub enclosing_by : List Above → Enclosing
enclosing_by all =
    record {
      switch = first_above in_switch all;
      left = first_above in_loop_or_switch all;
      continued = first_above in_loop all;
      innermost = innermost (expressions_among all);
      outermost = outermost (expressions_among all);
    }

-- above the node with this handle
abbrev pub enclosing_at : UnitNodes → List Surrounding → (handle : ℕ) → Enclosing
enclosing_at nodes surroundings handle = enclosing_by (nodes_above nodes surroundings handle)

-- it is kept of each node
abbrev pub AreEnclosings : UnitNodes → List Surrounding → List Enclosing → Type 0
AreEnclosings nodes surroundings kept = (handle : ℕ) → get_or kept handle nothing_above ≡ enclosing_at nodes surroundings handle

-- From a node to its parts

-- the outermost one, where this is one
abbrev pub outer_or : (outer : Option ℕ) → (handle : ℕ) → ℕ
outer_or (Some outermost) handle = outermost
outer_or None handle = handle

-- above a part of this node, where this stands above the node
abbrev pub enclosing_under : Above → Enclosing → Enclosing
enclosing_under above outer =
    record {
      switch = if in_switch above then Some above.handle else outer.switch;
      left = if in_loop_or_switch above then Some above.handle else outer.left;
      continued = if in_loop above then Some above.handle else outer.continued;
      innermost = if is_statement_expression above.kind then Some above.handle else outer.innermost;
      outermost = if is_statement_expression above.kind then Some (outer_or outer.outermost above.handle) else outer.outermost;
    }

-- above the node with this handle, by what is kept of the node above it
abbrev pub enclosing_next : UnitNodes → Surrounding → (handle : ℕ) → List Enclosing → Enclosing
enclosing_next nodes surrounding handle kept =
    if nat_lt handle surrounding.parent then enclosing_under (node_above nodes surrounding) (get_or kept surrounding.parent nothing_above)
    else nothing_above
