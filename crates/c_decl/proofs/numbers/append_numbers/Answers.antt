use Rattle.std.proofs.Common.{◌≡◌, List, ◌∷◌, drop, ap, ◌∙◌}
use Rattle.meaning_derivation.specs.Values.{Value, TreeValue, sort_of, value_at}
use Rattle.meaning_derivation.specs.Attributes.{constant_at}
use Rattle.parse_state.specs.Seen.{state_of}
use Rattle.c_decl.specs.Attributes.{placed_seen}
use Rattle.c_decl.proofs.Appending.{list_below, values_made}
use Rattle.c_decl.proofs.numbers.append_numbers.Goals as goal

pub append_made-requires-clause-list : goal.append_made-requires-clause-list
append_made-requires-clause-list c =
    let s = state_of c.args.state.now in
    let one = state_of c.make_constant.new.state in
    let two = state_of c.make_constant-2.new.state in
    ap (λ (values : List Value). sort_of (value_at (drop 3 values) 0))
    (values_made one two 0 (constant_at (placed_seen c.args.leaves)) c.in_ok-make_constant-2.ensures.goes
    ∙ ap (λ (values : List Value). TreeValue (constant_at (placed_seen c.args.leaves)) ∷ values)
    (values_made s one 0 (constant_at (placed_seen c.args.enters)) c.in_ok-make_constant.ensures.goes))
    ∙ list_below s.values c.requires.finds
