use Rattle.std.proofs.Common.{ℕ, ◌∷◌, drop, sym, ap, ◌∙◌}
use Rattle.meaning_tree.specs.Trees.{with_parts}
use Rattle.meaning_derivation.specs.Values.{ListValue, parts_of}
use Rattle.meaning_derivation.specs.State.{State, Goes, with_values}
use Rattle.meaning_derivation.specs.Actions.{below}
use Rattle.parse_state.specs.Joining.{word_at}
use Rattle.parse_state.specs.Seen.{state_of}
use Rattle.c_decl.proofs.Listing.{any_parts_joined}
use Rattle.c_decl.proofs.declarators.join_any_parts.Goals as goal

pub returns-clause-goes : goal.returns-clause-goes
returns-clause-goes c =
    let s : State = state_of c.args.state.now in
    any_parts_joined s c.requires.finds
    ∙ ap (λ (depth : ℕ). Goes (with_values s (ListValue (with_parts (parts_of (below s 2)) (parts_of (below s 0))) ∷ word_at s.values depth ∷ drop 4 s.values)))
    (sym c.name_depth-word.ensures)
    ∙ ap Goes (sym c.in_ok-collect_behind.ensures.list)
