-- The unit is the list of what was read, which ends at the root of the tree that is left.
use Rattle.std.proofs.Common.{◌≡◌, [], ◌∷◌, sym, subst}
use Rattle.meaning_grammar.specs.Sorts.{ATree}
use Rattle.meaning_derivation.specs.Values.{sorts_of}
use Rattle.parse_state.specs.Finished.{IsOnlyTreeOf, HasKnownNames, spelled}
use Rattle.parse_state.specs.Seen.{Read, state_of}
use Rattle.parse_state.proofs.Finished.{unit_is_laid, unit_is_tree}
use Rattle.parse_state.proofs.state.ParseState.into_unit.Goals as goal

pub returns-clause-tree : goal.returns-clause-tree
returns-clause-tree c =
    let alone = subst (λ (seen : Read). sorts_of (state_of seen).values ≡ ATree ∷ []) (sym c.self.view_is) c.requires in
    subst (λ (seen : Read). IsOnlyTreeOf (spelled seen.names c.self.inside.unit) (state_of seen).values) c.self.view_is
    (unit_is_tree c.self.inside.names.now c.self.inside.unit c.self.inside.values.items c.self.invariant.first c.self.invariant.laid alone
    c.each_node_stands_for_one_tree.ensures.order)

pub returns-clause-laid : goal.returns-clause-laid
returns-clause-laid c =
    let alone = subst (λ (seen : Read). sorts_of (state_of seen).values ≡ ATree ∷ []) (sym c.self.view_is) c.requires in
    unit_is_laid c.self.inside.names.now c.self.inside.unit c.self.inside.values.items c.self.invariant.first c.self.invariant.laid alone

pub returns-clause-names : goal.returns-clause-names
returns-clause-names c = subst (λ (seen : Read). HasKnownNames seen.names c.self.inside.unit) c.self.view_is c.self.invariant.node_names
