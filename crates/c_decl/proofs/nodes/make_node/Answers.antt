-- What a row takes is covered by its sources.
use Rattle.std.proofs.Common.{[], ◌∷◌, IsSome, refl, subst}
use Rattle.vocabulary.specs.declared.action.Action.TheVariants.{MakeDeclaration, MakeDeclarator, MakeEnumerator, MakeFunctionDefinition, MakeMemberDeclaration, MakeParameter}
use Rattle.vocabulary.specs.declared.production_item.ProductionItem.TheVariants.{Do}
use Rattle.vocabulary.specs.declared.role.Role.TheVariants.{Evaluated, TypePart}
use Rattle.meaning_grammar.specs.Sorts.{effect}
use Rattle.meaning_derivation.specs.Values.{sorts_of}
use Rattle.parse_state.specs.declared.shape.Source.TheVariants.{OneTree, AllTrees}
use Rattle.parse_state.specs.Seen.{state_of}
use Rattle.parse_state.proofs.Fitting.{covered}
use Rattle.c_decl.proofs.nodes.make_node.Goals as goal

pub make_row-requires-in-MakeDeclaration : goal.make_row-requires-in-MakeDeclaration
make_row-requires-in-MakeDeclaration c =
    let values = (state_of c.args.state.now).values in
    record { covers = covered MakeDeclaration values (OneTree TypePart 1 ∷ AllTrees 0 ∷ []) (subst (λ action. IsSome (effect (Do action) (sorts_of values))) c.in-MakeDeclaration.is c.requires.finds) refl }

pub make_row-requires-in-MakeFunctionDefinition : goal.make_row-requires-in-MakeFunctionDefinition
make_row-requires-in-MakeFunctionDefinition c =
    let values = (state_of c.args.state.now).values in
    record { covers = covered MakeFunctionDefinition values (OneTree TypePart 3 ∷ OneTree TypePart 2 ∷ AllTrees 1 ∷ OneTree Evaluated 0 ∷ []) (subst (λ action. IsSome (effect (Do action) (sorts_of values))) c.in-MakeFunctionDefinition.is c.requires.finds) refl }

pub make_row-requires-in-MakeMemberDeclaration : goal.make_row-requires-in-MakeMemberDeclaration
make_row-requires-in-MakeMemberDeclaration c =
    let values = (state_of c.args.state.now).values in
    record { covers = covered MakeMemberDeclaration values (OneTree TypePart 1 ∷ AllTrees 0 ∷ []) (subst (λ action. IsSome (effect (Do action) (sorts_of values))) c.in-MakeMemberDeclaration.is c.requires.finds) refl }

pub make_row-requires-in-MakeEnumerator : goal.make_row-requires-in-MakeEnumerator
make_row-requires-in-MakeEnumerator c =
    let values = (state_of c.args.state.now).values in
    record { covers = covered MakeEnumerator values (AllTrees 0 ∷ []) (subst (λ action. IsSome (effect (Do action) (sorts_of values))) c.in-MakeEnumerator.is c.requires.finds) refl }

pub make_row-requires-in-MakeDeclarator : goal.make_row-requires-in-MakeDeclarator
make_row-requires-in-MakeDeclarator c =
    let values = (state_of c.args.state.now).values in
    record { covers = covered MakeDeclarator values (AllTrees 0 ∷ []) (subst (λ action. IsSome (effect (Do action) (sorts_of values))) c.in-MakeDeclarator.is c.requires.finds) refl }

pub make_row-requires-in-MakeParameter : goal.make_row-requires-in-MakeParameter
make_row-requires-in-MakeParameter c =
    let values = (state_of c.args.state.now).values in
    record { covers = covered MakeParameter values (OneTree TypePart 1 ∷ AllTrees 0 ∷ []) (subst (λ action. IsSome (effect (Do action) (sorts_of values))) c.in-MakeParameter.is c.requires.finds) refl }
