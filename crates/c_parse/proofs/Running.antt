-- From the first token of a unit to its end.
use Rattle.std.proofs.Common.{◌≡◌, List, [], ◌∷◌, Some, ap, subst, ◌∙◌}
use Rattle.vocabulary.specs.declared.symbol.Symbol.TheVariants.{ExternalDeclarations}
use Rattle.vocabulary.specs.declared.action.Action.TheVariants.{BeginList, MakeTranslationUnit}
use Rattle.vocabulary.specs.declared.production_item.ProductionItem.{ProductionItem}
use Rattle.vocabulary.specs.declared.production_item.ProductionItem.TheVariants.{Nonterminal, Do}
use Rattle.meaning_text.specs.Tokens.{Tok}
use Rattle.meaning_grammar.specs.Productions.{start}
use Rattle.meaning_grammar.specs.Terminals.{Terminal, terminals}
use Rattle.meaning_grammar.specs.Sorts.{effects}
use Rattle.meaning_derivation.specs.Values.{TreeValue, sorts_of}
use Rattle.meaning_derivation.specs.State.{State, IsError, PassesLimit, Done, Fails}
use Rattle.meaning_derivation.specs.Actions.{act}
use Rattle.meaning_derivation.specs.Leading.{Standing, ComesTo, LeadsTo}
use Rattle.meaning_derivation.specs.Units.{state_before, DerivesTree}
use Rattle.meaning_tree.specs.Trees.{SyntaxTree}
use Rattle.c_parse.specs.Answers.{IsFaultOf}
use Rattle.c_parse.specs.Steps.{IsSorted, before_end, standing}
use Rattle.c_parse.specs.Telling.{IsTold}
use Rattle.c_parse.specs.declared.fault.ParseFault.{ParseFault}
use Rattle.c_parse.specs.declared.fault.ParseFault.TheVariants.{Refused, Limit, Memory}
use Rattle.c_parse.proofs.Told.{told_so}

-- The beginning

abbrev unit_items : List ProductionItem
unit_items = Do BeginList ∷ Nonterminal ExternalDeclarations ∷ Do MakeTranslationUnit ∷ []

pub begins_sorted : (items : List ProductionItem) (s : State) → items ≡ unit_items → s.values ≡ [] → IsSorted items s
begins_sorted items s are none =
    ap (λ all. effects all (Some (sorts_of s.values))) are ∙ ap (λ values. effects unit_items (Some (sorts_of values))) none

-- before the first token of a unit
abbrev pub first_standing : List Tok → Standing
first_standing tokens = record { items = start; state = state_before tokens; terminals = terminals tokens }

pub begins_first : (tokens : List Tok) (items : List ProductionItem) (s : State) (left : List Terminal) → before_end items ≡ start → s ≡ state_before tokens
    → left ≡ terminals tokens → standing items s left ≡ first_standing tokens
begins_first tokens items s left are is lefts =
    ap (λ all. record { items = all; state = s; terminals = left }) are
    ∙ ap (λ state. record { items = start; state = state; terminals = left }) is
    ∙ ap (λ some. record { items = start; state = state_before tokens; terminals = some }) lefts

-- Steps

pub told_on : (first second : Standing) (fault : ParseFault) → LeadsTo act first second → IsTold (ComesTo act second) fault → IsTold (ComesTo act first) fault
told_on first second fault leads told = told_so (ComesTo act second) (ComesTo act first) fault (λ why decided stands is. leads (Fails why decided stands) is) told

pub leads_over : (first second third : Standing) → LeadsTo act first second → LeadsTo act second third → LeadsTo act first third
leads_over first second third on further outcome derived = on outcome (further outcome derived)

-- The end

pub told_of_unit : (tokens : List Tok) (here : Standing) (fault : ParseFault) → here ≡ first_standing tokens → IsTold (ComesTo act here) fault → IsFaultOf tokens fault
told_of_unit tokens here (Refused kind token) is told = (told.0, subst (λ one. ComesTo act one (Fails (IsError kind) told.0 token)) is told.1)
told_of_unit tokens here (Limit limit token) is told = (told.0, subst (λ one. ComesTo act one (Fails (PassesLimit limit) told.0 token)) is told.1)
told_of_unit tokens here Memory is told = tt

pub tree_of_unit : (tokens : List Tok) (here : Standing) (last : State) (tree : SyntaxTree) → here ≡ first_standing tokens → ComesTo act here (Done last [])
    → last.values ≡ TreeValue tree ∷ [] → DerivesTree act tokens tree
tree_of_unit tokens here last tree is comes values = (last, subst (λ one. ComesTo act one (Done last [])) is comes, values)
