-- Nodes of attributes at the end of their list, one step behind the other.
use Rattle.std.proofs.Common.{◌≡◌, ℕ, ◌+◌, List, [], ◌∷◌, ◌++◌, IsSome, Option, Some, None, option_map, take, drop, refl, sym, ap, subst, ◌∙◌}
use Rattle.std.proofs.lemmas.Option.{same_Some}
use Rattle.vocabulary.specs.declared.action.Action.TheVariants.{AppendAttribute}
use Rattle.vocabulary.specs.declared.production_item.ProductionItem.TheVariants.{Do}
use Rattle.meaning_attributes.specs.Reading.{Refusal}
use Rattle.meaning_tree.specs.Trees.{SyntaxTree}
use Rattle.meaning_grammar.specs.Sorts.{AWord, AList, effect}
use Rattle.meaning_derivation.specs.Values.{Value, WordValue, TreeValue, ListValue, sort_of, sorts_of, value_at}
use Rattle.meaning_derivation.specs.State.{State, Goes, made}
use Rattle.meaning_derivation.specs.Attributes.{list_refused}
use Rattle.c_attrs.specs.declared.fault.AttrFault.{AttrFault}
use Rattle.c_attrs.specs.Seen.{fault_telling}
use Rattle.parse_state.specs.declared.fault.ActionFault.{ActionFault}
use Rattle.parse_state.specs.Sources.{IsCovered}
use Rattle.parse_state.specs.Steps.{IsToldBy}
use Rattle.parse_state.proofs.Fitting.{fit}
use Rattle.c_decl.specs.Attributes.{IsRefusal, on_list}
use Rattle.c_decl.proofs.Listing.{made_state}

-- The word and the list that an item takes

word_and_list : (values : List Value) → IsSome (effect (Do AppendAttribute) (sorts_of values)) → take 2 (sorts_of values) ≡ AWord ∷ AList ∷ []
word_and_list values finds = fit AppendAttribute values finds

pub list_below : (values : List Value) → IsSome (effect (Do AppendAttribute) (sorts_of values)) → sort_of (value_at (drop 1 values) 0) ≡ AList
list_below values finds = second values (word_and_list values finds)
  where
    second : (stack : List Value) → take 2 (sorts_of stack) ≡ AWord ∷ AList ∷ [] → sort_of (value_at (drop 1 stack) 0) ≡ AList
    second [] is = absurd (cc is)
    second (value ∷ []) is = absurd (cc is)
    second (value ∷ other ∷ stack) is = let found : sort_of other ≡ AList = cc is in found

-- A node that is made

pub values_made : (s middle : State) (count : ℕ) (tree : SyntaxTree) → made s count tree ≡ Goes middle → middle.values ≡ TreeValue tree ∷ drop count s.values
values_made s middle count tree is = ap (λ (state : State). state.values) (made_state s middle count (TreeValue tree) is).1

tree_on_list : (tree : SyntaxTree) (stack : List Value) → sort_of (value_at stack 0) ≡ AList → IsCovered (TreeValue tree ∷ stack) 2 on_list
tree_on_list tree [] is = absurd (cc is)
tree_on_list tree (WordValue token text ∷ stack) is = absurd (cc is)
tree_on_list tree (TreeValue other ∷ stack) is = absurd (cc is)
tree_on_list tree (ListValue parts ∷ stack) is = refl

pub made_covers : (s middle : State) (count : ℕ) (tree : SyntaxTree) → made s count tree ≡ Goes middle → sort_of (value_at (drop count s.values) 0) ≡ AList
    → IsCovered middle.values 2 on_list
made_covers s middle count tree is list =
    subst (λ (values : List Value). IsCovered values 2 on_list) (sym (values_made s middle count tree is)) (tree_on_list tree (drop count s.values) list)

-- Refusals

-- a fault that tells of a refusal is told so of the list
pub refusal_told : (refusal : Option Refusal) (fault : AttrFault) (token start : ℕ) (result : ActionFault) → Some fault ≡ option_map fault_telling refusal
    → ((one : Refusal) → fault ≡ fault_telling one → IsToldBy (list_refused token start one) result) → IsRefusal token start refusal result
refusal_told None fault token start result is told = absurd (cc is)
refusal_told (Some refusal) fault token start result is told = told refusal (same_Some fault (fault_telling refusal) is)
