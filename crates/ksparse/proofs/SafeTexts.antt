-- A unit that is answered by silence is safe, one of the first form that has a run with a fault isn't.
use Rattle.std.proofs.Common.{◌≡◌, ℕ, Bool, true, false, ◌&&◌, List, [], ◌∷◌, Option, Some, None, option_map, refl, subst}
use Rattle.std.specs.List.{list_any}
use Rattle.std.specs.Str.{bytes_eq}
use Rattle.std.proofs.lemmas.Bool.{and_parts}
use Rattle.std.proofs.lemmas.Option.{none-some, same_Some}
use Rattle.vocabulary.specs.Rules.{default_classes}
use Rattle.meaning_text.specs.Tokens.{Tok}
use Rattle.meaning_tree.specs.Trees.{SyntaxTree}
use Rattle.meaning_grammar.specs.Terminals.{Terminal}
use Rattle.meaning_derivation.specs.Actions.{act}
use Rattle.meaning_derivation.specs.State.{State, Outcome, Done, Fails}
use Rattle.meaning_derivation.specs.Units.{DerivesTree, HasOutcome}
use Rattle.meaning_derivation.specs.Values.{Value, WordValue, TreeValue, ListValue}
use Rattle.meaning_derivation.specs.plain.Deriving.{derived_outcome}
use Rattle.meaning_derivation.proofs.Deriving.{answers_are_outcomes}
use Rattle.meaning_unit_nodes.specs.Numbered.{spellings_told, unit_nodes}
use Rattle.meaning_syntax.specs.Items.{Item}
use Rattle.meaning_syntax.specs.Trees.{IsInFirstForm, unit_tree}
use Rattle.meaning_first_rules.specs.Failures.{Failure}
use Rattle.meaning_first_units.specs.Units.{without_links}
use Rattle.meaning_preprocessing.specs.Unit.{UnitEnd, Ends, EndsEarly, PreprocessedUnit}
use Rattle.meaning_answer.specs.Answers.{IsCheckEnd, files_of}
use Rattle.meaning_answer.specs.Reply.{silence}
use Rattle.meaning_answer.specs.plain.Replying.{end_reply}
use Rattle.meaning_answer.proofs.Replies.{end_right}
use Rattle.meaning_machine.specs.Outcomes.{FaultKind}
use Rattle.meaning_machine.specs.Machine.{Fault}
use Rattle.meaning_machine.specs.Runs.{IsSafe, Move}
use Rattle.meaning_machine.specs.plain.Playing.{onto}
use Rattle.meaning_machine.specs.examples.Runs.{Meets}
use Rattle.meaning_machine.specs.laws.Playing.{FaultsAreUnsafe}
use Rattle.meaning_safety.specs.Laws.{CleanChecksAreSafe}
use Rattle.meaning_safety.specs.Safe.{AreSafeTokens, DeriveLinkedTree}
use Rattle.ksparse.specs.Safe.{IsSafeUnit}
use Rattle.ksparse.proofs.CleanIsSafe.{clean-end, stop-unclean}
use Rattle.ksparse.proofs.LinkTests.{are_linked, each_name, links-so, names-so}

-- The tree that tokens derive

abbrev tree_in : (values : List Value) → (left : List Terminal) → Option SyntaxTree
tree_in (TreeValue tree ∷ []) [] = Some tree
tree_in values left = None

abbrev tree_of : Option Outcome → Option SyntaxTree
tree_of (Some (Done last left)) = tree_in last.values left
tree_of outcome = None

abbrev pub tree_found : (depth : ℕ) → List Tok → Option SyntaxTree
tree_found depth tokens = tree_of (derived_outcome act depth tokens)

module _ (tokens : List Tok) (tree : SyntaxTree) where
  found-in : (last : State) (values : List Value) (left : List Terminal) → last.values ≡ values → HasOutcome act tokens (Done last left)
      → tree_in values left ≡ Some tree → DerivesTree act tokens tree
  found-in last (TreeValue one ∷ []) [] are has is = (last, has, subst (λ t. last.values ≡ TreeValue t ∷ []) (same_Some one tree is) are)
  found-in last (TreeValue one ∷ []) (terminal ∷ left) are has is = absurd (none-some tree is)
  found-in last (TreeValue one ∷ value ∷ values) left are has is = absurd (none-some tree is)
  found-in last (WordValue token text ∷ values) left are has is = absurd (none-some tree is)
  found-in last (ListValue parts ∷ values) left are has is = absurd (none-some tree is)
  found-in last [] left are has is = absurd (none-some tree is)

  found-of : (depth : ℕ) (outcome : Option Outcome) → derived_outcome act depth tokens ≡ outcome → tree_of outcome ≡ Some tree → DerivesTree act tokens tree
  found-of depth None derived is = absurd (none-some tree is)
  found-of depth (Some (Fails fault decided stands)) derived is = absurd (none-some tree is)
  found-of depth (Some (Done last left)) derived is =
      found-in last last.values left refl (answers_are_outcomes act depth tokens (Done last left) derived) is

  found-derives : (depth : ℕ) → tree_found depth tokens ≡ Some tree → DerivesTree act tokens tree
  found-derives depth is = found-of depth (derived_outcome act depth tokens) refl is

-- its names are told and linked
abbrev is_told : List Tok → (name : List ℕ) → Bool
is_told tokens name = list_any (bytes_eq name) (spellings_told tokens)

abbrev is_linked : List Tok → Option SyntaxTree → Bool
is_linked tokens None = false
is_linked tokens (Some tree) = each_name (is_told tokens) tree && are_linked (unit_nodes tokens tree) 0 (unit_nodes tokens tree)

linked-of : (depth : ℕ) (tokens : List Tok) (found : Option SyntaxTree) → tree_found depth tokens ≡ found → is_linked tokens found ≡ true → DeriveLinkedTree tokens
linked-of depth tokens None is linked = absurd (cc linked)
linked-of depth tokens (Some tree) is linked =
    let both = and_parts (each_name (is_told tokens) tree) (are_linked (unit_nodes tokens tree) 0 (unit_nodes tokens tree)) linked in
    (tree, found-derives tokens tree depth is, names-so (is_told tokens) tree both.0, links-so (unit_nodes tokens tree) both.1)

-- Texts

module _ (law : CleanChecksAreSafe) where
  safe-end : (tokens : List Tok) (end : UnitEnd) → IsCheckEnd default_classes tokens end silence → DeriveLinkedTree tokens → AreSafeTokens default_classes tokens
  safe-end tokens (Ends undefined paths) told linked =
      law default_classes (files_of paths) tokens undefined silence told refl linked
  safe-end tokens (EndsEarly stop) told linked = absurd (stop-unclean stop silence told refl)

  pub silent_unit_is_safe :
      (depth : ℕ) (unit : PreprocessedUnit) → end_reply depth default_classes unit.tokens unit.end ≡ Some silence
      → is_linked unit.tokens (tree_found depth unit.tokens) ≡ true → IsSafeUnit default_classes unit
  silent_unit_is_safe depth unit silent linked =
      let right = end_right depth default_classes unit.tokens unit.end silence silent in
      clean-end default_classes unit.tokens unit.end silence right refl
      (safe-end unit.tokens unit.end right (linked-of depth unit.tokens (tree_found depth unit.tokens) refl linked))

module _ (law : FaultsAreUnsafe) (depth : ℕ) (unit : PreprocessedUnit) (items : List Item) (failures : List Failure) (moves : List Move) (activity : ℕ)
    (kind : FaultKind) (token : ℕ) where
  pub faulty_unit_is_unsafe :
      Meets items failures moves activity (Fault kind token) → option_map without_links (tree_found depth unit.tokens) ≡ Some (unit_tree items)
      → IsSafeUnit default_classes unit → ⊥
  faulty_unit_is_unsafe meets of_items is_safe = by (tree_found depth unit.tokens) refl of_items
    where
      by : (found : Option SyntaxTree) → tree_found depth unit.tokens ≡ found → option_map without_links found ≡ Some (unit_tree items) → ⊥
      by None found is = none-some (unit_tree items) is
      by (Some tree) found is =
          let same = same_Some (without_links tree) (unit_tree items) is in
          let form : IsInFirstForm (without_links tree) = record { items = items; fit = meets.fit; bound = meets.bound; is_tree = same } in
          law (unit_tree items) (onto moves []) meets.world activity kind token meets.runs meets.met
          (subst IsSafe same (is_safe.safe refl tree (found-derives unit.tokens tree depth found) form))
