-- The plain program beside the answer. Parsing makes so many steps within one another at most, judging goes so deep into an initializer at
-- most, and where either needs more there is no answer. Nor is there one where contexts are changed: it walks no control paths.
use Rattle.std.specs.Prelude.{ℕ, Bool, true, false, List, [], ◌∷◌, Option, Some, None, if◌then◌else◌}
use Rattle.std.specs.List.{list_any}
use Rattle.std.specs.Option.{option_and_then}
use Rattle.vocabulary.specs.declared.class.Class.{Class}
use Rattle.vocabulary.specs.declared.limit.LimitKind.TheVariants.{ObjectSize}
use Rattle.vocabulary.specs.declared.node_kind.NodeKind.{NodeKind}
use Rattle.vocabulary.specs.declared.node_kind.NodeKind.TheVariants.{ContextAttribute, ContextStatement}
use Rattle.meaning_outside.specs.Files.{FileMap}
use Rattle.meaning_text.specs.Tokens.{Tok}
use Rattle.meaning_tree.specs.Trees.{SyntaxTree}
use Rattle.meaning_grammar.specs.Terminals.{Terminal}
use Rattle.meaning_derivation.specs.Values.{Value, TreeValue}
use Rattle.meaning_derivation.specs.State.{Outcome, Done, Fails}
use Rattle.meaning_derivation.specs.Actions.{act}
use Rattle.meaning_derivation.specs.plain.Deriving.{derived_outcome}
use Rattle.meaning_typing.specs.Building.{surroundings_of}
use Rattle.meaning_typing.specs.Units.{UnitNodes}
use Rattle.meaning_rules.specs.Rules.{Judgement, Holds, BreaksConstraint, PassesObjectSize}
use Rattle.meaning_conditions.specs.plain.Reading.{answer_of}
use Rattle.meaning_preprocessing.specs.Unit.{UnitEnd, Ends, EndsEarly, PreprocessedUnit, preprocessed}
use Rattle.meaning_unit_nodes.specs.Numbered.{unit_nodes}
use Rattle.meaning_answer.specs.Reply.{Reply}
use Rattle.meaning_answer.specs.Requests.{Options, Request, BadWord, MissingFile, Check, Expand, request_of}
use Rattle.meaning_answer.specs.Lines.{bad_word_reply, limit_reply, missing_file_reply, stop_reply, refusal_reply}
use Rattle.meaning_answer.specs.Units.{ParsedUnit, broken_reply, warned_reply, warnings_of}
use Rattle.meaning_answer.specs.Answers.{files_of, expand_reply}
use Rattle.meaning_answer.specs.plain.Judging.{judgement_found}

-- Contexts, of which it says nothing

abbrev pub is_context : NodeKind → Bool
is_context ContextAttribute = true
is_context ContextStatement = true
is_context kind = false

-- some node of the unit is one, wherever it stands
abbrev pub has_context : UnitNodes → Bool
has_context nodes = list_any (λ node. is_context node.kind) nodes

-- A unit that is parsed

-- the reply to this judgement
abbrev pub judged_reply : List Class → ParsedUnit → Judgement → Option Reply
judged_reply classes unit (BreaksConstraint broken) = Some (broken_reply unit broken)
judged_reply classes unit PassesObjectSize = Some (limit_reply ObjectSize)
judged_reply classes unit (Holds listing) = if has_context unit.nodes then None else Some (warned_reply (warnings_of classes unit listing))

abbrev pub unit_reply : (depth : ℕ) → List Class → ParsedUnit → Option Reply
unit_reply depth classes unit = option_and_then (judged_reply classes unit) (judgement_found depth unit.nodes unit.surroundings)

module _ (depth : ℕ) (classes : List Class) (files : List (List ℕ)) (tokens : List Tok) (undefined : List Tok) where
  -- to tokens that derive this tree
  abbrev pub tree_reply : SyntaxTree → Option Reply
  tree_reply tree =
      let nodes = unit_nodes tokens tree in
      unit_reply depth classes
      (record { files = files; tokens = tokens; undefined = undefined; nodes = nodes; surroundings = surroundings_of nodes })

  -- a unit leaves one tree, and no terminal behind it
  abbrev pub values_reply : List Value → List Terminal → Option Reply
  values_reply (TreeValue tree ∷ []) [] = tree_reply tree
  values_reply values left = None

  -- to tokens with this outcome
  abbrev pub outcome_reply : Outcome → Option Reply
  outcome_reply (Done last left) = values_reply last.values left
  outcome_reply (Fails fault decided stands) = Some (refusal_reply files tokens fault stands)

  -- to a check of tokens
  abbrev pub check_reply : Option Reply
  check_reply = option_and_then outcome_reply (derived_outcome act depth tokens)

-- to a check of a unit
abbrev pub end_reply : (depth : ℕ) → List Class → List Tok → UnitEnd → Option Reply
end_reply depth classes tokens (Ends undefined paths) = check_reply depth classes (files_of paths) tokens undefined
end_reply depth classes tokens (EndsEarly stop) = Some (stop_reply stop)

abbrev pub unit_of : Options → List ℕ → FileMap → PreprocessedUnit
unit_of options path files = preprocessed answer_of options.preprocessing files path

abbrev pub request_reply : (depth : ℕ) → Request → FileMap → Option Reply
request_reply depth (BadWord position word) files = Some (bad_word_reply word)
request_reply depth MissingFile files = Some missing_file_reply
request_reply depth (Check options path) files = let unit = unit_of options path files in end_reply depth options.classes unit.tokens unit.end
request_reply depth (Expand options path) files = let unit = unit_of options path files in Some (expand_reply unit.tokens unit.end)

abbrev pub reply_to : (depth : ℕ) → List (List ℕ) → FileMap → Option Reply
reply_to depth words files = request_reply depth (request_of words) files
