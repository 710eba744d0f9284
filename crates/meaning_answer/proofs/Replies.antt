-- There is at most one reply to a command, and what the plain program answers is it.
use Rattle.std.proofs.Common.{◌≡◌, ℕ, Bool, true, false, List, [], ◌∷◌, Option, Some, None, if◌then◌else◌, ◌∙◌, ap, sym, subst, refl, inl, inr}
use Rattle.std.specs.Option.{option_and_then}
use Rattle.std.proofs.lemmas.Option.{none-some, same_Some}
use Rattle.vocabulary.specs.declared.class.Class.{Class}
use Rattle.meaning_outside.specs.Files.{FileMap}
use Rattle.meaning_text.specs.Tokens.{Tok}
use Rattle.meaning_tree.specs.Trees.{SyntaxTree}
use Rattle.meaning_grammar.specs.Terminals.{Terminal}
use Rattle.meaning_derivation.specs.Values.{Value, WordValue, TreeValue, ListValue}
use Rattle.meaning_derivation.specs.State.{State, Fault, Outcome, Done, Fails}
use Rattle.meaning_derivation.specs.Actions.{act}
use Rattle.meaning_derivation.specs.Units.{HasOutcome, DerivesTree, IsRefused}
use Rattle.meaning_derivation.specs.plain.Deriving.{derived_outcome}
use Rattle.meaning_derivation.proofs.Deriving.{answers_are_outcomes}
use Rattle.meaning_derivation.proofs.Uniqueness.{units_have_one_outcome}
use Rattle.meaning_typing.specs.Building.{surroundings_of}
use Rattle.meaning_typing.specs.Surroundings.{Surrounding, AreSurroundings}
use Rattle.meaning_typing.specs.laws.Surroundings.{IsLaidUnit}
use Rattle.meaning_typing.proofs.Surroundings.{surroundings_are_found, surroundings_are_unique}
use Rattle.meaning_operands.specs.Failures.{Failure}
use Rattle.meaning_rules.specs.Rules.{Judgement, Holds, BreaksConstraint, PassesObjectSize}
use Rattle.meaning_units.specs.WholeRows.{AreRows}
use Rattle.meaning_units.specs.WholeRules.{IsJudgement}
use Rattle.meaning_units.proofs.JudgementLemmas.{judgements_are_unique}
use Rattle.meaning_unit_nodes.specs.Numbered.{unit_nodes}
use Rattle.meaning_preprocessing.specs.Unit.{UnitEnd, Ends, EndsEarly, PreprocessedUnit}
use Rattle.meaning_preprocessing.proofs.Uniqueness.{units_exist, units_are_unique}
use Rattle.meaning_answer.specs.Reply.{Reply}
use Rattle.meaning_answer.specs.Requests.{Request, BadWord, MissingFile, Check, Expand, request_of}
use Rattle.meaning_answer.specs.Units.{ParsedUnit, TellsJudged, TellsWarnings, warned_reply, warnings_of}
use Rattle.meaning_answer.specs.Answers.{files_of, TellsRefusal, TellsJudgedTree, TellsUnit, IsCheckReply, IsCheckEnd, IsRequestReply, expand_reply}
use Rattle.meaning_answer.specs.plain.Judging.{judgement_found}
use Rattle.meaning_answer.specs.plain.Replying.{has_context, judged_reply, tree_reply, values_reply, outcome_reply, check_reply, end_reply, unit_of, request_reply}
use Rattle.meaning_answer.specs.laws.Commands.{AnswersAreUnique, PlainAnswersAreRight}
use Rattle.meaning_answer.proofs.JudgedListings.{judged-lists}
use Rattle.meaning_answer.proofs.Judgements.{found_is_judgement}
use Rattle.meaning_answer.proofs.LaidLemmas.{nodes_are_laid}
use Rattle.meaning_answer.proofs.WholeListings.{whole_is_unique, whole_without}

-- Trees

values_in : Outcome → List Value
values_in (Done last left) = last.values
values_in (Fails fault decided stands) = []

-- tokens derive one tree at most
pub only_tree : (tokens : List Tok) (tree other : SyntaxTree) → DerivesTree act tokens tree → DerivesTree act tokens other → tree ≡ other
unfolding values_in
only_tree tokens tree other one another =
    let same : one.0.values ≡ another.0.values =
    ap values_in (units_have_one_outcome act tokens (Done one.0 []) (Done another.0 []) one.1 another.1) in
    cc (one.2, another.2, same)

-- and none where they are refused
refused_or_parsed : (tokens : List Tok) (tree : SyntaxTree) (fault : Fault) (stands : ℕ) → DerivesTree act tokens tree → IsRefused act tokens fault stands → ⊥
refused_or_parsed tokens tree fault stands parsed refused =
    let clash = units_have_one_outcome act tokens (Done parsed.0 []) (Fails fault refused.0 stands) parsed.1 refused.1 in absurd (cc clash)

-- By a judgement

module _ (classes : List Class) (unit : ParsedUnit) where
  only_judged : (judgement : Judgement) (first second : Reply) → TellsJudged classes unit judgement first → TellsJudged classes unit judgement second
      → first ≡ second
  only_judged (BreaksConstraint broken) first second told said = told ∙ sym said
  only_judged PassesObjectSize first second told said = told ∙ sym said
  only_judged (Holds listing) first second (whole, lists, told) (other, also, said) =
      told
      ∙ ap (λ (these : List Failure). warned_reply (warnings_of classes unit these)) (whole_is_unique unit.nodes unit.surroundings listing whole other lists also)
      ∙ sym said

  module _ (laid : IsLaidUnit unit.nodes) (are : AreSurroundings unit.nodes unit.surroundings) (reply : Reply) where
    -- without contexts the listing of the judgement is the whole one
    warned_right : (listing : List Failure) (contexts : Bool) → has_context unit.nodes ≡ contexts → IsJudgement unit.nodes (Holds listing)
        → (if contexts then None else Some (warned_reply (warnings_of classes unit listing))) ≡ Some reply → TellsWarnings classes unit listing reply
    warned_right listing true some judges is = absurd (none-some reply is)
    warned_right listing false none (surroundings, rows, also, are_rows, judged) is =
        let lists = judged-lists unit.nodes surroundings rows (Holds listing) judged in
        let same = surroundings_are_unique unit.nodes surroundings unit.surroundings laid also are in
        let rows_here = subst (λ (these : List Surrounding). AreRows unit.nodes these rows) same are_rows in
        (listing, whole_without unit.nodes unit.surroundings listing none lists.ordered rows rows_here, sym (same_Some _ _ is))

    judged_right : (judgement : Judgement) → IsJudgement unit.nodes judgement → judged_reply classes unit judgement ≡ Some reply
        → TellsJudged classes unit judgement reply
    judged_right (BreaksConstraint broken) judges is = sym (same_Some _ _ is)
    judged_right PassesObjectSize judges is = sym (same_Some _ _ is)
    judged_right (Holds listing) judges is = warned_right listing (has_context unit.nodes) refl judges is

-- Of tokens

module _ (classes : List Class) (files : List (List ℕ)) (tokens undefined : List Tok) where
  -- a tree has one reply, whatever tells its surroundings
  abbrev TellsTree : SyntaxTree → List Surrounding → Reply → Type 0
  TellsTree = TellsJudgedTree classes files tokens undefined

  abbrev unit_over : SyntaxTree → List Surrounding → ParsedUnit
  unit_over tree surroundings =
      record { files = files; tokens = tokens; undefined = undefined; nodes = unit_nodes tokens tree; surroundings = surroundings }

  in_same : (tree : SyntaxTree) (surroundings : List Surrounding) (first second : Reply) → TellsTree tree surroundings first
      → TellsTree tree surroundings second → first ≡ second
  in_same tree surroundings first second (are, (judgement, is, told)) (also, (other, so, said)) =
      let unit = unit_over tree surroundings in
      let same = judgements_are_unique unit.nodes judgement other (nodes_are_laid tokens tree) is so in
      only_judged classes unit judgement first second told (subst (λ (this : Judgement). TellsJudged classes unit this second) (sym same) said)

  only_surroundings : (tree : SyntaxTree) (surroundings others : List Surrounding) (first second : Reply) → TellsTree tree surroundings first
      → TellsTree tree others second → first ≡ second
  only_surroundings tree surroundings others first second one other =
      let same = surroundings_are_unique (unit_nodes tokens tree) surroundings others (nodes_are_laid tokens tree) one.0 other.0 in
      in_same tree surroundings first second one (subst (λ (these : List Surrounding). TellsTree tree these second) (sym same) other)

  only_unit : (first second : Reply) → TellsUnit classes files tokens undefined first → TellsUnit classes files tokens undefined second → first ≡ second
  only_unit first second (tree, surroundings, derives, told) (another, others, also, said) =
      let same = only_tree tokens tree another derives also in
      only_surroundings tree surroundings others first second told (subst (λ (t : SyntaxTree). TellsTree t others second) (sym same) said)

  only_refusal : (first second : Reply) → TellsRefusal files tokens first → TellsRefusal files tokens second → first ≡ second
  only_refusal first second (fault, stands, refused, told) (other, elsewhere, also, said) =
      let same = units_have_one_outcome act tokens (Fails fault refused.0 stands) (Fails other also.0 elsewhere) refused.1 also.1 in
      told ∙ cc same ∙ sym said

  only_check : (first second : Reply) → IsCheckReply classes files tokens undefined first → IsCheckReply classes files tokens undefined second → first ≡ second
  only_check first second (inl one) (inl other) = only_refusal first second one other
  only_check first second (inr one) (inr other) = only_unit first second one other
  only_check first second (inl (fault, stands, refused, told)) (inr (tree, surroundings, derives, said)) =
      absurd (refused_or_parsed tokens tree fault stands derives refused)
  only_check first second (inr (tree, surroundings, derives, said)) (inl (fault, stands, refused, told)) =
      absurd (refused_or_parsed tokens tree fault stands derives refused)

  -- What the plain program answers

  module _ (depth : ℕ) (reply : Reply) where
    judged_by : (tree : SyntaxTree) (found : Option Judgement) → DerivesTree act tokens tree
        → judgement_found depth (unit_nodes tokens tree) (surroundings_of (unit_nodes tokens tree)) ≡ found
        → option_and_then (judged_reply classes (unit_over tree (surroundings_of (unit_nodes tokens tree)))) found ≡ Some reply
        → TellsUnit classes files tokens undefined reply
    judged_by tree None derives none is = absurd (none-some reply is)
    judged_by tree (Some judgement) derives some is =
        let nodes = unit_nodes tokens tree in
        let laid = nodes_are_laid tokens tree in
        let are = surroundings_are_found nodes laid in
        let judges = found_is_judgement depth nodes (surroundings_of nodes) judgement are some in
        let told = judged_right classes (unit_over tree (surroundings_of nodes)) laid are reply judgement judges is in
        (tree, surroundings_of nodes, derives, (are, (judgement, judges, told)))

    tree_right : (tree : SyntaxTree) → DerivesTree act tokens tree → tree_reply depth classes files tokens undefined tree ≡ Some reply
        → TellsUnit classes files tokens undefined reply
    tree_right tree derives is = judged_by tree _ derives refl is

    values_right : (last : State) (values : List Value) (left : List Terminal) → last.values ≡ values → HasOutcome act tokens (Done last left)
        → values_reply depth classes files tokens undefined values left ≡ Some reply → TellsUnit classes files tokens undefined reply
    values_right last (TreeValue tree ∷ []) [] are has is = tree_right tree (last, has, are) is
    values_right last (TreeValue tree ∷ []) (terminal ∷ left) are has is = absurd (none-some reply is)
    values_right last (TreeValue tree ∷ value ∷ values) left are has is = absurd (none-some reply is)
    values_right last (WordValue token text ∷ values) left are has is = absurd (none-some reply is)
    values_right last (ListValue parts ∷ values) left are has is = absurd (none-some reply is)
    values_right last [] left are has is = absurd (none-some reply is)

    outcome_right : (outcome : Outcome) → HasOutcome act tokens outcome → outcome_reply depth classes files tokens undefined outcome ≡ Some reply
        → IsCheckReply classes files tokens undefined reply
    outcome_right (Done last left) has is = inr (values_right last last.values left refl has is)
    outcome_right (Fails fault decided stands) has is = inl (fault, stands, (decided, has), sym (same_Some _ _ is))

    found_right : (found : Option Outcome) → derived_outcome act depth tokens ≡ found
        → option_and_then (outcome_reply depth classes files tokens undefined) found ≡ Some reply → IsCheckReply classes files tokens undefined reply
    found_right None derived is = absurd (none-some reply is)
    found_right (Some outcome) derived is = outcome_right outcome (answers_are_outcomes act depth tokens outcome derived) is

    check_right : check_reply depth classes files tokens undefined ≡ Some reply → IsCheckReply classes files tokens undefined reply
    check_right is = found_right (derived_outcome act depth tokens) refl is

-- Of a unit, however it ends

only_end : (classes : List Class) (tokens : List Tok) (end : UnitEnd) (first second : Reply) → IsCheckEnd classes tokens end first
    → IsCheckEnd classes tokens end second → first ≡ second
only_end classes tokens (Ends undefined paths) first second one other = only_check classes (files_of paths) tokens undefined first second one other
only_end classes tokens (EndsEarly stop) first second one other = one ∙ sym other

pub end_right : (depth : ℕ) (classes : List Class) (tokens : List Tok) (end : UnitEnd) (reply : Reply) → end_reply depth classes tokens end ≡ Some reply
    → IsCheckEnd classes tokens end reply
end_right depth classes tokens (Ends undefined paths) reply is = check_right classes (files_of paths) tokens undefined depth reply is
end_right depth classes tokens (EndsEarly stop) reply is = sym (same_Some _ _ is)

-- Of a command

only_request : (request : Request) (files : FileMap) (first second : Reply) → IsRequestReply request files first → IsRequestReply request files second
    → first ≡ second
only_request (BadWord position word) files first second one other = one ∙ sym other
only_request MissingFile files first second one other = one ∙ sym other
only_request (Check options path) files first second one other =
    let same = units_are_unique options.preprocessing files path one.0 other.0 one.1 other.1 in
    only_end options.classes one.0.tokens one.0.end first second one.2
    (subst (λ (unit : PreprocessedUnit). IsCheckEnd options.classes unit.tokens unit.end second) (sym same) other.2)
only_request (Expand options path) files first second one other =
    let same = units_are_unique options.preprocessing files path one.0 other.0 one.1 other.1 in
    one.2 ∙ ap (λ (unit : PreprocessedUnit). expand_reply unit.tokens unit.end) same ∙ sym other.2

request_right : (depth : ℕ) (request : Request) (files : FileMap) (reply : Reply) → request_reply depth request files ≡ Some reply → IsRequestReply request files reply
request_right depth (BadWord position word) files reply is = sym (same_Some _ _ is)
request_right depth MissingFile files reply is = sym (same_Some _ _ is)
request_right depth (Check options path) files reply is =
    let unit = unit_of options path files in
    (unit, units_exist options.preprocessing files path, end_right depth options.classes unit.tokens unit.end reply is)
request_right depth (Expand options path) files reply is =
    (unit_of options path files, units_exist options.preprocessing files path, sym (same_Some _ _ is))

pub answers_are_unique : AnswersAreUnique
answers_are_unique words files first second one other = only_request (request_of words) files first second one other

pub plain_answers_are_right : PlainAnswersAreRight
plain_answers_are_right depth words files reply is = request_right depth (request_of words) files reply is
