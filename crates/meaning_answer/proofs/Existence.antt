-- Each command has a reply, by the laws of preprocessed units, derivations and judgements.
use Rattle.std.proofs.Common.{◌⊎◌, ℕ, List, refl, inl, inr}
use Rattle.vocabulary.specs.declared.class.Class.{Class}
use Rattle.vocabulary.specs.declared.limit.LimitKind.TheVariants.{ObjectSize}
use Rattle.meaning_outside.specs.Files.{FileMap}
use Rattle.meaning_text.specs.Tokens.{Tok}
use Rattle.meaning_tree.specs.Trees.{SyntaxTree}
use Rattle.meaning_derivation.specs.State.{Fault}
use Rattle.meaning_derivation.specs.Actions.{act}
use Rattle.meaning_derivation.specs.Units.{DerivesTree, IsRefused}
use Rattle.meaning_derivation.proofs.Existence.{units_have_an_outcome}
use Rattle.meaning_typing.specs.Rows.{Row}
use Rattle.meaning_rules.specs.Rules.{Judgement, Holds, BreaksConstraint, PassesObjectSize}
use Rattle.meaning_units.specs.WholeRows.{AreRows}
use Rattle.meaning_units.proofs.JudgementLemmas.{judgements_exist}
use Rattle.meaning_nested.proofs.Units.{each_unit_is_nested}
use Rattle.meaning_unit_nodes.specs.Numbered.{unit_nodes}
use Rattle.meaning_preprocessing.specs.Unit.{UnitEnd, Ends, EndsEarly}
use Rattle.meaning_preprocessing.proofs.Uniqueness.{units_exist}
use Rattle.meaning_answer.specs.Reply.{Reply}
use Rattle.meaning_answer.specs.Requests.{Request, BadWord, MissingFile, Check, Expand, request_of}
use Rattle.meaning_answer.specs.Lines.{stop_reply, refusal_reply, bad_word_reply, limit_reply, missing_file_reply}
use Rattle.meaning_answer.specs.Units.{ParsedUnit, TellsJudged, broken_reply, warned_reply, warnings_of}
use Rattle.meaning_answer.specs.Answers.{files_of, TellsUnit, IsCheckReply, IsCheckEnd, IsRequestReply, expand_reply}
use Rattle.meaning_answer.specs.plain.Replying.{unit_of}
use Rattle.meaning_answer.specs.laws.Commands.{AnswersExist}
use Rattle.meaning_answer.proofs.LaidLemmas.{nodes_are_laid}
use Rattle.meaning_answer.proofs.WholeListings.{whole_exists}

-- By a judgement

judged_exists : (classes : List Class) (unit : ParsedUnit) (rows : List Row) → AreRows unit.nodes unit.surroundings rows → (judgement : Judgement)
    → (reply : Reply) × TellsJudged classes unit judgement reply
judged_exists classes unit rows are (BreaksConstraint broken) = (broken_reply unit broken, refl)
judged_exists classes unit rows are PassesObjectSize = (limit_reply ObjectSize, refl)
judged_exists classes unit rows are (Holds listing) =
    let found = whole_exists unit.nodes unit.surroundings listing rows are in
    (warned_reply (warnings_of classes unit found.0), (found.0, found.1, refl))

-- Of tokens

module _ (classes : List Class) (files : List (List ℕ)) (tokens undefined : List Tok) where
  -- a unit that is parsed has a judgement, and its reply
  unit_exists : (tree : SyntaxTree) → DerivesTree act tokens tree → (reply : Reply) × TellsUnit classes files tokens undefined reply
  unit_exists tree derives =
      let nodes = unit_nodes tokens tree in
      let laid = nodes_are_laid tokens tree in
      let (judgement, is) = judgements_exist nodes laid (λ surroundings are. each_unit_is_nested nodes surroundings laid are) in
      let told = judged_exists classes (record { files = files; tokens = tokens; undefined = undefined; nodes = nodes; surroundings = is.0 }) is.1 is.3 judgement in
      (told.0, (tree, is.0, derives, (is.2, (judgement, is, told.1))))

  check_exists : (reply : Reply) × IsCheckReply classes files tokens undefined reply
  check_exists = exists_by (units_have_an_outcome tokens)
    where
      exists_by : ((tree : SyntaxTree) × DerivesTree act tokens tree) ⊎ ((fault : Fault) × (stands : ℕ) × IsRefused act tokens fault stands)
          → (reply : Reply) × IsCheckReply classes files tokens undefined reply
      exists_by (inl (tree, derives)) =
          let found = unit_exists tree derives in
          (found.0, inr found.1)
      exists_by (inr (fault, stands, refused)) = (refusal_reply files tokens fault stands, inl (fault, stands, refused, refl))

-- Of a unit, however it ends

end_exists : (classes : List Class) (tokens : List Tok) (end : UnitEnd) → (reply : Reply) × IsCheckEnd classes tokens end reply
end_exists classes tokens (Ends undefined paths) = check_exists classes (files_of paths) tokens undefined
end_exists classes tokens (EndsEarly stop) = (stop_reply stop, refl)

-- Of a command

request_exists : (request : Request) (files : FileMap) → (reply : Reply) × IsRequestReply request files reply
request_exists (BadWord position word) files = (bad_word_reply word, refl)
request_exists MissingFile files = (missing_file_reply, refl)
request_exists (Check options path) files =
    let unit = unit_of options path files in
    let found = end_exists options.classes unit.tokens unit.end in
    (found.0, (unit, units_exist options.preprocessing files path, found.1))
request_exists (Expand options path) files =
    let unit = unit_of options path files in
    (expand_reply unit.tokens unit.end, (unit, units_exist options.preprocessing files path, refl))

pub answers_exist : AnswersExist
answers_exist words files = request_exists (request_of words) files
