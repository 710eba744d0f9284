-- Each answer has the shape of what was asked and of its ending.
use Rattle.std.proofs.Common.{ℕ, Bool, true, false, cond, List, [], ◌∷◌, ◌++◌, map, slice_get, Option, Some, None, codes, sym, ◌∙◌, ap, subst, refl, inl, inr, append_assoc, append-nil}
use Rattle.vocabulary.specs.declared.class.Class.{Class}
use Rattle.vocabulary.specs.declared.error_kind.ErrorKind.{ErrorKind}
use Rattle.vocabulary.specs.declared.limit.LimitKind.TheVariants.{ObjectSize}
use Rattle.vocabulary.specs.Errors.{error_line}
use Rattle.meaning_outside.specs.Files.{FileMap}
use Rattle.meaning_text.specs.Places.{At}
use Rattle.meaning_text.specs.Tokens.{Tok}
use Rattle.meaning_types.specs.Types.{TypeTree}
use Rattle.meaning_operands.specs.Failures.{Broken, Failure}
use Rattle.meaning_warnings.specs.Errors.{error_front, error_lines, told_word}
use Rattle.meaning_warnings.specs.Listing.{lines_on, listing_lines, undefined_lines, unit_lines}
use Rattle.meaning_warnings.specs.Places.{ShownUnit, begins_at, line_front, path_of, type_spelling}
use Rattle.meaning_warnings.specs.Warnings.{TypeLines, NoTypeLines, ExpectedGot, LeftRight, Warning, line_of_type, lines_below, of_type, told_lines, two_types, warning_line}
use Rattle.meaning_derivation.specs.State.{Fault, IsError, PassesLimit}
use Rattle.meaning_rules.specs.Rules.{Judgement, Holds, BreaksConstraint, PassesObjectSize}
use Rattle.meaning_preprocessing.specs.State.{Stop, Refuses, Passes}
use Rattle.meaning_preprocessing.specs.Unit.{UnitEnd, Ends, EndsEarly}
use Rattle.meaning_unit_nodes.specs.Numbered.{unit_nodes}
use Rattle.meaning_names.specs.Spelled.{spelled_failure}
use Rattle.meaning_answer.specs.Reply.{Reply, IsLine}
use Rattle.meaning_answer.specs.Requests.{Request, BadWord, MissingFile, Check, Expand, request_of}
use Rattle.meaning_answer.specs.Tokens.{token_behind, tokens_behind, tokens_text}
use Rattle.meaning_answer.specs.Lines.{limit_text, named_word, refusal_place, refusal_reply, stop_reply}
use Rattle.meaning_answer.specs.Units.{ParsedUnit, TellsJudged, broken_reply, name_in, shown_unit, spellings_in, warned_reply, warnings_of}
use Rattle.meaning_answer.specs.Shapes.{HasCheckShape, HasExpandShape, IsShapedFor, IsText}
use Rattle.meaning_answer.specs.Answers.{files_of, TellsJudgement, IsCheckReply, IsCheckEnd, IsRequestReply, expand_reply}
use Rattle.meaning_answer.specs.laws.Commands.{AnswersAreShaped, AnswersTellFaults, TellsFault}

-- the shapes of replies
abbrev IsCheckShaped : Reply → Type 0
IsCheckShaped reply = HasCheckShape reply.ending reply.out reply.err

abbrev IsExpandShaped : Reply → Type 0
IsExpandShaped reply = HasExpandShape reply.ending reply.out reply.err

-- a text before a line ends as the line does
IsLine-append : (text line : List ℕ) → IsLine line → IsLine (text ++ line)
IsLine-append text line is = (text ++ is.0, ap (λ (t : List ℕ). text ++ t) is.1 ∙ sym (append_assoc text is.0 (codes "\n")))

IsLine-behind : (line text : List ℕ) → IsLine line → IsText text → IsLine (line ++ text)
IsLine-behind line text is (inl none) = subst (λ (t : List ℕ). IsLine (line ++ t)) (sym none) (subst IsLine (sym (append-nil line)) is)
IsLine-behind line text is (inr also) = IsLine-append line text also

IsText-append : (text other : List ℕ) → IsText text → IsText other → IsText (text ++ other)
IsText-append text other (inl none) is = subst (λ (t : List ℕ). IsText (t ++ other)) (sym none) is
IsText-append text other (inr line) is = inr (IsLine-behind text other line is)

-- Warnings

module _ (shown : ShownUnit) where
  IsLine-type : (path : List ℕ) (at : At) (word : List ℕ) (type_ : TypeTree) → IsLine (line_of_type shown path at word type_)
  IsLine-type path at word type_ = (line_front path at ++ codes "   " ++ word ++ codes " " ++ type_spelling shown type_, refl)

  IsText-type : (path : List ℕ) (at : At) (word : List ℕ) (type_ : Option TypeTree) → IsText (of_type (line_of_type shown path at word) type_)
  IsText-type path at word None = inl refl
  IsText-type path at word (Some type_) = inr (IsLine-type path at word type_)

  IsText-types : (path : List ℕ) (at : At) (word other : List ℕ) (failure : Failure) → IsText (two_types shown path at word other failure)
  IsText-types path at word other failure =
      IsText-append _ _ (IsText-type path at word failure.first) (IsText-type path at other failure.second)

  IsText-below : (path : List ℕ) (at : At) (failure : Failure) (below : TypeLines) → IsText (lines_below shown path at failure below)
  IsText-below path at failure NoTypeLines = inl refl
  IsText-below path at failure ExpectedGot = IsText-types path at (codes "expected") (codes "got") failure
  IsText-below path at failure LeftRight = IsText-types path at (codes "left") (codes "right") failure

  IsLine-warning : (path : List ℕ) (at : At) (text : List ℕ) → IsLine (warning_line path at text)
  IsLine-warning path at text = (line_front path at ++ codes "warning: " ++ text, refl)

  pub IsLine-told : (at : At) (failure : Failure) (warning : Warning) → IsLine (told_lines shown at failure warning)
  IsLine-told at failure warning =
      let path = path_of shown.files at.file in
      IsLine-behind _ _ (IsLine-warning path at warning.text) (IsText-below path at failure warning.below)

  IsText-if : (on : Bool) (text : List ℕ) → IsLine text → IsText (cond on text [])
  IsText-if true text is = inr is
  IsText-if false text is = inl refl

  module _ (classes : List Class) where
    IsText-on : (token : Option Tok) (failure : Failure) → IsText (lines_on shown classes token failure)
    IsText-on token failure = IsText-if _ _ (IsLine-told (begins_at token) failure _)

    IsText-undefined : (failures : List Failure) (tokens : List Tok) → IsText (undefined_lines shown classes failures tokens)
    IsText-undefined [] tokens = inl refl
    IsText-undefined (failure ∷ failures) [] = IsText-append _ _ (IsText-on None failure) (IsText-undefined failures [])
    IsText-undefined (failure ∷ failures) (token ∷ tokens) =
        IsText-append _ _ (IsText-on (Some token) failure) (IsText-undefined failures tokens)

    IsText-listing : (failures : List Failure) → IsText (listing_lines shown classes failures)
    IsText-listing [] = inl refl
    IsText-listing (failure ∷ failures) =
        IsText-append _ _ (IsText-on (slice_get shown.tokens failure.token) failure) (IsText-listing failures)

    IsText-unit : (failures : List Failure) → IsText (unit_lines shown classes failures)
    IsText-unit failures = IsText-append _ _ (IsText-undefined shown.undefined shown.undefined_tokens) (IsText-listing failures)

shaped_warned : (warnings : List ℕ) → IsText warnings → IsCheckShaped (warned_reply warnings)
shaped_warned [] is = (refl, refl)
shaped_warned (byte ∷ bytes) (inl none) = absurd (cc none)
shaped_warned (byte ∷ bytes) (inr line) = (refl, line)

-- tokens end with a new-line
IsLine-tokens_behind : (at : At) (tokens : List Tok) → IsLine (tokens_behind at tokens)
IsLine-tokens_behind at [] = ([], refl)
IsLine-tokens_behind at (t ∷ ts) = IsLine-append (token_behind at t) _ (IsLine-tokens_behind t.at ts)

IsText-tokens : (tokens : List Tok) → IsText (tokens_text tokens)
IsText-tokens [] = inl refl
IsText-tokens (t ∷ ts) = inr (IsLine-append t.text _ (IsLine-tokens_behind t.at ts))

-- an error is told in a line
IsLine-error : (kind : ErrorKind) (path : List ℕ) (at : At) (word : List ℕ) → IsLine (error_lines kind path at word)
IsLine-error kind path at word = (error_front kind path at ++ error_line kind (told_word kind word), refl)

-- a unit that ends early is told in a line, whatever was asked
check_stopped : (stop : Stop) → IsCheckShaped (stop_reply stop)
check_stopped (Refuses refusal) = (refl, IsLine-error refusal.kind refusal.path refusal.place refusal.word)
check_stopped (Passes kind) = (refl, (limit_text kind, refl))

expand_stopped : (stop : Stop) → IsExpandShaped (stop_reply stop)
expand_stopped (Refuses refusal) = (refl, IsLine-error refusal.kind refusal.path refusal.place refusal.word)
expand_stopped (Passes kind) = (refl, (limit_text kind, refl))

-- so is a unit that is refused, and the warnings of another one

warnings_shaped : (classes : List Class) (unit : ParsedUnit) (listing : List Failure) → IsCheckShaped (warned_reply (warnings_of classes unit listing))
warnings_shaped classes unit listing =
    shaped_warned (warnings_of classes unit listing) (IsText-unit (shown_unit unit) classes (map (spelled_failure (spellings_in unit)) listing))

broken_shaped : (unit : ParsedUnit) (broken : Broken) → IsCheckShaped (broken_reply unit broken)
broken_shaped unit broken =
    let at = begins_at (slice_get unit.tokens broken.token) in
    (refl, IsLine-error broken.constraint (path_of unit.files at.file) at (name_in unit broken.name))

judged_shaped : (classes : List Class) (unit : ParsedUnit) (judgement : Judgement) (reply : Reply) → TellsJudged classes unit judgement reply
    → IsCheckShaped reply
judged_shaped classes unit (BreaksConstraint broken) reply told = subst IsCheckShaped (sym told) (broken_shaped unit broken)
judged_shaped classes unit PassesObjectSize reply told = subst IsCheckShaped (sym told) (refl, (limit_text ObjectSize, refl))
judged_shaped classes unit (Holds listing) reply (whole, lists, told) = subst IsCheckShaped (sym told) (warnings_shaped classes unit whole)

refusal_shaped : (files : List (List ℕ)) (tokens : List Tok) (fault : Fault) (stands : ℕ) → IsCheckShaped (refusal_reply files tokens fault stands)
refusal_shaped files tokens (IsError kind) stands =
    let at = refusal_place tokens stands in
    (refl, IsLine-error kind (path_of files at.file) at (named_word kind tokens stands))
refusal_shaped files tokens (PassesLimit limit) stands = (refl, (limit_text limit, refl))

told_shaped : (classes : List Class) (unit : ParsedUnit) (reply : Reply) → TellsJudgement classes unit reply → IsCheckShaped reply
told_shaped classes unit reply (judgement, judges, told) = judged_shaped classes unit judgement reply told

check_shaped : (classes : List Class) (files : List (List ℕ)) (tokens undefined : List Tok) (reply : Reply) → IsCheckReply classes files tokens undefined reply → IsCheckShaped reply
check_shaped classes files tokens undefined reply (inl (fault, stands, refused, is)) = subst IsCheckShaped (sym is) (refusal_shaped files tokens fault stands)
check_shaped classes files tokens undefined reply (inr (tree, surroundings, derives, (are, judged))) =
    let unit : ParsedUnit =
    record { files = files; tokens = tokens; undefined = undefined; nodes = unit_nodes tokens tree; surroundings = surroundings } in
    told_shaped classes unit reply judged

end_shaped : (classes : List Class) (tokens : List Tok) (end : UnitEnd) (reply : Reply) → IsCheckEnd classes tokens end reply → IsCheckShaped reply
end_shaped classes tokens (Ends undefined paths) reply is = check_shaped classes (files_of paths) tokens undefined reply is
end_shaped classes tokens (EndsEarly stop) reply is = subst IsCheckShaped (sym is) (check_stopped stop)

expand_shaped : (tokens : List Tok) (end : UnitEnd) → IsExpandShaped (expand_reply tokens end)
expand_shaped tokens (Ends undefined paths) = (IsText-tokens tokens, refl)
expand_shaped tokens (EndsEarly stop) = expand_stopped stop

request_shaped : (request : Request) (files : FileMap) (reply : Reply) → IsRequestReply request files reply → IsShapedFor request reply
request_shaped (BadWord position word) files reply is = subst (IsShapedFor (BadWord position word)) (sym is) (refl, (codes "ksparse: bad word: " ++ word, refl))
request_shaped MissingFile files reply is = subst (IsShapedFor MissingFile) (sym is) (refl, (codes "ksparse: missing file", refl))
request_shaped (Check options path) files reply is = end_shaped options.classes is.0.tokens is.0.end reply is.2
request_shaped (Expand options path) files reply is = subst IsExpandShaped (sym is.2) (expand_shaped is.0.tokens is.0.end)

pub answers_are_shaped : AnswersAreShaped
answers_are_shaped words files reply is = request_shaped (request_of words) files reply is

faults_told : (request : Request) (files : FileMap) (reply : Reply) → IsRequestReply request files reply → TellsFault request reply
faults_told (BadWord position word) files reply is = is
faults_told MissingFile files reply is = is
faults_told (Check options path) files reply is = tt
faults_told (Expand options path) files reply is = tt

pub answers_tell_faults : AnswersTellFaults
answers_tell_faults words files reply is = faults_told (request_of words) files reply is
