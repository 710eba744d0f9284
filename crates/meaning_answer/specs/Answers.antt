-- The answer of a command, as a relation of its words, the files and the reply, in the order in which a
-- refusal goes before another: usage, preprocessing with all that it reads, and for a check parsing and the judgement of what is
-- parsed; and behind them the rules.
use Rattle.std.specs.Prelude.{◌≡◌, ℕ, List, [], ◌∷◌, ◌⊎◌, codes}
use Rattle.vocabulary.specs.declared.class.Class.{Class}
use Rattle.meaning_outside.specs.Files.{FileMap}
use Rattle.meaning_text.specs.Tokens.{Tok}
use Rattle.meaning_tree.specs.Trees.{SyntaxTree}
use Rattle.meaning_derivation.specs.State.{Fault}
use Rattle.meaning_derivation.specs.Actions.{act}
use Rattle.meaning_derivation.specs.Units.{DerivesTree, IsRefused}
use Rattle.meaning_typing.specs.Surroundings.{Surrounding, AreSurroundings}
use Rattle.meaning_rules.specs.Rules.{Judgement}
use Rattle.meaning_units.specs.WholeRules.{IsJudgement}
use Rattle.meaning_unit_nodes.specs.Numbered.{unit_nodes}
use Rattle.meaning_preprocessing.specs.Unit.{UnitEnd, Ends, EndsEarly, PreprocessedUnit, IsPreprocessedUnit}
use Rattle.meaning_answer.specs.Reply.{Reply, Clean}
use Rattle.meaning_answer.specs.Requests.{Request, BadWord, MissingFile, Check, Expand, request_of}
use Rattle.meaning_answer.specs.Tokens.{tokens_text}
use Rattle.meaning_answer.specs.Lines.{bad_word_reply, missing_file_reply, stop_reply, refusal_reply}
use Rattle.meaning_answer.specs.Units.{ParsedUnit, TellsJudged}

-- the paths of a unit's files by their numbers
abbrev pub files_of : List (List ℕ) → List (List ℕ)
files_of paths = codes "<command>" ∷ paths

-- Parsing by the whole grammar of C (C11 6.5 to 6.9)

-- the reply tells for what the tokens are refused
abbrev pub TellsRefusal : List (List ℕ) → List Tok → Reply → Type 0
TellsRefusal files tokens reply =
    (fault : Fault) × (stands : ℕ) × IsRefused act tokens fault stands × (reply ≡ refusal_reply files tokens fault stands)

-- Judging the tree that they derive

-- the reply tells the judgement of a unit that is parsed
abbrev pub TellsJudgement : List Class → ParsedUnit → Reply → Type 0
TellsJudgement classes unit reply = (judgement : Judgement) × IsJudgement unit.nodes judgement × TellsJudged classes unit judgement reply

-- the nodes of this tree stand in these surroundings, and the reply tells their judgement
abbrev pub TellsJudgedTree : List Class → List (List ℕ) → List Tok → List Tok → SyntaxTree → List Surrounding → Reply → Type 0
TellsJudgedTree classes files tokens undefined tree surroundings reply =
    let nodes = unit_nodes tokens tree in
    AreSurroundings nodes surroundings
    × TellsJudgement classes
    (record { files = files; tokens = tokens; undefined = undefined; nodes = nodes; surroundings = surroundings }) reply

-- of the tree that the tokens derive
abbrev pub TellsUnit : List Class → List (List ℕ) → List Tok → List Tok → Reply → Type 0
TellsUnit classes files tokens undefined reply =
    (tree : SyntaxTree) × (surroundings : List Surrounding)
    × DerivesTree act tokens tree × TellsJudgedTree classes files tokens undefined tree surroundings reply

-- the reply to a check of these tokens: they are refused, or they are parsed and then judged
abbrev pub IsCheckReply : List Class → List (List ℕ) → List Tok → List Tok → Reply → Type 0
IsCheckReply classes files tokens undefined reply = TellsRefusal files tokens reply ⊎ TellsUnit classes files tokens undefined reply

-- to a check of a unit, however that ends
abbrev pub IsCheckEnd : List Class → List Tok → UnitEnd → Reply → Type 0
IsCheckEnd classes tokens (Ends undefined paths) reply = IsCheckReply classes (files_of paths) tokens undefined reply
IsCheckEnd classes tokens (EndsEarly stop) reply = reply ≡ stop_reply stop

-- the tokens, and nothing else
abbrev pub expanded_reply : List Tok → Reply
expanded_reply tokens = record { out = tokens_text tokens; err = []; ending = Clean }

-- to the question for a unit's tokens
abbrev pub expand_reply : List Tok → UnitEnd → Reply
expand_reply tokens (Ends undefined paths) = expanded_reply tokens
expand_reply tokens (EndsEarly stop) = stop_reply stop

-- the reply to a request over these files: what is wrong with the words, or the reply to the preprocessed unit
abbrev pub IsRequestReply : Request → FileMap → Reply → Type 0
IsRequestReply (BadWord position word) files reply = reply ≡ bad_word_reply word
IsRequestReply MissingFile files reply = reply ≡ missing_file_reply
IsRequestReply (Check options path) files reply =
    (unit : PreprocessedUnit) × IsPreprocessedUnit options.preprocessing files path unit × IsCheckEnd options.classes unit.tokens unit.end reply
IsRequestReply (Expand options path) files reply =
    (unit : PreprocessedUnit) × IsPreprocessedUnit options.preprocessing files path unit × (reply ≡ expand_reply unit.tokens unit.end)

-- the reply is the answer to the words over these files
abbrev pub IsAnswer : List (List ℕ) → FileMap → Reply → Type 0
IsAnswer words files reply = IsRequestReply (request_of words) files reply
