-- What is written of the expressions of a unit: of each the type, or the constraint that it breaks.
use Rattle.std.specs.Prelude.{◌≡◌, ◌⊎◌, ℕ, ℤ, zero, suc, Bool, true, false, List, [], ◌++◌, codes, length, Option, Some, None, option_map, slice_get}
use Rattle.std.specs.Map.{lookup}
use Rattle.std.specs.Fmt.{decimal, signed_decimal}
use Rattle.meaning_text.specs.Places.{At}
use Rattle.meaning_types.specs.Types.{TypeTree}
use Rattle.meaning_types.specs.Spelling.{spelling_with}
use Rattle.meaning_tree.specs.Nodes.{NodeList}
use Rattle.meaning_typing.specs.Facts.{Fact, Expression, ExpressionFact}
use Rattle.meaning_typing.specs.Rows.{Row}
use Rattle.meaning_typing.specs.Surroundings.{Surrounding, AreSurroundings}
use Rattle.meaning_typing.specs.Typing.{token_at}
use Rattle.meaning_typing.specs.Units.{UnitNodes, kind_at}
use Rattle.meaning_warnings.specs.Places.{begins_at}
use Rattle.meaning_rules.specs.Rules.{least_broken}
use Rattle.meaning_answer.specs.Answers.{TellsRefusal}
use Rattle.meaning_answer.specs.Reply.{Reply}
use Rattle.sparse_model.specs.declared.ids.NameId.{NameId}
use Rattle.c_tokens.specs.Seen.{text_of, toks_of}
use Rattle.c_types.specs.declared.bodies.Named.{Named}
use Rattle.c_types.specs.declared.bodies.Named.TheVariants as named
use Rattle.c_types.specs.Table.{is_named}
use Rattle.c_preproc.specs.declared.unit.UnitTokens.{UnitTokens}
use Rattle.parse_state.specs.Finished.{spelled}
use Rattle.c_parse.specs.Answers.{DerivesUnit}
use Rattle.decl_judge.specs.Units.{nodes_of}
use Rattle.node_facts.specs.Facts.{node_seen}
use Rattle.expression_rows.specs.declared.row.Broken.{Broken}
use Rattle.expression_rows.specs.Rows.{broken_seen}
use Rattle.node_judge.specs.NamedTypes.{names_told}
use Rattle.unit_commands.specs.Known.{next_row}
use Rattle.warn_print.specs.declared.show.Show.{Show}
use Rattle.warn_print.specs.Seen.{named_type}
use Rattle.ksparse.specs.Written.{paths_of}
use Rattle.unit_commands.specs.declared.answers.Answer.{Answer}
use Rattle.unit_commands.specs.declared.answers.Answer.TheVariants as answers
use Rattle.unit_commands.specs.Appending.{AppendsOne}
use Rattle.unit_commands.specs.Asked.{is_asked}
use Rattle.unit_commands.specs.Constraints.{constraint_line}
use Rattle.unit_commands.specs.Replies.{shown_reply}

-- What a line stands on: the spellings, the tokens, and what types are named

pub record Shown : Type 0 where
  pub names : List (List ℕ)
  pub toks : UnitTokens
  pub told : List (Named × NameId)

abbrev pub shown_of : Show → Shown
shown_of show = record { names = show.names.now; toks = show.toks.now; told = show.types.now.names }

-- the name of an aggregate or of an identity
abbrev pub name_told : Shown → Named → Option (List ℕ)
name_told shown what = option_map (text_of shown.names) (lookup (is_named what) shown.told)

-- Of what is known

-- a type as warnings write it
abbrev pub type_text : Shown → TypeTree → List ℕ
type_text shown type_ =
    spelling_with (λ number. name_told shown (named.Tag number)) (λ number. name_told shown (named.Identity (record { 0 = number })))
    (named_type shown.names type_)

abbrev pub place_mark : Bool → List ℕ
place_mark true = codes " (place)"
place_mark false = []

abbrev pub constant_mark : Option ℤ → List ℕ
constant_mark None = []
constant_mark (Some number) = codes " = " ++ signed_decimal number

-- `LINE:COLUMN: `
abbrev pub position_text : At → List ℕ
position_text at = decimal at.line ++ codes ":" ++ decimal at.column ++ codes ": "

abbrev pub place_of : Shown → (token : ℕ) → At
place_of shown token = begins_at (slice_get (toks_of shown.names shown.toks.tokens) token)

abbrev pub expression_line : Shown → (token : ℕ) → ExpressionFact → List ℕ
expression_line shown token expression =
    position_text (place_of shown token) ++ type_text shown expression.type_ ++ place_mark expression.is_place ++ constant_mark expression.constant
    ++ codes "\n"

-- only of expressions there is a line
abbrev pub fact_line : Shown → (token : ℕ) → Fact → List ℕ
fact_line shown token (Expression expression) = expression_line shown token expression
fact_line shown token fact = []

-- of what is answered of a node, over a table of types
abbrev pub answer_line : Show → (token : ℕ) → Answer → List ℕ
answer_line show token (answers.Known fact) = fact_line (shown_of show) token (node_seen show.types.now fact)
answer_line show token (answers.Breaks broken) = constraint_line show.names.now show.toks.now broken

-- Of a node

-- an expression of this row has this line: that of what is known, or that of the least constraint that it breaks
abbrev pub IsRowLine : Shown → (token : ℕ) → Row → List ℕ → Type 0
IsRowLine shown token row line =
    ((row.broken ≡ []) × (line ≡ fact_line shown token row.fact))
    ⊎ ((broken : Broken) × (least_broken row.broken ≡ Some (broken_seen broken)) × (line ≡ constraint_line shown.names shown.toks broken))

-- where it isn't asked there is none
abbrev pub IsLineIf : Bool → Shown → (token : ℕ) → Row → List ℕ → Type 0
IsLineIf true shown token row line = IsRowLine shown token row line
IsLineIf false shown token row line = line ≡ []

-- a node has this line, by what is known of those before it
abbrev pub IsNodeLine : UnitNodes → List Surrounding → Shown → (handle : ℕ) → List ℕ → Type 0
IsNodeLine nodes surroundings shown handle line =
    IsLineIf (is_asked (kind_at nodes handle)) shown (token_at nodes handle) (next_row nodes surroundings handle) line

-- the lines of the first so many nodes, in their order
abbrev pub AreLines : UnitNodes → List Surrounding → Shown → (count : ℕ) → List ℕ → Type 0
AreLines nodes surroundings shown zero text = text ≡ []
AreLines nodes surroundings shown (suc count) text =
    (front : List ℕ) × AreLines nodes surroundings shown count front × AppendsOne (IsNodeLine nodes surroundings shown count) front text

-- Of a unit

-- the lines of all its nodes, each by what is known of those before it, under the names that all nodes tell
abbrev pub AreUnitLines : List (List ℕ) → UnitTokens → UnitNodes → List Surrounding → List ℕ → Type 0
AreUnitLines names toks nodes surroundings text =
    AreLines nodes surroundings (record { names = names; toks = toks; told = names_told nodes surroundings (length nodes) }) (length nodes) text

pub record ShowsTypes (names : List (List ℕ)) (toks : UnitTokens) (nodes : UnitNodes) (text : List ℕ) : Type 0 where
  pub surroundings : List Surrounding
  pub are : AreSurroundings nodes surroundings
  pub lines : AreUnitLines names toks nodes surroundings text

abbrev pub TellsTypes : List (List ℕ) → UnitTokens → UnitNodes → Reply → Type 0
TellsTypes names toks nodes reply = (text : List ℕ) × ShowsTypes names toks nodes text × (reply ≡ shown_reply text)

-- of the nodes of the tree that the tokens derive; or the line of a refusal of parsing
abbrev pub IsTypesReply : List (List ℕ) → UnitTokens → Reply → Type 0
IsTypesReply names toks reply =
    ((list : NodeList NameId) × DerivesUnit (toks_of names toks.tokens) (spelled names list) × TellsTypes names toks (nodes_of list) reply)
    ⊎ TellsRefusal (paths_of names toks.files) (toks_of names toks.tokens) reply
