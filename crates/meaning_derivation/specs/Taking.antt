-- What a terminal is where it stands, how one is taken, and what is told where nothing goes on.
use Rattle.std.specs.Prelude.{ℕ, ◌+◌, Bool, true, false, ◌&&◌, List, [], ◌∷◌, nat_eq, nat_lt, Option, Some, None, is_some, if◌then◌else◌}
use Rattle.std.specs.Str.{bytes_eq}
use Rattle.vocabulary.specs.declared.error_kind.ErrorKind.{ErrorKind}
use Rattle.vocabulary.specs.declared.error_kind.ErrorKind.TheVariants.{SyntaxError, NestedFunction, ComputedGoto, CaseRange, DesignatorRange, QualifierInArrayBrackets}
use Rattle.vocabulary.specs.declared.token_class.TokenClass.{TokenClass}
use Rattle.vocabulary.specs.declared.token_class.TokenClass.TheVariants.{Identifier, Exclamation, AndAnd, Star, Ellipsis, LeftBrace, StaticKeyword, End}
use Rattle.vocabulary.specs.declared.symbol.Symbol.{Symbol}
use Rattle.vocabulary.specs.declared.symbol.Symbol.TheVariants.{ArraySize}
use Rattle.vocabulary.specs.declared.production_item.ProductionItem.{ProductionItem}
use Rattle.vocabulary.specs.declared.production_item.ProductionItem.TheVariants.{Token, Name, LabelName, AttributeWord, CaseColon, DesignatorEnd, Nonterminal}
use Rattle.meaning_scopes.specs.Scopes.{ScopeList}
use Rattle.meaning_scopes.specs.Classes.{class_of_name}
use Rattle.meaning_grammar.specs.Classes.{is_same, is_among}
use Rattle.meaning_grammar.specs.ClassLists.{type_qualifiers}
use Rattle.meaning_grammar.specs.Terminals.{Terminal}
use Rattle.meaning_grammar.specs.Items.{takes}
use Rattle.meaning_grammar.specs.Choice.{choice}
use Rattle.meaning_derivation.specs.Values.{Value, WordValue}
use Rattle.meaning_derivation.specs.State as states
use Rattle.meaning_derivation.specs.State.{State, Held, Fault, IsError, PassesLimit, Outcome, Done, Fails, token_before}

-- The next two terminals

-- the class of a terminal: that of a name depends on what it is bound to
abbrev pub class_in : ScopeList (List ℕ) → Terminal → TokenClass
class_in scopes terminal = if is_same Identifier terminal.class_ then class_of_name bytes_eq scopes terminal.text else terminal.class_

-- behind the last one there is the end
abbrev pub look_at : ScopeList (List ℕ) → List Terminal → TokenClass
look_at scopes [] = End
look_at scopes (terminal ∷ terminals) = class_in scopes terminal

-- the class of the one behind it
abbrev pub second_look : ScopeList (List ℕ) → List Terminal → TokenClass
second_look scopes [] = End
second_look scopes (terminal ∷ terminals) = look_at scopes terminals

abbrev pub look_of : State → List Terminal → TokenClass
look_of s terminals = look_at s.scopes terminals

abbrev pub second_of : State → List Terminal → TokenClass
second_of s terminals = second_look s.scopes terminals

-- Where nothing goes on

-- the symbol begins an operand: it has a row for `!`
abbrev pub begins_operand : Symbol → Bool
begins_operand symbol = is_some (choice symbol Exclamation End)

-- what an item that can't go on before a terminal of this class says besides a syntax error: five forms that aren't
-- read, each told by what was expected
abbrev pub expected_fault : ProductionItem → TokenClass → ErrorKind
expected_fault LabelName class_ = if is_same Star class_ then ComputedGoto else SyntaxError
expected_fault CaseColon class_ = if is_same Ellipsis class_ then CaseRange else SyntaxError
expected_fault DesignatorEnd class_ = if is_same Ellipsis class_ then DesignatorRange else SyntaxError
expected_fault (Nonterminal ArraySize) class_ =
    if is_among (StaticKeyword ∷ type_qualifiers) class_ then QualifierInArrayBrackets
    else (if is_same AndAnd class_ then ComputedGoto else SyntaxError)
expected_fault (Nonterminal symbol) class_ = if is_same AndAnd class_ && begins_operand symbol then ComputedGoto else SyntaxError
expected_fault item class_ = SyntaxError

-- a function's declarator ended before this terminal
abbrev pub ends_function : Option ℕ → (taken : ℕ) → Bool
ends_function None taken = false
ends_function (Some terminal) taken = nat_eq terminal taken

-- a body behind a function's declarator where none may stand, or what the item says
abbrev pub fault_of_class : ProductionItem → State → TokenClass → ErrorKind
fault_of_class item s class_ =
    if is_same LeftBrace class_ && ends_function s.function_end s.taken then NestedFunction else expected_fault item class_

-- an unsupported word or literal goes before all of these
abbrev pub refusal_or : Option ErrorKind → ErrorKind → ErrorKind
refusal_or None kind = kind
refusal_or (Some refusal) kind = refusal

abbrev pub fault_before : ProductionItem → State → List Terminal → ErrorKind
fault_before item s [] = SyntaxError
fault_before item s (terminal ∷ terminals) = refusal_or terminal.refusal (fault_of_class item s (class_in s.scopes terminal))

-- a limit that was passed at an earlier terminal goes before what is decided at this one
abbrev pub behind_limit : Option states.Passed → (decided : ℕ) → (otherwise : Outcome) → Outcome
behind_limit None decided otherwise = otherwise
behind_limit (Some passed) decided otherwise =
    if nat_lt passed.terminal decided then Fails (PassesLimit passed.limit) passed.terminal passed.terminal else otherwise

-- the item can't go on here; at the end that stands behind the unit's last token
abbrev pub refused_at : ProductionItem → State → List Terminal → Outcome
refused_at item s terminals =
    behind_limit s.passed s.taken (Fails (IsError (fault_before item s terminals)) s.taken s.next_token)

-- Where a terminal is taken

-- the item keeps what it takes
abbrev pub keeps : ProductionItem → Bool
keeps (Token class_) = true
keeps Name = true
keeps LabelName = true
keeps AttributeWord = true
keeps item = false

abbrev pub kept : ProductionItem → Terminal → List Value → List Value
kept item terminal values = if keeps item then WordValue terminal.index terminal.text ∷ values else values

-- behind the next terminal; the end stays where it is
abbrev pub advanced : ProductionItem → State → List Terminal → Outcome
advanced item s [] = Done s []
advanced item s (terminal ∷ terminals) =
    Done (record s { taken = s.taken + 1; next_token = token_before s.last_token terminals; values = kept item terminal s.values }) terminals

-- specifiers that are refused are told where the terminal behind them is taken
abbrev pub unless_held : Option Held → (decided : ℕ) → (otherwise : Outcome) → Outcome
unless_held None decided otherwise = otherwise
unless_held (Some held) decided otherwise = Fails (IsError held.kind) decided held.token

-- an item takes the next terminal if it is of its class
abbrev pub take_one : ProductionItem → State → List Terminal → Outcome
take_one item s terminals =
    if takes item (look_of s terminals)
    then behind_limit s.passed s.taken (unless_held s.held s.taken (advanced item s terminals))
    else refused_at item s terminals
