-- An activity whose values and places fit what the rest of its work takes meets no fault in its next step, and they
-- fit behind it.
use Rattle.std.proofs.Common.{◌≡◌, ℕ, List, [], ◌∷◌, All, Option, Some, ap, ◌∙◌, subst}
use Rattle.std.proofs.lemmas.List.Elements.{All-head, All-tail}
use Rattle.meaning_types.specs.Types.{TypeTree, Typed, IntegerTree, PointerTree, has_flag, value_type}
use Rattle.meaning_first_rules.specs.Bindings.{Binding, pointer_to}
use Rattle.meaning_first_rules.specs.Expressions.{target_of}
use Rattle.meaning_machine.specs.Values.{Value, Integer, Pointer, Lvalue, Block}
use Rattle.meaning_machine.specs.Outcomes.{Answer, Gives, IsFault, IsUndefined}
use Rattle.meaning_machine.specs.Memory.{load, store}
use Rattle.meaning_machine.specs.Code.{LvalueCode, Named, Behind, NoLvalue, ValueCode, ValueOf, AddressOf, Assignment}
use Rattle.meaning_machine.specs.Machine.{AfterLvalue, ThenLoad, ThenPoint, ThenAssign, AfterValue, ThenMove, ThenStore, ThenGoOn, Control, EnterBody, EnterStatement, EnterLvalue, EnterAddress, EnterAssignment, Load, Move, Store, Leave, Finished, lvalue_of, taken_up, gone_on, behind_value, behind_lvalue, entered_name, loaded, moved, written, stored, step}
use Rattle.meaning_machine.specs.laws.Soundness.{IsUnflagged, Agree, IsLvalue, IsValue, IsStatement, LvalueFits, ValueFitsIn, TakesLvalue, TakesValue, IsSoundControl, AreSoundBlocks, IsSoundOutcome, first_blocks}
use Rattle.meaning_machine.proofs.Lvalues.{FitsType, lvalue_of-fits}
use Rattle.meaning_machine.proofs.Similar.{flags-bare, fits-agreeing}
use Rattle.meaning_machine.proofs.Storage.{adopted-as-it-is, IsSoundLoad, sound-load, IsSoundStore, sound-store}

-- What comes next

-- an expression is taken up
taken_up-sound :
    (scope : List Binding) (code : ValueCode) (type_ : TypeTree) (after : AfterValue) →
    IsValue scope code type_ → TakesValue scope type_ after → IsSoundControl scope (taken_up code after)
taken_up-sound scope (ValueOf place) type_ after is takes =
    (is.0, is.1, (is.2, subst (λ t. TakesValue scope t after) is.3 takes))
taken_up-sound scope (AddressOf token place) type_ after is takes =
    (is.0, is.1, subst (λ t. TakesValue scope t after) is.2 takes)
taken_up-sound scope (Assignment token left right) type_ after is takes =
    (is.0, is.1, is.2, is.3, is.4, is.5, subst (λ t. TakesValue scope t after) is.6 takes)

-- a body goes on
gone_on-sound : (scope : List Binding) (statements : List ValueCode) → All (IsStatement scope) statements → IsSoundControl scope (gone_on statements)
gone_on-sound scope [] all = tt
gone_on-sound scope (statement ∷ statements) all =
    (All-head (IsStatement scope) statement statements all, All-tail (IsStatement scope) statement statements all)

-- a value is handed on
behind_value-sound :
    (scope : List Binding) (value : Value) (type_ : TypeTree) (after : AfterValue) →
    ValueFitsIn scope value type_ → TakesValue scope type_ after → IsSoundControl scope (behind_value value after)
behind_value-sound scope value type_ (ThenMove token after) fits takes = (type_, takes.0, fits, takes.1, takes.2)
behind_value-sound scope value type_ (ThenStore place lvalue_token token after) fits takes =
    (takes.0, type_, takes.1, takes.2, fits, takes.3, takes.4)
behind_value-sound scope value type_ (ThenGoOn statements) fits takes = gone_on-sound scope statements takes

-- a place is handed on
behind_lvalue-sound :
    (scope : List Binding) (place : Lvalue) (type_ : TypeTree) (after : AfterLvalue) →
    LvalueFits scope place type_ → TakesLvalue scope type_ after → IsSoundControl scope (behind_lvalue place after)
behind_lvalue-sound scope place type_ (ThenLoad token after) fits takes = (type_, fits, takes.0, takes.1)
behind_lvalue-sound scope place type_ (ThenPoint after) fits takes =
    behind_value-sound scope (Pointer place.type_ place.spot) (pointer_to type_) after fits takes
behind_lvalue-sound scope place type_ (ThenAssign lvalue_token token right after) fits takes =
    taken_up-sound scope right takes.0 (ThenStore place lvalue_token token after) takes.2 (type_, fits, takes.1, takes.3, takes.4)

-- The rows

-- a name's place is found
entered_name-sound :
    (scope : List Binding) (blocks : List Block) (token : ℕ) (found : Option Lvalue) (place : Lvalue) (type_ : TypeTree) (after : AfterLvalue) →
    AreSoundBlocks scope blocks → found ≡ Some place → LvalueFits scope place type_ → TakesLvalue scope type_ after →
    IsSoundOutcome scope (entered_name blocks token found after)
entered_name-sound scope blocks token found place type_ after sound e fits takes =
    rw e (sound, behind_lvalue-sound scope place type_ after fits takes)

-- what is loaded fits the place's type without its flags
fits-value_type : (scope : List Binding) (value : Value) (type_ : TypeTree) → ValueFitsIn scope value type_ → ValueFitsIn scope value (value_type type_)
fits-value_type scope value (Typed base qualifiers flags) fits = fits

loaded-sound :
    (scope : List Binding) (blocks : List Block) (token : ℕ) (type_ : TypeTree) (after : AfterValue) (answer : Answer Value) →
    AreSoundBlocks scope blocks → IsSoundLoad scope type_ answer → TakesValue scope (value_type type_) after →
    IsSoundOutcome scope (loaded blocks token after answer)
loaded-sound scope blocks token type_ after (Gives value) sound fits takes =
    (sound, behind_value-sound scope value (value_type type_) after (fits-value_type scope value type_ fits) takes)
loaded-sound scope blocks token type_ after (IsFault kind) sound fits takes = absurd fits
loaded-sound scope blocks token type_ after (IsUndefined reason) sound fits takes = tt

-- a value that fits a pointer's type is a pointer to a place that fits its target
moved-sound :
    (scope : List Binding) (blocks : List Block) (value : Value) (type_ target : TypeTree) (token : ℕ) (after : AfterLvalue) →
    AreSoundBlocks scope blocks → ValueFitsIn scope value type_ → target_of type_ ≡ Some target → TakesLvalue scope target after →
    IsSoundOutcome scope (moved blocks value token after)
moved-sound scope blocks (Pointer from spot) (Typed (PointerTree to) qualifiers flags) target token after sound fits e takes = (
  sound,
  behind_lvalue-sound scope (record { type_ = from; spot = spot }) target after
      (subst (λ t. LvalueFits scope (record { type_ = from; spot = spot }) t) (cc e) fits) takes,
)
moved-sound scope blocks (Pointer from spot) (Typed base qualifiers flags) target token after sound fits e takes = absurd fits
moved-sound scope blocks (Integer kind restricted fouled number) (Typed (IntegerTree wanted) qualifiers flags) target token after sound fits e takes = cc e
moved-sound scope blocks (Integer kind restricted fouled number) (Typed base qualifiers flags) target token after sound fits e takes = absurd fits

-- the stored value goes on
written-sound :
    (scope : List Binding) (value : Value) (type_ : TypeTree) (lvalue_token : ℕ) (after : AfterValue) (answer : Answer (List Block)) →
    IsSoundStore scope answer → ValueFitsIn scope value type_ → TakesValue scope type_ after → IsSoundOutcome scope (written value lvalue_token after answer)
written-sound scope value type_ lvalue_token after (Gives blocks) sound fits takes = (sound, behind_value-sound scope value type_ after fits takes)
written-sound scope value type_ lvalue_token after (IsFault kind) sound fits takes = absurd sound
written-sound scope value type_ lvalue_token after (IsUndefined reason) sound fits takes = tt

stored-sound :
    (scope : List Binding) (blocks : List Block) (place : Lvalue) (lvalue_token : ℕ) (value : Value) (token : ℕ) (after : AfterValue) (place_type type_ : TypeTree) →
    AreSoundBlocks scope blocks → LvalueFits scope place place_type → IsUnflagged place_type → ValueFitsIn scope value type_ → Agree type_ place_type →
    TakesValue scope (value_type place_type) after → IsSoundOutcome scope (stored blocks place lvalue_token value token after)
stored-sound scope blocks place lvalue_token value token after place_type type_ sound lvalue_fits unflagged fits agree takes =
    rw (
      ap has_flag (flags-bare place.type_ place_type lvalue_fits.0) ∙ unflagged,
      adopted-as-it-is (first_blocks scope) value type_ place_type place.type_ fits agree lvalue_fits.0,
    )
    (written-sound scope value (value_type place_type) lvalue_token after (store blocks place.spot value)
    (sound-store scope blocks place place_type value sound lvalue_fits as_place)
    (fits-value_type scope value place_type as_place) takes)
  where
    as_place : ValueFitsIn scope value place_type
    as_place = fits-agreeing (first_blocks scope) value type_ place_type agree fits

-- the place of a node is entered
enter_lvalue-sound :
    (scope : List Binding) (blocks : List Block) (place : LvalueCode) (type_ : TypeTree) (after : AfterLvalue) →
    AreSoundBlocks scope blocks → IsLvalue scope place type_ → TakesLvalue scope type_ after → IsSoundOutcome scope (step scope blocks (EnterLvalue place after))
enter_lvalue-sound scope blocks (Named token name) type_ after sound is takes =
    let found : FitsType (first_blocks scope) (lvalue_of scope name) type_ = lvalue_of-fits scope name type_ is in
    entered_name-sound scope blocks token (lvalue_of scope name) found.0 type_ after sound found.1 (found.2, found.3) takes
enter_lvalue-sound scope blocks (Behind token pointer) type_ after sound is takes =
    (sound, taken_up-sound scope pointer is.0 (ThenMove token after) is.1 (type_, is.2, takes))
enter_lvalue-sound scope blocks (NoLvalue token) type_ after sound is takes = absurd is

-- each step is sound
pub step_is_sound :
    (scope : List Binding) (blocks : List Block) (control : Control) → AreSoundBlocks scope blocks → IsSoundControl scope control →
    IsSoundOutcome scope (step scope blocks control)
step_is_sound scope blocks (EnterBody statements) sound is = (sound, gone_on-sound scope statements is)
step_is_sound scope blocks (EnterStatement statement statements) sound is =
    (sound, taken_up-sound scope statement is.0.0 (ThenGoOn statements) is.0.1 is.1)
step_is_sound scope blocks (EnterLvalue place after) sound is = enter_lvalue-sound scope blocks place is.0 after sound is.1 is.2
step_is_sound scope blocks (EnterAddress place after) sound is = (sound, (is.0, is.1, is.2))
step_is_sound scope blocks (EnterAssignment token left right after) sound is =
    (sound, (is.0, is.2, (is.1, is.3, is.4, is.5, is.6)))
step_is_sound scope blocks (Load place token after) sound is =
    loaded-sound scope blocks token is.0 after (load blocks place) sound (sound-load scope blocks place is.0 sound is.1 is.2) is.3
step_is_sound scope blocks (Move value token after) sound is = moved-sound scope blocks value is.0 is.1 token after sound is.2 is.3 is.4
step_is_sound scope blocks (Store place lvalue_token value token after) sound is =
    stored-sound scope blocks place lvalue_token value token after is.0 is.1 sound is.2 is.3 is.4 is.5 is.6
step_is_sound scope blocks Leave sound is = tt
step_is_sound scope blocks Finished sound is = tt
