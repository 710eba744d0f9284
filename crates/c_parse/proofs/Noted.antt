-- What was noted goes before what comes, or lets it go on.
use Rattle.std.proofs.Common.{◌≡◌, ℕ, ◌<◌, Bool, true, List, [], ◌∷◌, drop, slice_get, Option, Some, None, refl, sym, ap, ◌∙◌, if◌then◌else◌}
use Rattle.std.proofs.lemmas.Bool.{lt-ltb}
use Rattle.vocabulary.specs.declared.production_item.ProductionItem.{ProductionItem}
use Rattle.vocabulary.specs.declared.token_class.TokenClass.{TokenClass}
use Rattle.meaning_grammar.specs.Items.{takes}
use Rattle.meaning_grammar.specs.Terminals.{Terminal}
use Rattle.meaning_derivation.specs.State.{State, Passed, Held, Outcome, Fails, IsError, PassesLimit}
use Rattle.meaning_derivation.specs.Taking.{look_of, behind_limit, unless_held, advanced, refused_at, take_one}
use Rattle.parse_state.specs.declared.marks.PassedLimit.{PassedLimit}
use Rattle.parse_state.specs.declared.marks.HeldError.{HeldError}
use Rattle.parse_state.specs.Seen.{passed_of, held_of}
use Rattle.c_parse.specs.Steps.{unless_noted}
use Rattle.c_parse.specs.Telling.{IsTold}
use Rattle.c_parse.specs.declared.fault.ParseFault.{ParseFault}
use Rattle.c_parse.proofs.Told.{told_so}

-- Limits

pub limit_told : (passed : Option Passed) (found : PassedLimit) (taken : ℕ) (otherwise : Outcome) → Some (passed_of found) ≡ passed → found.terminal < taken
    → behind_limit passed taken otherwise ≡ Fails (PassesLimit found.limit) found.terminal found.terminal
limit_told passed found taken otherwise is before =
    ap (λ one. behind_limit one taken otherwise) (sym is)
    ∙ ap (λ (test : Bool). if test then Fails (PassesLimit found.limit) found.terminal found.terminal else otherwise) (lt-ltb found.terminal taken before)

pub held_told : (held : Option Held) (found : HeldError) (taken : ℕ) (otherwise : Outcome) → Some (held_of found) ≡ held
    → unless_held held taken otherwise ≡ Fails (IsError found.kind) taken found.token
held_told held found taken otherwise is = ap (λ one. unless_held one taken otherwise) (sym is)

-- Terminals

pub nothing_left : (terminals : List Terminal) → None ≡ slice_get terminals 0 → terminals ≡ []
nothing_left [] is = refl
nothing_left (terminal ∷ terminals) is = absurd (cc is)

pub next_of_left : (terminals : List Terminal) (next : Terminal) → Some next ≡ slice_get terminals 0 → terminals ≡ next ∷ drop 1 terminals
next_of_left [] next is = absurd (cc is)
next_of_left (terminal ∷ terminals) next is = let same : terminal ≡ next = cc in ap (λ one. one ∷ terminals) same

-- what a look says of taking
pub taken_goes : (item : ProductionItem) (s : State) (terminals : List Terminal) (look : TokenClass) (outcome : Outcome) → look ≡ look_of s terminals
    → takes item look ≡ true → unless_noted s (advanced item s terminals) ≡ advanced item s terminals → advanced item s terminals ≡ outcome
    → take_one item s terminals ≡ outcome
taken_goes item s terminals look outcome is takes_it noted goes =
    ap (λ (test : Bool). if test then unless_noted s (advanced item s terminals) else refused_at item s terminals) (ap (takes item) (sym is) ∙ takes_it) ∙ noted ∙ goes

pub noted_told : (item : ProductionItem) (s : State) (terminals : List Terminal) (look : TokenClass) (fault : ParseFault) → look ≡ look_of s terminals
    → takes item look ≡ true → IsTold (λ outcome. unless_noted s (advanced item s terminals) ≡ outcome) fault
    → IsTold (λ outcome. take_one item s terminals ≡ outcome) fault
noted_told item s terminals look fault is takes_it told =
    told_so (λ outcome. unless_noted s (advanced item s terminals) ≡ outcome) (λ outcome. take_one item s terminals ≡ outcome) fault
    (λ why decided stands fails.
    ap (λ (test : Bool). if test then unless_noted s (advanced item s terminals) else refused_at item s terminals) (ap (takes item) (sym is) ∙ takes_it) ∙ fails) told
