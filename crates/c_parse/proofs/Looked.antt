-- What is known of the next two terminals behind an action.
use Rattle.std.proofs.Common.{◌≡◌, ℕ, ◌+◌, Bool, true, false, List, ◌∷◌, drop, Option, Some, None, refl, sym, ap, ◌∙◌, if◌then◌else◌, nat_lt}
use Rattle.vocabulary.specs.declared.limit.LimitKind.TheVariants.{Nodes}
use Rattle.vocabulary.specs.declared.scope.NameSpace.TheVariants.{Ordinary}
use Rattle.vocabulary.specs.declared.action.Action.{Action}
use Rattle.vocabulary.specs.declared.action.Action.TheVariants.{Append, BeginAtNext, BeginList, JoinSuffixes, MakeBinary, MakeCall, MakeLeaf, MakeMember, MakeNamed, MakeOver, MakeOverList, MakeOverTwo, MakePostfix, UseName}
use Rattle.meaning_grammar.specs.Terminals.{Terminal}
use Rattle.meaning_scopes.specs.Scopes.{Found, ScopeList}
use Rattle.meaning_derivation.specs.Values.{Value, text_of, value_at}
use Rattle.meaning_derivation.specs.State.{State, Goes, Refuses, PassesLimit, made_as, most_nodes}
use Rattle.meaning_derivation.specs.Scoping.{found_name, name_used}
use Rattle.meaning_derivation.specs.Taking.{look_at, second_look}
use Rattle.meaning_derivation.specs.Actions.{act}
use Rattle.c_parse.specs.Kept.{keeps_scopes}
use Rattle.c_parse.specs.Moments.{MayBeLooks}
use Rattle.c_parse.specs.declared.looks.Looks.{Looks}

made_scopes : (s next : State) (count : ℕ) (value : Value) (test : Bool) → nat_lt s.nodes most_nodes ≡ test → made_as s count value ≡ Goes next → next.scopes ≡ s.scopes
made_scopes s next count value true room is =
    let all : Goes (record s { values = value ∷ drop count s.values; nodes = s.nodes + 1 }) ≡ Goes next =
    ap (λ (one : Bool). if one then Goes (record s { values = value ∷ drop count s.values; nodes = s.nodes + 1 }) else Refuses (PassesLimit Nodes) s.next_token) (sym room) ∙ is in
    let same : record s { values = value ∷ drop count s.values; nodes = s.nodes + 1 } ≡ next = cc in
    ap (λ (one : State). one.scopes) (sym same)
made_scopes s next count value false room is =
    let clash : Refuses (PassesLimit Nodes) s.next_token ≡ Goes next =
    ap (λ (one : Bool). if one then Goes (record s { values = value ∷ drop count s.values; nodes = s.nodes + 1 }) else Refuses (PassesLimit Nodes) s.next_token) (sym room) ∙ is in
    absurd (cc clash)

goes_scopes : (s next changed : State) → Goes changed ≡ Goes next → changed.scopes ≡ s.scopes → next.scopes ≡ s.scopes
goes_scopes s next changed is stays = let same : changed ≡ next = cc in ap (λ (one : State). one.scopes) (sym same) ∙ stays

used_scopes : (s next : State) (found : Option (Found (List ℕ))) (word : Value) → name_used s found word ≡ Goes next → next.scopes ≡ s.scopes
used_scopes s next None word is = absurd (cc is)
used_scopes s next (Some declaration) word is = made_scopes s next 1 _ _ refl is

-- such an action binds nothing and opens no scope
scopes_kept : (action : Action) (s next : State) → keeps_scopes action ≡ true → act action s ≡ Goes next → next.scopes ≡ s.scopes
scopes_kept BeginList s next keeps is = goes_scopes s next _ is refl
scopes_kept BeginAtNext s next keeps is = goes_scopes s next _ is refl
scopes_kept (Append role) s next keeps is = goes_scopes s next _ is refl
scopes_kept JoinSuffixes s next keeps is = goes_scopes s next _ is refl
scopes_kept (MakeLeaf kind) s next keeps is = made_scopes s next 1 _ _ refl is
scopes_kept (MakeNamed kind) s next keeps is = made_scopes s next 2 _ _ refl is
scopes_kept (MakeOver kind role) s next keeps is = made_scopes s next 2 _ _ refl is
scopes_kept (MakeOverTwo kind role other) s next keeps is = made_scopes s next 3 _ _ refl is
scopes_kept (MakeOverList kind) s next keeps is = made_scopes s next 2 _ _ refl is
scopes_kept (MakeBinary kind role) s next keeps is = made_scopes s next 3 _ _ refl is
scopes_kept (MakePostfix kind) s next keeps is = made_scopes s next 2 _ _ refl is
scopes_kept (MakeMember kind) s next keeps is = made_scopes s next 3 _ _ refl is
scopes_kept MakeCall s next keeps is = made_scopes s next 3 _ _ refl is
scopes_kept UseName s next keeps is = used_scopes s next (found_name s Ordinary (text_of (value_at s.values 0))) (value_at s.values 0) is
scopes_kept action s next keeps is = absurd (cc keeps)

looks_with : (s next : State) (terminals : List Terminal) (looks : Option Looks) → next.scopes ≡ s.scopes → MayBeLooks s terminals looks → MayBeLooks next terminals looks
looks_with s next terminals None same are = tt
looks_with s next terminals (Some looks) same are =
    record {
      next = are.next ∙ ap (λ (bound : ScopeList (List ℕ)). look_at bound terminals) (sym same);
      behind = are.behind ∙ ap (λ (bound : ScopeList (List ℕ)). second_look bound terminals) (sym same);
    }

looks_if : (test : Bool) (s next : State) (terminals : List Terminal) (looks : Option Looks) → (test ≡ true → next.scopes ≡ s.scopes)
    → MayBeLooks s terminals looks → MayBeLooks next terminals (if test then looks else None)
looks_if true s next terminals looks same are = looks_with s next terminals looks (same refl) are
looks_if false s next terminals looks same are = tt

-- what is remembered behind an action
pub looks_after : (action : Action) (s next : State) (terminals : List Terminal) (looks : Option Looks) → act action s ≡ Goes next
    → MayBeLooks s terminals looks → MayBeLooks next terminals (if keeps_scopes action then looks else None)
looks_after action s next terminals looks goes are =
    looks_if (keeps_scopes action) s next terminals looks (λ keeps. scopes_kept action s next keeps goes) are
