-- A parameter is bound by the name of its declarator.
use Rattle.std.proofs.Common.{◌≡◌, ℕ, List, [], ◌∷◌, Some, sym, ap}
use Rattle.std.proofs.lemmas.Option.{same_Some}
use Rattle.vocabulary.specs.declared.scope.Bound.TheVariants.{Unlinked}
use Rattle.meaning_tree.specs.Trees.{Node, Parts, NoParts, Part}
use Rattle.meaning_derivation.specs.Values.{Value}
use Rattle.meaning_derivation.specs.State.{State}
use Rattle.meaning_derivation.specs.Scoping.{declared_at, parameter_bound}
use Rattle.parse_state.specs.Declaring.{first_name}

pub parameter_named : (s : State) (specifiers : Value) (parts : Parts (List ℕ)) (name : List ℕ) (token : ℕ) → Some (name, token) ≡ first_name parts
    → parameter_bound s specifiers parts ≡ declared_at s name token Unlinked
parameter_named s specifiers NoParts name token is = absurd (cc is)
parameter_named s specifiers (Part role (Node kind at [] number parts) others) name token is = absurd (cc is)
parameter_named s specifiers (Part role (Node kind at (byte ∷ bytes) number parts) others) name token is =
    ap (λ (told : List ℕ × ℕ). declared_at s told.0 told.1 Unlinked) (sym (same_Some _ _ is))
