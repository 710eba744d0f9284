-- The row of a width by the entry to which it belongs.
use Rattle.std.proofs.Common.{◌≡◌, ℕ, List, Option, Some, None, option_map, refl, ap}
use Rattle.std.proofs.lemmas.Option.{same_Some}
use Rattle.meaning_typing.specs.Facts.{Fact}
use Rattle.meaning_typing.specs.MemberDeclarations.{MemberEntry}
use Rattle.meaning_typing.specs.MemberRows.{width_behind, width_of_entry}
use Rattle.meaning_typing.specs.Rows.{known}
use Rattle.meaning_typing.specs.Units.{UnitNodes}

module _ (nodes : UnitNodes) (facts : List Fact) where
  pub behind_some : (entry : Option MemberEntry) (size : Fact) (declarator : ℕ) → Some declarator ≡ option_map (λ (entry : MemberEntry). entry.declarator) entry
      → width_behind nodes facts declarator size ≡ width_of_entry nodes facts entry size
  behind_some None size declarator is = cc
  behind_some (Some entry) size declarator is = ap (λ declarator. width_behind nodes facts declarator size) (same_Some declarator entry.declarator is)

  pub behind_none : (entry : Option MemberEntry) (size : Fact) → None ≡ option_map (λ (entry : MemberEntry). entry.declarator) entry
      → known size ≡ width_of_entry nodes facts entry size
  behind_none None size is = refl
  behind_none (Some entry) size is = cc
