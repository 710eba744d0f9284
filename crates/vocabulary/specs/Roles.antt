-- The tag by which a list of children keeps the role of each of them.
use Rattle.std.specs.Prelude.{◌≡◌, ℕ, suc, zero}
use Rattle.vocabulary.specs.declared.role.Role.{Role}
use Rattle.vocabulary.specs.declared.role.Role.TheVariants.{Evaluated, Condition, TypePart, Unevaluated}

-- the tag of a role
abbrev pub role_tag : Role → ℕ
role_tag Evaluated = 0
role_tag Condition = 1
role_tag TypePart = 2
role_tag Unevaluated = 3

-- the role that a tag keeps
abbrev pub role_of : ℕ → Role
role_of zero = Evaluated
role_of (suc zero) = Condition
role_of (suc (suc zero)) = TypePart
role_of (suc (suc (suc tag))) = Unevaluated

-- a role's tag is read as that role, so no two roles have one tag
abbrev pub TagsKeepRoles : Type 0
TagsKeepRoles = (role : Role) → role_of (role_tag role) ≡ role
