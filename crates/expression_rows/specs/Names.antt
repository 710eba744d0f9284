-- What a name stands for.
use Rattle.std.specs.Prelude.{◌≡◌, Bool, List, [], Option, Some, None, if◌then◌else◌}
use Rattle.meaning_typing.specs.Facts.{Addressed, NotAddress, ConstantPlace, Fact, Declared, DeclaredFact, place}
use Rattle.meaning_typing.specs.Names.{type_of_name}
use Rattle.meaning_typing.specs.Rows.{Row, gives, nothing}
use Rattle.c_types.specs.Table.{TypeTable, type_at}
use Rattle.expression_rows.specs.declared.name.DeclaredName.{DeclaredName}

-- a declaration says so of its name, behind these facts
pub record IsNamedBy (table : TypeTable) (named : DeclaredName) (facts : List Fact) (declaration : DeclaredFact) : Type 0 where
  pub type_ : type_at table named.of ≡ type_of_name facts declaration
  pub is_typedef : named.is_typedef ≡ declaration.is_typedef
  pub is_static : named.is_static ≡ declaration.is_static
  pub is_register : named.is_register ≡ declaration.is_register

abbrev pub declared_by : Fact → Option DeclaredFact
declared_by (Declared declaration) = Some declaration
declared_by fact = None

abbrev pub IsNamedIf : TypeTable → Option DeclaredName → List Fact → Option DeclaredFact → Type 0
IsNamedIf table None facts None = Unit {0}
IsNamedIf table None facts (Some declaration) = ⊥
IsNamedIf table (Some named) facts None = ⊥
IsNamedIf table (Some named) facts (Some declaration) = IsNamedBy table named facts declaration

-- it is what is known of a declaration, if that is one
abbrev pub IsNamed : TypeTable → Option DeclaredName → List Fact → Fact → Type 0
IsNamed table named facts declaration = IsNamedIf table named facts (declared_by declaration)

abbrev pub address_if : (is_static : Bool) → Addressed
address_if is_static = if is_static then ConstantPlace else NotAddress

-- the row of a name that stands for it
abbrev pub named_as : TypeTable → DeclaredName → Row
named_as table named =
    if named.is_typedef then nothing
    else gives (record (place (type_at table named.of)) { is_register = named.is_register; address = address_if named.is_static }) [] []
