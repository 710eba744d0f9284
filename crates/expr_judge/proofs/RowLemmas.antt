-- A name has no constant.
use Rattle.std.proofs.Common.{◌≡◌, Bool, true, false, List, [], None, if◌then◌else◌, refl}
use Rattle.meaning_typing.specs.Facts.{Fact, Unknown, Expression, Specified, Declared, NamedType, DeclaredFact}
use Rattle.meaning_typing.specs.Names.{name_row, named_place}
use Rattle.meaning_typing.specs.Rows.{gives, nothing}
use Rattle.meaning_typing.specs.Typing.{with_constant}

abbrev pub HasNoConstant : Fact → Type 0
HasNoConstant fact = with_constant None fact ≡ fact

named_place_none : (facts : List Fact) (declaration : DeclaredFact) (test : Bool) → HasNoConstant (if test then nothing else gives (named_place facts declaration) [] []).fact
named_place_none facts declaration true = refl
named_place_none facts declaration false = refl

pub name_none : (facts : List Fact) (declaration : Fact) → HasNoConstant (name_row facts declaration).fact
name_none facts Unknown = refl
name_none facts (Expression expression) = refl
name_none facts (Specified specifiers) = refl
name_none facts (Declared declaration) = named_place_none facts declaration declaration.is_typedef
name_none facts (NamedType type_) = refl
