-- What is kept of declarations and of names of types says what is initialized.
use Rattle.std.proofs.Common.{◌≡◌, Bool, Option, Some, None, refl, sym, ap}
use Rattle.std.proofs.lemmas.Option.{none-some, same_Some}
use Rattle.vocabulary.specs.declared.node_kind.NodeKind.{NodeKind}
use Rattle.vocabulary.specs.declared.node_kind.NodeKind.TheVariants as kinds
use Rattle.meaning_layout.specs.Sizes.{Told}
use Rattle.meaning_typing.specs.Declarators as declarators
use Rattle.meaning_typing.specs.Facts as meaning
use Rattle.meaning_typing.specs.Surroundings.{Surrounding}
use Rattle.meaning_typing.specs.Units.{UnitNodes}
use Rattle.meaning_initializers.specs.Reading as reading
use Rattle.meaning_initialized.specs.Initialized.{NoObject, declared_object, literal_object}
use Rattle.c_types.specs.Table.{TypeTable}
use Rattle.sparse_model.specs.declared.ids.TypeId.{TypeId}
use Rattle.decl_judge.specs.Asked.{named_in}
use Rattle.expr_judge.specs.Parts.{declaration_in}
use Rattle.node_facts.specs.declared.declared.DeclaredFact.{DeclaredFact}
use Rattle.node_facts.specs.declared.fact.NodeFact.{NodeFact}
use Rattle.node_facts.specs.declared.fact.NodeFact.TheVariants as facts
use Rattle.node_facts.specs.Facts.{node_seen}

-- Declarations

pub declared_is : (fact : NodeFact) (declaration : DeclaredFact) → declaration_in fact ≡ Some declaration → fact ≡ facts.Declared declaration
declared_is facts.Unknown declaration is = absurd (none-some declaration is)
declared_is (facts.Expression expression) declaration is = absurd (none-some declaration is)
declared_is (facts.Specified specifiers) declaration is = absurd (none-some declaration is)
declared_is (facts.Declared own) declaration is = ap facts.Declared (same_Some own declaration is)
declared_is (facts.NamedType of) declaration is = absurd (none-some declaration is)

-- Names of types

pub named_is : (fact : NodeFact) (of : TypeId) → named_in fact ≡ Some of → fact ≡ facts.NamedType of
named_is facts.Unknown of is = absurd (none-some of is)
named_is (facts.Expression expression) of is = absurd (none-some of is)
named_is (facts.Specified specifiers) of is = absurd (none-some of is)
named_is (facts.Declared declaration) of is = absurd (none-some of is)
named_is (facts.NamedType own) of is = ap facts.NamedType (same_Some own of is)

-- Units
