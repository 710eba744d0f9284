-- A typedef that stands again.
use Rattle.std.proofs.Common.{◌≡◌, ◌↔◌, ℕ, Bool, true, IsTrue, List, [], Option, if◌then◌else◌, option_map, sym, ap, ◌∙◌}
use Rattle.std.proofs.lemmas.Bool.Decides.{same_from_decides}
use Rattle.sparse_model.specs.declared.ids.TypeId.{TypeId}
use Rattle.meaning_types.specs.Types.{TypeTree}
use Rattle.meaning_typing.proofs.Equality.{equal_types_pass}
use Rattle.meaning_typing.specs.Equality.{are_equal_types}
use Rattle.meaning_typing.specs.Names.{first_typedef, typedef_differs, typedefs_again}
use Rattle.meaning_typing.specs.Surroundings.{Surrounding}
use Rattle.meaning_rules.specs.Rules.{least_broken}
use Rattle.c_types.specs.Table.{type_at}
use Rattle.node_facts.specs.declared.declared.DeclaredFact.{DeclaredFact}
use Rattle.node_facts.specs.Facts.{declared_seen}
use Rattle.linked_names.specs.Typedefs.{first_of}
use Rattle.expression_rows.specs.declared.row.Broken as code
use Rattle.expression_rows.specs.Rows.{broken_seen}
use Rattle.declaration_judge.specs.declared.declarations.Declarations.{Declarations}
use Rattle.declaration_judge.specs.Kept.{facts_seen, typedefs_in}
use Rattle.declaration_judge.proofs.LinkedLemmas.{first_typedef-is}

-- what decides whether two types are equal is the test of the definitions
pub equal_by : (test : Bool) (type_ other : TypeTree) → IsTrue test ↔ (type_ ≡ other) → test ≡ are_equal_types type_ other
equal_by test type_ other decides = same_from_decides test (are_equal_types type_ other) decides (equal_types_pass type_ other)

module _ (kept : Declarations) (declaration : DeclaredFact) (surroundings : List Surrounding) (token : ℕ) (surrounding : Surrounding) where
  -- by what is found of the first one
  pub again_by :
      (scope : ℕ) (found : Option TypeId) (broken : Option code.Broken) → kept.typedefs ≡ typedefs_in surroundings kept.facts
      → surrounding.around.scope ≡ scope → declaration.is_typedef ≡ true → found ≡ first_of scope declaration.name kept.typedefs
      → option_map broken_seen broken ≡ least_broken (typedef_differs token (declared_seen kept.types declaration) (option_map (type_at kept.types) found))
      → option_map broken_seen broken
      ≡ least_broken (typedefs_again surroundings (facts_seen kept) token surrounding (declared_seen kept.types declaration))
  again_by scope found broken typedefs stands is first differs =
      let meant = declared_seen kept.types declaration in
      let facts = facts_seen kept in
      differs
      ∙ ap (λ of. least_broken (typedef_differs token meant of))
      (ap (option_map (type_at kept.types)) (first ∙ ap (first_of scope declaration.name) typedefs)
      ∙ sym (first_typedef-is kept.types scope declaration.name surroundings kept.facts)
      ∙ ap (λ s. first_typedef s meant.name surroundings facts) (sym stands))
      ∙ ap
      (λ test. least_broken (if test then typedef_differs token meant (first_typedef surrounding.around.scope meant.name surroundings facts) else []))
      (sym is)
