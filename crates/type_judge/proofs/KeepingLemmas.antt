-- What is kept of statements and jumps, where one node more is known.
use Rattle.std.proofs.Common.{ℕ, ◌+◌, ◌++◌, ◌<◌, [], ◌∷◌, List, Result, Ok, Err, OnOk, length, length-append, refl, subst, arith}
use Rattle.meaning_typing.specs.Facts.{Fact}
use Rattle.meaning_typing.specs.Surroundings.{Surrounding}
use Rattle.meaning_typing.specs.Units.{UnitNodes}
use Rattle.c_types.specs.Table.{TypeTable}
use Rattle.node_facts.specs.Growing.{TypesJoin}
use Rattle.node_facts.specs.Facts.{nodes_seen}
use Rattle.node_judge.specs.declared.known.Known.{Known}
use Rattle.node_judge.specs.Known.{IsKnownOf, facts_seen, table_of}
use Rattle.node_judge.proofs.KnownLemmas.{known_later, types_alone}
use Rattle.statement_judge.specs.declared.statements.Statements.{Statements}
use Rattle.statement_judge.specs.Later.{ComeLater}
use Rattle.statement_judge.specs.Statements.{IsKeptOf}
use Rattle.statement_judge.proofs.StatementLemmas.{kept_later}

-- of what is known, with types that joined
abbrev pub with_types : Known → TypeTable → Known
with_types known types = record known { declarations = record known.declarations { types = types } }

module _ (nodes : UnitNodes) (surroundings : List Surrounding) (handle : ℕ) (known : Known) (is : IsKnownOf nodes surroundings handle (facts_seen known) known) where
  module _ (types : TypeTable) where
    pub known_with : TypesJoin (table_of known) types → IsKnownOf nodes surroundings handle (facts_seen known) (with_types known types)
    known_with join = known_later nodes surroundings handle known is _ (types_alone known.declarations types join)

    -- what is kept over more types
    pub kept_with : {T E : Type 0} (result : Result T E) (count : ℕ) (statements : Statements) → OnOk result (TypesJoin (table_of known) types)
        → OnOk result (IsKeptOf nodes surroundings (nodes_seen types known.declarations.facts) count statements)
        → OnOk result (IsKeptOf nodes surroundings (facts_seen known) count statements)
    kept_with (Ok done) count statements join kept =
        subst (λ (facts : List Fact). IsKeptOf nodes surroundings facts count statements) (known_with join).facts kept
    kept_with (Err fault) count statements join kept = tt

  -- one node more
  pub kept_next : handle < length nodes → (statements : Statements) (fact : Fact) → IsKeptOf nodes surroundings (facts_seen known) (handle + 1) statements
      → IsKeptOf nodes surroundings (facts_seen known ++ fact ∷ []) (handle + 1) statements
  kept_next within statements fact kept =
      let come : ComeLater nodes (facts_seen known) (facts_seen known ++ fact ∷ []) =
      record {
        more = fact ∷ [];
        behind = refl;
        few = omega (arith, within, is.next, length-append (facts_seen known) (fact ∷ []));
      } in
      kept_later nodes surroundings (facts_seen known) (facts_seen known ++ fact ∷ []) (handle + 1) statements come kept
