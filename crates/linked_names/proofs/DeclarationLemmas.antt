-- What is kept of a name is right once one more declaration has joined.
use Rattle.std.proofs.Common.{◌≡◌, List, [], ◌∷◌, ◌++◌, slice_get, Option, Some, None, IfSome, option_map, unwrap_or, refl, sym, ap, ◌∙◌, subst}
use Rattle.std.proofs.lemmas.Option.{none-some, same_Some}
use Rattle.sparse_model.specs.declared.ids.TypeId.{TypeId}
use Rattle.meaning_types.specs.Types.{TypeTree}
use Rattle.meaning_types.specs.Composite.{composite}
use Rattle.meaning_typing.specs.Names.{type_or, with_lengths}
use Rattle.c_types.specs.Table.{TypeTable, Extends, IsTypeId, type_at}
use Rattle.linked_names.specs.Linked.{shared_type}
use Rattle.linked_names.specs.Witnesses.{no_witnesses, witnesses_with}
use Rattle.linked_names.specs.Kept.{AreDeclarations, AreIds}
use Rattle.linked_names.specs.declared.declarations.Declarations.{Declarations}
use Rattle.linked_names.proofs.GrowthLemmas.{id-later, type-later}
use Rattle.linked_names.proofs.KeptLemmas.{witness_ids-later, witnesses-later}
use Rattle.linked_names.proofs.JoinLemmas.{first-with, none-known, none-told, with-known, with-told}

-- The type of what is declared

lengths-more : (first : TypeTree) (types : List TypeTree) (next : TypeTree) → with_lengths first (types ++ next ∷ []) ≡ type_or (with_lengths first types) (composite (with_lengths first types) next)
lengths-more first [] next = refl
lengths-more first (type_ ∷ types) next = lengths-more (type_or first (composite first type_)) types next

shared-more : (types : List TypeTree) (shared next : TypeTree) → shared_type types ≡ Some shared → shared_type (types ++ next ∷ []) ≡ Some (type_or shared (composite shared next))
shared-more [] shared next is = absurd (none-some shared is)
shared-more (first ∷ types) shared next is =
    ap Some (lengths-more first types next ∙ ap (λ (before : TypeTree). type_or before (composite before next)) (same_Some _ _ is))

shared-found : (table : TypeTable) (shared : TypeId) (found : Option TypeId) → type_at table (unwrap_or found shared) ≡ type_or (type_at table shared) (option_map (type_at table) found)
shared-found table shared None = refl
shared-found table shared (Some found) = refl

-- the first stays the first
first-more : (types : List TypeTree) (first next : TypeTree) → slice_get types 0 ≡ Some first → slice_get (types ++ next ∷ []) 0 ≡ Some first
first-more [] first next is = absurd (none-some first is)
first-more (type_ ∷ types) first next is = is

-- the first declaration
module _ (table : TypeTable) (of : TypeId) where
  pub alone-kept : AreDeclarations table (type_at table of ∷ []) (record { shared = of; witnesses = witnesses_with table (no_witnesses of) of })
  alone-kept =
      record {
        first = ap (λ (first : TypeId). Some (type_at table first)) (sym (first-with table (no_witnesses of) of));
        shared = refl;
        witnesses = with-told table [] (no_witnesses of) (none-told table of) of;
      }

  pub alone-known : IsTypeId table of → AreIds table (record { shared = of; witnesses = witnesses_with table (no_witnesses of) of })
  alone-known known = record { shared = known; witnesses = with-known table (no_witnesses of) (none-known table of known) of known }

-- a later one
module _ (old new : TypeTable) (extends : Extends old new) (declarations : Declarations) (ids : AreIds old declarations) (of : TypeId) (known : IsTypeId old of) (found : Option TypeId) where
  abbrev more : Declarations
  more = record { shared = unwrap_or found declarations.shared; witnesses = witnesses_with old declarations.witnesses of }

  pub more-kept : option_map (type_at new) found ≡ composite (type_at old declarations.shared) (type_at old of) → (types : List TypeTree) → AreDeclarations old types declarations
      → AreDeclarations new (types ++ type_at new of ∷ []) more
  more-kept is_found types are =
      let next : type_at new of ≡ type_at old of = type-later old new extends of known in
      let ids_more = with-known old declarations.witnesses ids.witnesses of known in
      subst (λ (type_ : TypeTree). AreDeclarations new (types ++ type_ ∷ []) more) (sym next)
      (record {
        first =
            first-more types _ (type_at old of) are.first
            ∙ ap (λ (first : TypeId). Some (type_at old first)) (sym (first-with old declarations.witnesses of))
            ∙ ap Some (sym (type-later old new extends more.witnesses.first ids_more.first));
        shared =
            shared-more types _ (type_at old of) are.shared
            ∙ ap Some
            ((λ i. type_or (sym (type-later old new extends declarations.shared ids.shared) i) (sym is_found i)) ∙ sym (shared-found new declarations.shared found));
        witnesses =
            witnesses-later old new extends (types ++ type_at old of ∷ []) more.witnesses ids_more
            (with-told old types declarations.witnesses are.witnesses of);
      })

  pub more-known : IfSome found (IsTypeId new) → AreIds new more
  more-known is =
      record {
        shared = by found is;
        witnesses = witness_ids-later old new extends more.witnesses (with-known old declarations.witnesses ids.witnesses of known);
      }
    where
      by : (found : Option TypeId) → IfSome found (IsTypeId new) → IsTypeId new (unwrap_or found declarations.shared)
      by None is = id-later old new extends declarations.shared ids.shared
      by (Some id) is = is
