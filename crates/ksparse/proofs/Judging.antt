-- The reply to a unit that is parsed, by what the judge answers.
use Rattle.std.proofs.Common.{◌≡◌, ℕ, List, [], ◌++◌, map, slice_get, sym, ap, subst, refl, ◌∙◌}
use Rattle.std.proofs.lemmas.List.{map-append}
use Rattle.vocabulary.specs.declared.class.Class.{Class}
use Rattle.vocabulary.specs.declared.limit.LimitKind.{LimitKind}
use Rattle.vocabulary.specs.declared.limit.LimitKind.TheVariants as limits
use Rattle.sparse_model.specs.declared.failure.Failure.{Failure}
use Rattle.sparse_model.specs.declared.ids.NameId.{NameId}
use Rattle.meaning_operands.specs.Failures as meaning
use Rattle.meaning_rules.specs.Rules.{Judgement, BreaksConstraint, PassesObjectSize}
use Rattle.meaning_tree.specs.Nodes.{NodeList}
use Rattle.meaning_typing.specs.Surroundings.{Surrounding, AreSurroundings}
use Rattle.meaning_typing.specs.Units.{UnitNodes}
use Rattle.meaning_units.specs.WholeRules.{IsJudgement}
use Rattle.meaning_warnings.specs.Listing.{AreOrdered, IsListing}
use Rattle.meaning_warnings.specs.Places.{begins_at, path_of}
use Rattle.meaning_names.specs.Spelled.{spelled_name}
use Rattle.meaning_answer.specs.Answers.{TellsUnit}
use Rattle.meaning_answer.specs.Lines.{error_reply, limit_reply}
use Rattle.meaning_answer.specs.Reply.{Reply}
use Rattle.meaning_answer.specs.Units.{TellsJudged, ending_behind, warned_reply}
use Rattle.failure_listing.specs.Ranks.{KeepsRank}
use Rattle.failure_listing.proofs.Listings.{ordered-otherwise}
use Rattle.c_tokens.specs.Seen.{toks_of}
use Rattle.c_types.specs.Table.{TypeTable}
use Rattle.c_preproc.specs.declared.unit.UnitTokens.{UnitTokens}
use Rattle.decl_judge.specs.Units.{nodes_of}
use Rattle.expression_rows.specs.declared.row.Broken.{Broken}
use Rattle.expression_rows.specs.Rows as judge
use Rattle.context_judge.specs.Found.{found_seen}
use Rattle.node_facts.specs.Facts.{name_seen}
use Rattle.context_judge.specs.JudgeFault.TheVariants as faults
use Rattle.context_judge.specs.Judging.{IsRefusedFor}
use Rattle.context_judge.proofs.JudgingLemmas.{found-rank}
use Rattle.warn_print.specs.Seen as warn
use Rattle.warn_print.proofs.UnitLemmas.{shown-rank}
use Rattle.ksparse.specs.Judged.{IsNumberedUnit, IsWrittenTree, constraint_reply, listing_shown, unit_seen}
use Rattle.ksparse.specs.Written.{paths_of}
use Rattle.ksparse.proofs.Shown.{name-shown}

-- what is in order is so as it is shown, too
pub shown-ordered : (names : List (List ℕ)) (types : TypeTable) (failures : List Failure) → AreOrdered (found_seen types failures)
    → AreOrdered (listing_shown names types failures)
shown-ordered names types failures ordered =
    ordered-otherwise (judge.failure_seen types) (warn.failure_seen names types) (found-rank types) (shown-rank names types) failures ordered

-- what was found is listed, however it was put together
pub joined-lists :
    (types : TypeTable) (failures paths found whole : List Failure) → found ≡ failures ++ paths
    → ((seen : Failure → meaning.Failure) → KeepsRank seen → IsListing (map seen found) (map seen whole))
    → IsListing (found_seen types failures ++ found_seen types paths) (found_seen types whole)
joined-lists types failures paths found whole joined lists =
    subst (λ (these : List meaning.Failure). IsListing these (found_seen types whole))
    (ap (map (judge.failure_seen types)) joined ∙ map-append (judge.failure_seen types) failures paths)
    (lists (judge.failure_seen types) (found-rank types))

-- there is one limit that a judged unit passes
pub limit-passed : (nodes : UnitNodes) (limit : LimitKind) → IsRefusedFor nodes (faults.Limit limit)
    → IsJudgement nodes PassesObjectSize × (limit_reply limit ≡ limit_reply limits.ObjectSize)
limit-passed nodes limits.ObjectSize is = (is, refl)
limit-passed nodes limit is = absurd is

module _ (names : List (List ℕ)) (toks : UnitTokens) (classes : List Class) (reply : Reply) where
  -- the judgement of the nodes of a unit is that of the tree that its tokens derive
  abbrev TellsNodes : UnitNodes → List Surrounding → Type 0
  TellsNodes nodes surroundings =
      AreSurroundings nodes surroundings
      × ((judgement : Judgement) × IsJudgement nodes judgement × TellsJudged classes (unit_seen names toks nodes surroundings) judgement reply)

  pub unit-told : (unit : NodeList NameId) → IsWrittenTree (toks_of names toks.tokens) unit → (surroundings : List Surrounding)
      → TellsNodes (nodes_of unit) surroundings
      → TellsUnit classes (paths_of names toks.files) (toks_of names toks.tokens) (toks_of names toks.undef_tokens) reply
  unit-told unit tree surroundings told =
      (tree.0, surroundings, tree.1, subst (λ (nodes : UnitNodes). TellsNodes nodes surroundings) tree.2 told)

  -- the line of a constraint names what the judge names
  pub constraint-told : IsNumberedUnit names toks → (nodes : UnitNodes) (surroundings : List Surrounding) (broken : Broken)
      → reply ≡ constraint_reply names toks broken
      → TellsJudged classes (unit_seen names toks nodes surroundings) (BreaksConstraint (judge.broken_seen broken)) reply
  constraint-told numbered nodes surroundings broken is =
      let at = begins_at (slice_get (toks_of names toks.tokens) broken.token) in
      is
      ∙ ap (λ (word : List ℕ). error_reply broken.constraint (path_of (paths_of names toks.files) at.file) at word)
      (sym (name-shown names numbered.empty broken.name)
      ∙ ap (λ (spellings : List (List ℕ)). spelled_name spellings (name_seen broken.name)) numbered.table)

-- The reply that warns

pub warned-so : (reply : Reply) (text : List ℕ) → reply.out ≡ [] → reply.err ≡ text → reply.ending ≡ ending_behind reply.err → reply ≡ warned_reply text
warned-so reply text out err ending =
    let behind = ending ∙ ap ending_behind err in
    λ i. record { out = out i; err = err i; ending = behind i }
