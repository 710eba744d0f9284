-- What is answered of nodes, over a table of types that grows, and of one node more.
use Rattle.std.proofs.Common.{◌≡◌, ℕ, zero, suc, ◌+◌, ◌<◌, Bool, true, false, List, [], ◌∷◌, ◌++◌, get_or, length, sym, ap, ap₂, subst, ◌∙◌, arith, append-nil, length-append}
use Rattle.sparse_model.specs.declared.ids.NameId.{NameId}
use Rattle.meaning_typing.specs.Facts.{Fact}
use Rattle.meaning_typing.specs.Rows.{Row}
use Rattle.meaning_typing.specs.Surroundings.{Surrounding}
use Rattle.meaning_typing.specs.Units.{UnitNodes, kind_at}
use Rattle.meaning_typing.specs.WholeTyping.{first_whole_facts, whole_row_at}
use Rattle.c_types.specs.declared.bodies.Named.{Named}
use Rattle.c_types.specs.Table.{TypeTable, Extends, types_in}
use Rattle.node_judge.specs.declared.known.Known.{Known}
use Rattle.node_judge.specs.Known.{IsKnownOf, facts_seen, table_of}
use Rattle.node_judge.specs.NamedTypes.{renamed}
use Rattle.unit_commands.specs.Known.{IsFirstKnown, StaysFirst, next_row}
use Rattle.node_judge.proofs.KnownLemmas.{id_told, node_told}
use Rattle.unit_commands.specs.declared.answers.Answer.{Answer}
use Rattle.unit_commands.specs.declared.answers.Answer.TheVariants as answers
use Rattle.unit_commands.specs.Answers.{AreAnswers, AreKnownAnswers, IsAnswer, IsAnswerBy, IsAnswerIf, IsKnownAnswer, nothing}
use Rattle.unit_commands.specs.Asked.{is_asked}

-- Lists of which each entry is as its place says

abbrev Each : {X : Type 0} → (ℕ → X → Type 0) → X → List X → Type 0
Each P otherwise list = (index : ℕ) → index < length list → P index (get_or list index otherwise)

each_more : {X : Type 0} (P : ℕ → X → Type 0) (otherwise : X) (list : List X) (last : X) → Each P otherwise list → P (length list) last
    → Each P otherwise (list ++ last ∷ [])
each_more P otherwise [] last each is zero within = is
each_more P otherwise [] last each is (suc index) within = absurd (omega (arith, within))
each_more P otherwise (first ∷ list) last each is zero within = each 0 (omega arith)
each_more P otherwise (first ∷ list) last each is (suc index) within =
    each_more (λ at. P (suc at)) otherwise list last (λ at before. each (suc at) (omega (arith, before))) is index (omega (arith, within))

each_or : {X : Type 0} (P : ℕ → X → Type 0) (Q : X → Type 0) (otherwise : X) (list : List X) → Q otherwise → ((index : ℕ) (one : X) → P index one → Q one)
    → Each P otherwise list → (index : ℕ) → Q (get_or list index otherwise)
each_or P Q otherwise [] none so each index = none
each_or P Q otherwise (first ∷ list) none so each zero = so 0 first (each 0 (omega arith))
each_or P Q otherwise (first ∷ list) none so each (suc index) =
    each_or (λ at. P (suc at)) Q otherwise list none (λ at. so (suc at)) (λ at before. each (suc at) (omega (arith, before))) index

-- A table that grows

module _ (old new : TypeTable) (extends : Extends old new) where
  answer_later : (row : Row) (answer : Answer) → IsAnswerBy old row answer → IsAnswerBy new row answer
  answer_later row (answers.Known fact) is =
      record { unbroken = is.unbroken; fact = node_told old new extends fact is.ids ∙ is.fact; ids = id_told old new extends fact is.ids }
  answer_later row (answers.Breaks broken) is = is

  answer_if_later : (asked : Bool) (row : Row) (answer : Answer) → IsAnswerIf asked old row answer → IsAnswerIf asked new row answer
  answer_if_later true row answer is = answer_later row answer is
  answer_if_later false row answer is = is

  answers_later : (nodes : UnitNodes) (surroundings : List Surrounding) (list : List Answer) → AreAnswers nodes surroundings old list
      → AreAnswers nodes surroundings new list
  answers_later nodes surroundings list are handle within =
      answer_if_later (is_asked (kind_at nodes handle)) (next_row nodes surroundings handle) (get_or list handle nothing) (are handle within)

-- names are told where there was none
names_extend : (table : TypeTable) (names : List (Named × NameId)) → table.names ≡ [] → Extends table (renamed table names)
names_extend table names none =
    record {
      types = ([], sym (append-nil (types_in table)));
      bodies = ([], sym (append-nil table.bodies));
      names = (names, ap (λ (told : List (Named × NameId)). told ++ names) (sym none));
    }

pub answers_named :
    (old new : TypeTable) (names : List (Named × NameId)) → old.names ≡ [] → new ≡ renamed old names
    → (nodes : UnitNodes) (surroundings : List Surrounding) (list : List Answer) → AreAnswers nodes surroundings old list → AreAnswers nodes surroundings new list
answers_named old new names none named nodes surroundings list are =
    subst (λ (table : TypeTable). AreAnswers nodes surroundings table list) (sym named)
    (answers_later old (renamed old names) (names_extend old names none) nodes surroundings list are)

-- all types that are told are of the table
module _ (table : TypeTable) where
  answer_known : (row : Row) (answer : Answer) → IsAnswerBy table row answer → IsKnownAnswer table answer
  answer_known row (answers.Known fact) is = is.ids
  answer_known row (answers.Breaks broken) is = tt

  answer_if_known : (asked : Bool) (row : Row) (answer : Answer) → IsAnswerIf asked table row answer → IsKnownAnswer table answer
  answer_if_known true row answer is = answer_known row answer is
  answer_if_known false row answer is = subst (IsKnownAnswer table) (sym is) tt

  pub answers_known : (nodes : UnitNodes) (surroundings : List Surrounding) (list : List Answer) → AreAnswers nodes surroundings table list
      → AreKnownAnswers table list
  answers_known nodes surroundings list are =
      each_or (IsAnswer nodes surroundings table) (IsKnownAnswer table) nothing list tt
      (λ handle answer. answer_if_known (is_asked (kind_at nodes handle)) (next_row nodes surroundings handle) answer) are

-- One node more

-- this is answered of the first so many nodes, which are known then
pub record AreAnswered (nodes : UnitNodes) (surroundings : List Surrounding) (count : ℕ) (known : Known) (list : List Answer) : Type 0 where
  pub is : IsFirstKnown nodes surroundings count known
  pub all : length list ≡ count
  pub each : AreAnswers nodes surroundings (table_of known) list

pub answered_none : (nodes : UnitNodes) (surroundings : List Surrounding) (known : Known) (list : List Answer) → IsFirstKnown nodes surroundings 0 known → list ≡ []
    → AreAnswered nodes surroundings 0 known list
answered_none nodes surroundings known list is none =
    record {
      is = is;
      all = ap length none;
      each = λ handle within. absurd (omega (arith, within, ap length none));
    }

module _ (nodes : UnitNodes) (surroundings : List Surrounding) (count : ℕ) (known : Known) (list : List Answer)
    (are : AreAnswered nodes surroundings count known list) where
  pub answered_more :
      (between new : Known) (answer : Answer) (longer : List Answer) → StaysFirst nodes surroundings count known between
      → IsAnswer nodes surroundings (table_of between) count answer → longer ≡ list ++ answer ∷ []
      → IsFirstKnown nodes surroundings (suc count) new → Extends (table_of between) (table_of new) → AreAnswered nodes surroundings (suc count) new longer
  answered_more between new answer longer stays is pushed known_more extends =
      let table = table_of between in
      record {
        is = known_more;
        all = omega (arith, ap length pushed, length-append list (answer ∷ []), are.all);
        each =
            answers_later table (table_of new) extends nodes surroundings longer
            (subst (AreAnswers nodes surroundings table) (sym pushed)
            (each_more (IsAnswer nodes surroundings table) nothing list answer
            (answers_later (table_of known) table stays.types.extends nodes surroundings list are.each)
            (subst (λ at. IsAnswer nodes surroundings table at answer) (sym are.all) is)));
      }

-- What is known of the first nodes, over its own facts

module _ (nodes : UnitNodes) (surroundings : List Surrounding) (count : ℕ) (known : Known) (is : IsFirstKnown nodes surroundings count known) where
  pub over_itself : IsKnownOf nodes surroundings count (facts_seen known) known
  over_itself = subst (λ (facts : List Fact). IsKnownOf nodes surroundings count facts known) (sym is.facts) is

  pub row_over_itself : whole_row_at nodes surroundings (facts_seen known) count ≡ next_row nodes surroundings count
  row_over_itself = ap (λ (facts : List Fact). whole_row_at nodes surroundings facts count) is.facts

  pub stays_first : (new : Known) → IsKnownOf nodes surroundings count (facts_seen known) new → IsFirstKnown nodes surroundings count new
  stays_first new stays = subst (λ (facts : List Fact). IsKnownOf nodes surroundings count facts new) is.facts stays

  -- with the fact of the next row
  pub first_next : (between new : Known) (fact : Fact) → IsKnownOf nodes surroundings count (facts_seen known) between
      → fact ≡ (whole_row_at nodes surroundings (facts_seen known) count).fact
      → IsKnownOf nodes surroundings (count + 1) (facts_seen between ++ fact ∷ []) new → IsFirstKnown nodes surroundings (count + 1) new
  first_next between new fact stays told more =
      let next : suc count ≡ count + 1 = omega arith in
      let facts : facts_seen between ++ fact ∷ [] ≡ first_whole_facts nodes surroundings (suc count) =
      ap₂ (λ front last. front ++ last ∷ []) (stays.facts ∙ is.facts) (told ∙ ap (λ (row : Row). row.fact) row_over_itself) in
      subst (λ (f : List Fact). IsKnownOf nodes surroundings (count + 1) f new) (facts ∙ ap (first_whole_facts nodes surroundings) next) more
