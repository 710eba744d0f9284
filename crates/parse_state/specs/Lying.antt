-- Where the nodes of values lie: those of each value behind those of the value below it, with none between them.
use Rattle.std.specs.Prelude.{◌≡◌, ℕ, ◌+◌, Bool, true, false, List, [], ◌∷◌, take}
use Rattle.std.specs.List.{list_all}
use Rattle.meaning_tree.specs.Nodes.{NodeList}
use Rattle.meaning_tree.specs.Runs.{IsRun, AreRuns}
use Rattle.meaning_grammar.specs.Sorts.{Sort, AWord}
use Rattle.meaning_derivation.specs.Values.{sorts_of}
use Rattle.meaning_derivation.specs.Values as values
use Rattle.sparse_model.specs.declared.ids.NameId.{NameId}
use Rattle.parse_state.specs.declared.value.Value.{Value}
use Rattle.parse_state.specs.declared.value.Value.TheVariants.{Word, Tree}
use Rattle.parse_state.specs.declared.value.Value.TheVariants as kinds

-- the nodes from `first` up to `end`, which isn't among them, are those of these values, of which the deepest comes first
abbrev pub AreStacked : NodeList NameId → List Value → (first end : ℕ) → Type 0
AreStacked list [] first end = first ≡ end
AreStacked list (Word token name ∷ values) first end = AreStacked list values first end
AreStacked list (Tree handle ∷ values) first end = IsRun list first handle × AreStacked list values (handle + 1) end
AreStacked list (kinds.List children ∷ values) first end =
    (middle : ℕ) × AreRuns list children first middle × AreStacked list values middle end

abbrev pub is_word_sort : Sort → Bool
is_word_sort AWord = true
is_word_sort sort = false

-- so many values from the top on are words, and have no nodes
abbrev pub AreWords : List values.Value → (count : ℕ) → Type 0
AreWords values count = list_all is_word_sort (take count (sorts_of values)) ≡ true
