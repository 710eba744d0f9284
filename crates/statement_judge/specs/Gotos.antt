-- `goto`s as they are kept, and the lists of those that were read for which they stand, the last one first.
use Rattle.std.specs.Prelude.{◌≡◌, ℕ, ◌<◌, Bool, false, nat_eq, List, [], ◌∷◌, Option, Some, None, IfSome, slice_get}
use Rattle.sparse_model.specs.declared.ids.NameId.{NameId}
use Rattle.indexmap.specs.IndexMap.{get}
use Rattle.meaning_statements.specs.Jumps.{SeenGoto}
use Rattle.node_facts.specs.Facts.{name_seen}
use Rattle.statement_judge.specs.declared.gotos.Gotos.{Gotos}
use Rattle.statement_judge.specs.declared.gotos.KeptGoto.{KeptGoto}

-- where these are the statement expressions around each node
abbrev pub goto_seen : (around : ℕ → List ℕ) → (owner handle token : ℕ) → NameId → SeenGoto
goto_seen around owner handle token name = record { handle = handle; token = token; name = name_seen name; owner = owner; within = around handle }

abbrev pub kept_seen : (around : ℕ → List ℕ) → (owner : ℕ) → KeptGoto → SeenGoto
kept_seen around owner goto = goto_seen around owner goto.handle goto.token goto.name

-- From the one with this number, if there is one, on to those before it in their function: they are those of this function among these.
pub data IsChain (around : ℕ → List ℕ) (kept : List KeptGoto) (owner : ℕ) : Option ℕ → List SeenGoto → Type 0 where
  ends : IsChain around kept owner None []
  passes : {number : Option ℕ} (goto : SeenGoto) (gotos : List SeenGoto) → nat_eq goto.owner owner ≡ false → IsChain around kept owner number gotos
      → IsChain around kept owner number (goto ∷ gotos)
  links : (number : ℕ) (goto : KeptGoto) (gotos : List SeenGoto) → slice_get kept number ≡ Some goto → IfSome goto.before (λ before. before < number)
      → IsChain around kept owner goto.before gotos → IsChain around kept owner (Some number) (kept_seen around owner goto ∷ gotos)

-- how the map compares its keys
abbrev pub same_owner : ℕ → ℕ → Bool
same_owner owner other = nat_eq owner other

-- each function has its own
abbrev pub StandsForGotos : (around : ℕ → List ℕ) → Gotos → List SeenGoto → Type 0
StandsForGotos around kept gotos = (owner : ℕ) → IsChain around kept.gotos.items owner (get same_owner kept.last owner) gotos
