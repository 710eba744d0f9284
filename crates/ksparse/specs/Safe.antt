-- What silence means: no run of the unit that the words name meets a fault, where that is a unit of the first form.
use Rattle.std.specs.Prelude.{◌≡◌, ℕ, List}
use Rattle.vocabulary.specs.declared.class.Class.{Class}
use Rattle.meaning_outside.specs.Files.{FileMap}
use Rattle.meaning_outside.specs.Loads.{Loaded, AgreesWith}
use Rattle.meaning_text.specs.Tokens.{Tok}
use Rattle.meaning_tree.specs.Trees.{SyntaxTree}
use Rattle.meaning_derivation.specs.Actions.{act}
use Rattle.meaning_derivation.specs.Units.{DerivesTree}
use Rattle.meaning_preprocessing.specs.Unit.{Ends, PreprocessedUnit, IsPreprocessedUnit}
use Rattle.meaning_answer.specs.Reply.{Ending, Clean}
use Rattle.meaning_answer.specs.Requests.{Request, BadWord, MissingFile, Check, Expand, request_of}
use Rattle.meaning_safety.specs.Safe.{AreSafeTokens}

-- Preprocessing comes to its end, its tokens derive a tree, by the whole grammar; and they are safe.
pub record IsSafeUnit (classes : List Class) (unit : PreprocessedUnit) : Type 0 where
  pub ends : (undefined : List Tok) × (paths : List (List ℕ)) × (unit.end ≡ Ends undefined paths)
  pub parsed : (tree : SyntaxTree) × DerivesTree act unit.tokens tree
  pub safe : AreSafeTokens classes unit.tokens

-- The words ask to check a safe unit. The question for tokens promises nothing of runs.
abbrev pub NamesSafeUnit : Request → FileMap → Type 0
NamesSafeUnit (BadWord position word) files = ⊥
NamesSafeUnit MissingFile files = ⊥
NamesSafeUnit (Check options path) files =
    (unit : PreprocessedUnit) × IsPreprocessedUnit options.preprocessing files path unit × IsSafeUnit options.classes unit
NamesSafeUnit (Expand options path) files = Unit {0}

-- A clean ending says so, in each map that agrees with the loads.
abbrev pub IsSafeIfClean : List (List ℕ) → List Loaded → Ending → Type 0
IsSafeIfClean words loads ending = ending ≡ Clean → (files : FileMap) → AgreesWith files loads → NamesSafeUnit (request_of words) files
