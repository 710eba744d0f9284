-- A unit whose names are numbered, and its judgement, as they are told.
use Rattle.std.specs.Prelude.{◌≡◌, ℕ, List, [], map, Some, slice_get}
use Rattle.meaning_text.specs.Tokens.{Tok}
use Rattle.meaning_tree.specs.Trees.{SyntaxTree}
use Rattle.meaning_tree.specs.Nodes.{NodeList}
use Rattle.meaning_derivation.specs.Actions.{act}
use Rattle.meaning_derivation.specs.Units.{DerivesTree}
use Rattle.meaning_operands.specs.Failures as meaning
use Rattle.meaning_typing.specs.Surroundings.{Surrounding}
use Rattle.meaning_typing.specs.Units.{UnitNodes}
use Rattle.meaning_unit_nodes.specs.Numbered.{spellings_told, unit_nodes}
use Rattle.meaning_warnings.specs.Places.{ShownUnit, begins_at, path_of}
use Rattle.meaning_answer.specs.Lines.{error_reply}
use Rattle.meaning_answer.specs.Reply.{Reply}
use Rattle.meaning_answer.specs.Units.{ParsedUnit, spellings_in}
use Rattle.sparse_model.specs.declared.failure.Failure.{Failure}
use Rattle.sparse_model.specs.declared.ids.NameId.{NameId}
use Rattle.c_tokens.specs.Seen.{Extends, text_of, toks_of}
use Rattle.c_types.specs.Table.{TypeTable}
use Rattle.c_preproc.specs.Units.{IsKnownUnit, failures_from}
use Rattle.c_preproc.specs.declared.unit.UnitTokens.{UnitTokens}
use Rattle.decl_judge.specs.Units.{nodes_of}
use Rattle.expression_rows.specs.declared.row.Broken.{Broken}
use Rattle.warn_print.specs.Seen.{failure_seen, identity_in, tag_in}
use Rattle.ksparse.specs.Written.{paths_of}

-- a unit with these nodes, as the answer knows it
abbrev pub unit_seen : List (List ℕ) → UnitTokens → UnitNodes → List Surrounding → ParsedUnit
unit_seen names toks nodes surroundings =
    record {
      files = paths_of names toks.files;
      tokens = toks_of names toks.tokens;
      undefined = toks_of names toks.undef_tokens;
      nodes = nodes;
      surroundings = surroundings;
    }

-- The table has the spellings of the unit in the order in which they are told, and the identifiers that were left in `#if` have their
-- failures.
pub record IsNumberedUnit (names : List (List ℕ)) (toks : UnitTokens) : Type 0 where
  pub known : IsKnownUnit names toks
  pub undefs : toks.undefs ≡ failures_from 0 toks.undef_tokens
  pub table : names ≡ spellings_in (unit_seen names toks [] [])
  pub begins : Extends (spellings_told (toks_of names toks.tokens)) names
  pub empty : slice_get names 0 ≡ Some []

-- these are the nodes of a tree that the tokens derive, as they are written
abbrev pub IsWrittenTree : List Tok → NodeList NameId → Type 0
IsWrittenTree tokens unit = (tree : SyntaxTree) × DerivesTree act tokens tree × (nodes_of unit ≡ unit_nodes tokens tree)

-- What is written

-- the line of the constraint that it breaks
abbrev pub constraint_reply : List (List ℕ) → UnitTokens → Broken → Reply
constraint_reply names toks broken =
    let at = begins_at (slice_get (toks_of names toks.tokens) broken.token) in
    error_reply broken.constraint (path_of (paths_of names toks.files) at.file) at (text_of names broken.name)

-- the unit as its texts need it, over these types
abbrev pub shown_over : List (List ℕ) → UnitTokens → TypeTable → ShownUnit
shown_over names toks types =
    record {
      files = map (text_of names) toks.files;
      tokens = toks_of names toks.tokens;
      undefined = map (failure_seen names types) toks.undefs;
      undefined_tokens = toks_of names toks.undef_tokens;
      tags = tag_in names types;
      identities = identity_in names types;
    }

-- these failures, as they are shown over these types
abbrev pub listing_shown : List (List ℕ) → TypeTable → List Failure → List meaning.Failure
listing_shown names types failures = map (failure_seen names types) failures
