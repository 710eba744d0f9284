-- What is written of the tokens of a unit.
use Rattle.std.specs.Prelude.{◌≡◌, ◌⊎◌, ℕ, List}
use Rattle.meaning_tree.specs.Nodes.{NodeList}
use Rattle.meaning_answer.specs.Answers.{TellsRefusal}
use Rattle.meaning_answer.specs.Reply.{Reply}
use Rattle.sparse_model.specs.declared.ids.NameId.{NameId}
use Rattle.c_tokens.specs.Seen.{toks_of}
use Rattle.c_preproc.specs.declared.unit.UnitTokens.{UnitTokens}
use Rattle.parse_state.specs.Finished.{spelled}
use Rattle.c_parse.specs.Answers.{DerivesUnit}
use Rattle.ksparse.specs.Written.{paths_of}
use Rattle.unit_commands.specs.Replies.{shown_reply}
use Rattle.unit_commands.specs.TreeLines.{ShownUnit}
use Rattle.unit_commands.specs.Walk.{tree_text}
use Rattle.unit_commands.specs.declared.source.Source.{Source}

-- a source, as the definitions see it
abbrev pub source_seen : Source → ShownUnit
source_seen source = record { names = source.names.now; tokens = source.tokens.now; list = source.unit.now }

-- these nodes, as a reply
abbrev pub tree_reply : List (List ℕ) → UnitTokens → NodeList NameId → Reply
tree_reply names toks list = shown_reply (tree_text (record { names = names; tokens = toks.tokens; list = list }))

-- nodes that stand for the tree that the tokens derive
abbrev pub ShowsTree : List (List ℕ) → UnitTokens → Reply → Type 0
ShowsTree names toks reply =
    (list : NodeList NameId) × DerivesUnit (toks_of names toks.tokens) (spelled names list) × (reply ≡ tree_reply names toks list)

-- those, or the line of a refusal
abbrev pub IsTreeReply : List (List ℕ) → UnitTokens → Reply → Type 0
IsTreeReply names toks reply = ShowsTree names toks reply ⊎ TellsRefusal (paths_of names toks.files) (toks_of names toks.tokens) reply
