use Rattle.std.proofs.Common.{◌≡◌, List}
use Rattle.meaning_attributes.specs.Pieces.{comma_pieces}
use Rattle.meaning_attributes.specs.Attributes.{FunctionContext}
use Rattle.meaning_attributes.specs.Reading.{with_items}
use Rattle.c_tokens.specs.Seen.{toks_of}
use Rattle.c_attrs.specs.Seen.{attrs_seen}
use Rattle.c_attrs.specs.Cuts.{pieces_in, size_left}
use Rattle.c_attrs.specs.Parts.{replacing_contexts}
use Rattle.c_attrs.proofs.list.set_others.Given as goal

-- what is left makes of these attributes what all makes of the first ones
abbrev pub invariant-items : goal.invariant-items
invariant-items l =
    record {
      same : (contexts : List FunctionContext) → replacing_contexts (with_items (attrs_seen l.names l.attrs) (pieces_in l.names l.left)) contexts
          ≡ replacing_contexts (with_items (attrs_seen l.names l.fn.attrs) (comma_pieces (toks_of l.names l.toks))) contexts;
      kept : l.attrs.contexts ≡ l.fn.attrs.contexts;
    }

abbrev pub decreases-items : goal.decreases-items
decreases-items l = size_left l.left
