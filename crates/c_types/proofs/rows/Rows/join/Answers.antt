-- The shape stands among the rows, or joins them at their end.
use Rattle.std.proofs.Common.{◌≡◌, [], ◌∷◌, ◌++◌, Some, length, slice_get, sym, ap, ◌∙◌}
use Rattle.indexmap.proofs.CallerLemmas.{insert_entry-new}
use Rattle.c_types.specs.Rows.{AreRows, Grows, type_seen, types_of}
use Rattle.c_types.proofs.Keys.{shape_eq, same_key, key_again}
use Rattle.c_types.proofs.Finding.{find-stands, joined, none_from}
use Rattle.c_types.proofs.rows.Rows.join.Goals as goal

pub returns-in-Some-clause-stands : goal.returns-in-Some-clause-stands
returns-in-Some-clause-stands c =
    find-stands c.args.self.now.rows.entries c.requires.rows c.args.shape (shape_eq c.args.shape) (same_key c.args.shape) c.in-Some.index (sym c.in-Some.ensures.index)

-- the shape was not there, so it is the last one now
grown : (c : goal.After-unwrap) → c.insert.new.self.entries ≡ c.args.self.now.rows.entries ++ (c.args.shape, record { bare = c.args.reduced.bare; plain = c.args.reduced.plain; elements = c.elements_of.result }) ∷ []
grown c =
    let inserted = rw c.unwrap.ensures at c.insert.ensures.entries in
    inserted ∙ insert_entry-new shape_eq c.args.self.now.rows c.args.shape (record { bare = c.args.reduced.bare; plain = c.args.reduced.plain; elements = c.elements_of.result }) (none_from _ c.in_default.ensures.found)

all : (c : goal.After-unwrap)
    → AreRows c.insert.new.self.entries × Grows c.args.self.now.rows.entries c.insert.new.self.entries
    × (slice_get (types_of c.insert.new.self.entries) (length c.args.self.now.rows.entries) ≡ Some (type_seen (types_of c.args.self.now.rows.entries) c.args.shape))
all c =
    joined c.args.self.now.rows.entries c.insert.new.self.entries c.requires.rows c.args.shape c.args.reduced c.elements_of.result c.requires.may c.requires.right c.elements_of.ensures
    (shape_eq c.args.shape) (key_again c.args.shape) c.in_default.ensures.found c.requires.few (grown c)

pub returns-clause-stands : goal.returns-clause-stands
returns-clause-stands c = ap (slice_get (types_of c.insert.new.self.entries)) c.len-index.ensures.len ∙ (all c).2

pub returns-clause-rows : goal.returns-clause-rows
returns-clause-rows c = (all c).0

pub returns-clause-grows : goal.returns-clause-grows
returns-clause-grows c = (all c).1
