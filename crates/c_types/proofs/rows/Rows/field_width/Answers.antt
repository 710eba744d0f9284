-- A type of integers has a kind, and another one has none.
use Rattle.c_types.specs.Rows.{type_numbered, types_of}
use Rattle.c_types.proofs.MemberLemmas.{field-no_kind, field-some_kind}
use Rattle.c_types.proofs.rows.Rows.field_width.Goals as goal

pub returns-in-Some : goal.returns-in-Some
returns-in-Some c = field-some_kind (type_numbered (types_of c.args.self.now.rows.entries) c.args.number) c.in-Some.field-0 c.args.width c.in-Some.ensures

pub returns-in-None : goal.returns-in-None
returns-in-None c = field-no_kind (type_numbered (types_of c.args.self.now.rows.entries) c.args.number) c.args.width c.in-None.ensures
