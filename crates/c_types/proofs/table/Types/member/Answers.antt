-- What is kept names what the bodies name.
use Rattle.std.proofs.Common.{◌≡◌, IfSome, option_map, ◌∙◌, subst}
use Rattle.c_types.specs.Members.{found_seen, member_in}
use Rattle.c_types.specs.Rows.{types_of}
use Rattle.c_types.specs.Table.{IsTypeId, types_in}
use Rattle.c_types.proofs.table.Types.member.Goals as goal

pub returns-clause-member : goal.returns-clause-member
returns-clause-member c =
    subst (λ table. option_map (found_seen (types_in table)) c.find.result ≡ member_in table c.args.aggregate c.args.name) c.self.view_is
    (c.find.ensures.seen (types_of c.self.inside.maker.rows.rows.entries) ∙ c.self.invariant.members_right c.args.aggregate c.args.name)

pub returns-clause-known : goal.returns-clause-known
returns-clause-known c =
    subst (λ table. IfSome c.find.result (λ found. IsTypeId table found.of)) c.self.view_is
    (c.find.ensures.known (types_of c.self.inside.maker.rows.rows.entries) c.self.invariant.members_kept)
