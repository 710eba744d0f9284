use Rattle.std.proofs.Common.{sym, ap, ◌∙◌}
use Rattle.vocabulary.specs.declared.role.Role.TheVariants.{TypePart}
use Rattle.meaning_tree.specs.Trees.{SyntaxTree}
use Rattle.meaning_derivation.specs.Shapes.{shaped_tree}
use Rattle.meaning_derivation.specs.State.{Goes, made_list}
use Rattle.parse_state.specs.Seen.{state_of}
use Rattle.parse_state.specs.Sources.{row_shape}
use Rattle.parse_state.specs.Steps.{IsToldBy}
use Rattle.c_decl.proofs.Listing.{listed, listed_covers, listed_told, passed_on}
use Rattle.c_decl.proofs.declarators.make_listed.Goals as goal

pub collect-requires : goal.collect-requires
collect-requires c = record {
  covers = listed_covers (state_of c.args.state.now) (state_of c.make_row.new.self) c.args.row.now.takes
      (shaped_tree (row_shape c.args.row.now) (state_of c.args.state.now).values) c.in_ok-make_row.ensures.goes;
}

pub returns-clause-goes : goal.returns-clause-goes
returns-clause-goes c =
    listed (state_of c.args.state.now) (state_of c.make_row.new.self) c.args.row.now.takes
    (shaped_tree (row_shape c.args.row.now) (state_of c.args.state.now).values) c.in_ok-make_row.ensures.goes
    ∙ ap Goes (sym c.in_ok-collect.ensures.list)

pub returns-in_err-make_row-clause-told : goal.returns-in_err-make_row-clause-told
returns-in_err-make_row-clause-told c =
    let tree : SyntaxTree = shaped_tree (row_shape c.args.row.now) (state_of c.args.state.now).values in
    passed_on (IsToldBy (made_list (state_of c.args.state.now) c.args.row.now.takes TypePart tree)) _ c.from_residual.result c.from_residual.ensures.1
    (listed_told (state_of c.args.state.now) c.args.row.now.takes tree _ c.in_err-make_row.ensures.told)
