use Rattle.workbench.proofs.definitions.take_define.Goals as goal

pub returns : goal.returns
returns c = record {
  known = c.define.ensures.knows (c.known_tables_stay_known.ensures c.args.names.now c.tokens_of.new.names c.args.table.now c.tokens_of.ensures.keeps c.requires.known);
}
