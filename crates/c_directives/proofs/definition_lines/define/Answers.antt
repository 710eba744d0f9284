use Rattle.std.proofs.lemmas.List.Elements.{All-weaker}
use Rattle.c_tokens.specs.declared.token.Token.{Token}
use Rattle.c_tokens.specs.Seen.{IsKnown}
use Rattle.c_tokens.proofs.SeenLemmas.{IsKnown-Extends}
use Rattle.c_directives.proofs.definition_lines.define.Goals as goal

pub turn_define-requires-clause-known : goal.turn_define-requires-clause-known
turn_define-requires-clause-known c =
    All-weaker (λ (token : Token). IsKnown c.args.names.now token.name) (λ (token : Token). IsKnown c.new.new.names token.name)
    (λ token. IsKnown-Extends c.args.names.now c.new.new.names c.new.ensures.keeps token.name) c.args.line.now c.requires.known

pub returns-clause-knows : goal.returns-clause-knows
returns-clause-knows c = λ knows.
    c.turn_define.ensures.knows (c.known_tables_stay_known.ensures c.args.names.now c.new.new.names c.args.macros.now c.new.ensures.keeps knows)
