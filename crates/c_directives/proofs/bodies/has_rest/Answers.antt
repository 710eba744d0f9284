use Rattle.std.specs.Str.{bytes_eq}
use Rattle.meaning_preprocessing.specs.DefinitionLines.{rest_name}
use Rattle.c_tokens.specs.Seen.{IsKnown, text_of}
use Rattle.c_directives.proofs.FrontLemmas.{all_behind, any_behind}
use Rattle.c_directives.proofs.bodies.has_rest.Goals as goal

pub loop-name-preserved : goal.loop-name-preserved
loop-name-preserved c =
    record {
      same = any_behind (text_of c.args.names.now) (bytes_eq rest_name) c.loop-name.left.now c.in-Some.others.now c.in-Some.name.now c.is_rest.result _
          c.in-Some.ensures.cases.0 c.is_rest.ensures c.if-is_rest.false c.loop-name.invariant.same;
      known = all_behind (IsKnown c.args.names.now) c.loop-name.left.now c.in-Some.others.now c.in-Some.name.now c.in-Some.ensures.cases.0 c.loop-name.invariant.known;
    }
