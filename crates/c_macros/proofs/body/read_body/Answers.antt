use Rattle.std.proofs.Common.{◌≡◌, Some, length, map, ap, ◌∙◌, arith}
use Rattle.meaning_macros.specs.Bodies.{chains}
use Rattle.meaning_macros.specs.Macros.{without_first_space}
use Rattle.c_macros.specs.Operands.{grouped, part_by, piece_by}
use Rattle.c_macros.specs.Parameters.{params_in}
use Rattle.c_macros.specs.Seen.{KeepsApart, Spelling, macro_by, token_by}
use Rattle.c_macros.specs.Uses.{use_in}
use Rattle.c_macros.proofs.BodyLemmas.{chains_read}
use Rattle.c_macros.proofs.body.read_body.Goals as goal

pub returns : goal.returns
returns c =
    let m = c.args.m.now in
    let names_are : c.in_ok-parameters.parameters ≡ params_in m.params = c.in_ok-parameters.ensures.same ∙ c.parameters.ensures in
    let operands_are : (s : Spelling) → KeepsApart s → grouped (map (part_by s) c.in_ok-parts.parts.items) ≡ chains (macro_by s m) = λ s apart.
    c.in_ok-parts.ensures.chains s
    ∙ chains_read s m c.in_ok-parameters.parameters c.len-count.result c.as_slice-2.result.now c.as_slice-3.result.now names_are c.len-count.ensures
    (ap (map (token_by s)) c.as_slice-2.ensures.value ∙ c.in_ok-inner.ensures s ∙ ap (λ body. without_first_space (map (token_by s) body)) c.as_slice.ensures)
    (ap (map (piece_by s)) c.as_slice-3.ensures.value ∙ c.in_ok-pieces.ensures s apart) in
    record {
      operands = operands_are;
      taken = λ s apart k below.
          c.in_ok-uses.ensures s k (omega (arith, below, c.len-count.ensures, ap length names_are))
          ∙ ap (λ parts. Some (use_in k (grouped (map (part_by s) parts)))) c.as_slice-4.ensures.value
          ∙ ap (λ found. Some (use_in k found)) (operands_are s apart);
    }
