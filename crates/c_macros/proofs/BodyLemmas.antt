-- What is read of a body, step by step, is what the definitions say of its macro.
use Rattle.std.proofs.Common.{◌≡◌, ℕ, List, Option, None, Some, length, map, refl, sym, ap, ◌∙◌}
use Rattle.std.proofs.lemmas.List.{length-map}
use Rattle.meaning_macros.specs.Bodies.{chains, chains_of, pieces_of, with_rests}
use Rattle.meaning_macros.specs.Macros.{names_in, parameters_of, without_first_space}
use Rattle.sparse_model.specs.declared.ids.NameId.{NameId}
use Rattle.c_tokens.specs.declared.token.Token.{Token}
use Rattle.c_macros.specs.declared.definition.Macro.{Macro}
use Rattle.c_macros.specs.declared.operand.Piece.{Piece}
use Rattle.c_macros.specs.Operands.{piece_by}
use Rattle.c_macros.specs.Parameters.{params_in}
use Rattle.c_macros.specs.Seen.{Spelling, macro_by, params_by, token_by}

-- the names in a parameter list, spelled
pub params_in-by : (s : Spelling) (params : Option (List NameId)) → map s (params_in params) ≡ names_in (params_by s params)
params_in-by s None = refl
params_in-by s (Some names) = refl

-- the chains that are read are those of the macro
pub chains_read : (s : Spelling) (m : Macro) (names : List NameId) (count : ℕ) (inner : List Token) (pieces : List Piece)
    → names ≡ params_in m.params → count ≡ length names
    → map (token_by s) inner ≡ without_first_space (map (token_by s) m.body)
    → map (piece_by s) pieces ≡ pieces_of (map s names) (map (token_by s) inner)
    → chains_of (with_rests m.variadic count (map (piece_by s) pieces)) ≡ chains (macro_by s m)
chains_read s m names count inner pieces names_are count_is inner_is pieces_are =
    let spelled : map s names ≡ parameters_of (macro_by s m) = ap (map s) names_are ∙ params_in-by s m.params in
    let counted : count ≡ length (parameters_of (macro_by s m)) = count_is ∙ sym (length-map names s) ∙ ap length spelled in
    λ i. chains_of (with_rests m.variadic (counted i) ((pieces_are ∙ (λ j. pieces_of (spelled j) (inner_is j))) i))
