use Rattle.std.proofs.Common.{false, ◌++◌, refl}
use Rattle.meaning_text.specs.Kinds.{kind_in}
use Rattle.meaning_macros.proofs.PlainTokens.{paste-kind}
use Rattle.meaning_macros.proofs.expansion.tokens_join_as_spelled.Goals as goal

pub returns : goal.returns
returns c = λ left right. paste-kind left right (kind_in false (left.token.text ++ right.token.text)) refl
