use Rattle.c_attrs.proofs.NumberLemmas.{refused-none}
use Rattle.c_attrs.proofs.token.constant_value.Goals as goal

pub returns-in-Err : goal.returns-in-Err
returns-in-Err c =
    let told = c.in-Err.ensures in
    refused-none c.args.text.now _ told.only told.floating.0 told.bad_digit.0 told.bad_suffix.0 told.too_big.0
