-- How a context is seen.
use Rattle.meaning_text.specs.Tokens as tokens
use Rattle.c_tokens.specs.declared.context.Context.{Context}
use Rattle.c_tokens.specs.declared.context.Context.TheVariants.{LineStart, BehindHash, BehindInclude, Elsewhere}

abbrev pub context_of : Context → tokens.Context
context_of LineStart = tokens.AtLineStart
context_of BehindHash = tokens.BehindHash
context_of BehindInclude = tokens.BehindInclude
context_of Elsewhere = tokens.Elsewhere
