-- The parts of what a list comes to: its refusal, its contexts, and the other attributes.
use Rattle.std.specs.Prelude.{List, [], ◌∷◌, ◌++◌, Option, Some, None, Result, Ok, Err, if◌then◌else◌}
use Rattle.std.specs.List.{list_any}
use Rattle.sparse_model.specs.declared.context.ContextEntry.{ContextEntry}
use Rattle.meaning_text.specs.Tokens.{Tok}
use Rattle.meaning_attributes.specs.Attributes.{Attribute, Attributes, FunctionContext, HasSpace, HasContext, HasAlign, HasFlag}
use Rattle.meaning_attributes.specs.Meanings.{Meaning, Means, MeansNothing, IsBad, PassesLimit}
use Rattle.meaning_attributes.specs.Items.{meaning_of}
use Rattle.meaning_attributes.specs.Reading.{Refusal, HasLimit, first_bad, passes_limit}
use Rattle.c_attrs.specs.Seen.{context_seen}

-- why items are refused, if they are
abbrev pub refusal_of : List (List Tok) → Option Refusal
refusal_of items = if list_any (λ item. passes_limit (meaning_of item)) items then Some HasLimit else first_bad 0 items

-- why there are no attributes, if there are none
abbrev pub refusal_in : Result Attributes Refusal → Option Refusal
refusal_in (Ok attributes) = None
refusal_in (Err refusal) = Some refusal

-- the refusal that was found before, or else a later one
abbrev pub first_of : Option Refusal → Option Refusal → Option Refusal
first_of (Some found) later = Some found
first_of None later = later

-- the attributes with other contexts
abbrev pub replacing_contexts : Attributes → List FunctionContext → Attributes
replacing_contexts attributes contexts = record attributes { contexts = contexts }

-- the contexts of an attribute
abbrev pub contexts_with : Attribute → List FunctionContext
contexts_with (HasSpace space) = []
contexts_with (HasContext context) = context ∷ []
contexts_with (HasAlign align) = []
contexts_with (HasFlag flag) = []

-- the contexts of a meaning
abbrev pub contexts_meant : Meaning → List FunctionContext
contexts_meant (Means attribute) = contexts_with attribute
contexts_meant MeansNothing = []
contexts_meant (IsBad bad) = []
contexts_meant PassesLimit = []

-- the contexts that items mean, in their order
abbrev pub contexts_among : List (List Tok) → List FunctionContext
contexts_among [] = []
contexts_among (item ∷ items) = contexts_meant (meaning_of item) ++ contexts_among items

-- the one context, if there is one
abbrev pub contexts_of : Option ContextEntry → List FunctionContext
contexts_of None = []
contexts_of (Some entry) = context_seen entry ∷ []
