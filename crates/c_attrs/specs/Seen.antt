-- How the values of this crate are seen by the definitions of `meaning_attributes`.
use Rattle.std.specs.Prelude.{ℕ, ℤ, List, map, Result, Ok, Err}
use Rattle.sparse_model.specs.declared.space.Space.{Space}
use Rattle.sparse_model.specs.declared.space.Space.TheVariants as spaces
use Rattle.sparse_model.specs.declared.context.ContextEntry.{ContextEntry}
use Rattle.meaning_text.specs.Tokens.{Tok}
use Rattle.meaning_types.specs.Types as types
use Rattle.meaning_attributes.specs.Tokens.{without_extensions}
use Rattle.meaning_attributes.specs.Words as words
use Rattle.meaning_attributes.specs.Attributes as attributes
use Rattle.meaning_attributes.specs.Meanings as meanings
use Rattle.meaning_attributes.specs.Contexts as contexts
use Rattle.meaning_attributes.specs.Reading.{Refusal, HasBad, HasLimit}
use Rattle.c_tokens.specs.declared.token.Token.{Token}
use Rattle.c_tokens.specs.Seen.{text_of, toks_of}
use Rattle.c_attrs.specs.declared.attribute.Flag.{Flag}
use Rattle.c_attrs.specs.declared.attribute.Flag.TheVariants.{Noderef, Bitwise, Force, Packed, Noreturn}
use Rattle.c_attrs.specs.declared.attribute.Attribute.{Attribute}
use Rattle.c_attrs.specs.declared.attribute.Attribute.TheVariants as attribute
use Rattle.c_attrs.specs.declared.attribute.Attrs.{Attrs}
use Rattle.c_attrs.specs.declared.fault.AttrFault.{AttrFault}
use Rattle.c_attrs.specs.declared.fault.AttrFault.TheVariants.{BadSpace, BadContext, BadAlign, StepLimit}
use Rattle.c_attrs.specs.declared.fault.ChangeFault.{ChangeFault}
use Rattle.c_attrs.specs.declared.fault.ChangeFault.TheVariants as changes

-- the tokens that mean something: all but each `__extension__`
abbrev pub significant : List (List ℕ) → List Token → List Tok
significant names tokens = without_extensions (toks_of names tokens)

abbrev pub space_seen : List (List ℕ) → Space → types.Space
space_seen names spaces.None = types.NoSpace
space_seen names (spaces.Number number) = types.NumberedSpace number
space_seen names (spaces.Named id) = types.NamedSpace (text_of names id)

abbrev pub flag_seen : Flag → words.Flag
flag_seen Noderef = words.NoderefFlag
flag_seen Bitwise = words.BitwiseFlag
flag_seen Force = words.ForceFlag
flag_seen Packed = words.PackedFlag
flag_seen Noreturn = words.NoreturnFlag

abbrev pub context_seen : ContextEntry → attributes.FunctionContext
context_seen entry = record { enters = entry.enters; leaves = entry.leaves }

abbrev pub attribute_seen : List (List ℕ) → Attribute → attributes.Attribute
attribute_seen names (attribute.Space space) = attributes.HasSpace (space_seen names space)
attribute_seen names (attribute.Context entry) = attributes.HasContext (context_seen entry)
attribute_seen names (attribute.Align align) = attributes.HasAlign align
attribute_seen names (attribute.Flag flag) = attributes.HasFlag (flag_seen flag)

-- what the attributes that were read come to
abbrev pub attrs_seen : List (List ℕ) → Attrs → attributes.Attributes
attrs_seen names attrs =
    record {
      space = space_seen names attrs.space;
      noderef = attrs.noderef;
      bitwise = attrs.bitwise;
      force = attrs.force;
      contexts = map context_seen attrs.contexts;
      packed = attrs.packed;
      align = attrs.align;
      noreturn = attrs.noreturn;
    }

-- the fault of an item that is bad, whose word has this index
abbrev pub fault_at : meanings.Bad → ℕ → AttrFault
fault_at meanings.BadSpace index = BadSpace index
fault_at meanings.BadContext index = BadContext index
fault_at meanings.BadAlign index = BadAlign index

-- the fault that tells of a refusal; want of memory tells of none
abbrev pub fault_telling : Refusal → AttrFault
fault_telling (HasBad bad index) = fault_at bad index
fault_telling HasLimit = StepLimit

abbrev pub change_fault_seen : ChangeFault → contexts.ChangeFault
change_fault_seen changes.Bad = contexts.BadChange
change_fault_seen changes.StepLimit = contexts.ChangePassesLimit

abbrev pub change_seen : Result ℤ ChangeFault → Result ℤ contexts.ChangeFault
change_seen (Ok change) = Ok change
change_seen (Err fault) = Err (change_fault_seen fault)
