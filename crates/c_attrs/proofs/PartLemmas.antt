-- The contexts of attributes, apart from what else they say.
use Rattle.std.proofs.Common.{◌≡◌, Some, None, List, [], ◌∷◌, ◌++◌, refl, sym, ap, ◌∙◌, append_assoc}
use Rattle.std.proofs.lemmas.List.{append-nil}
use Rattle.meaning_text.specs.Tokens.{Tok}
use Rattle.meaning_attributes.specs.Attributes.{Attribute, Attributes, FunctionContext, HasSpace, HasContext, HasAlign, HasFlag, with_attribute}
use Rattle.meaning_attributes.specs.Words.{NoderefFlag, BitwiseFlag, ForceFlag, PackedFlag, NoreturnFlag}
use Rattle.meaning_attributes.specs.Meanings.{Meaning, Means, MeansNothing, IsBad, PassesLimit}
use Rattle.meaning_attributes.specs.Items.{attribute_meant, attribute_of, meaning_of}
use Rattle.meaning_attributes.specs.Reading.{with_items, with_meaning}
use Rattle.c_attrs.specs.Parts.{contexts_among, contexts_meant, contexts_with, replacing_contexts}

-- other contexts stand before those of an attribute
with_attribute-contexts : (before : Attributes) (contexts : List FunctionContext) (attribute : Attribute) → with_attribute (replacing_contexts before contexts) attribute ≡ replacing_contexts (with_attribute before attribute) (contexts ++ contexts_with attribute)
with_attribute-contexts before contexts (HasSpace space) = ap (replacing_contexts (with_attribute before (HasSpace space))) (sym (append-nil contexts))
with_attribute-contexts before contexts (HasContext context) = refl
with_attribute-contexts before contexts (HasAlign align) = ap (replacing_contexts (with_attribute before (HasAlign align))) (sym (append-nil contexts))
with_attribute-contexts before contexts (HasFlag NoderefFlag) = ap (replacing_contexts (with_attribute before (HasFlag NoderefFlag))) (sym (append-nil contexts))
with_attribute-contexts before contexts (HasFlag BitwiseFlag) = ap (replacing_contexts (with_attribute before (HasFlag BitwiseFlag))) (sym (append-nil contexts))
with_attribute-contexts before contexts (HasFlag ForceFlag) = ap (replacing_contexts (with_attribute before (HasFlag ForceFlag))) (sym (append-nil contexts))
with_attribute-contexts before contexts (HasFlag PackedFlag) = ap (replacing_contexts (with_attribute before (HasFlag PackedFlag))) (sym (append-nil contexts))
with_attribute-contexts before contexts (HasFlag NoreturnFlag) = ap (replacing_contexts (with_attribute before (HasFlag NoreturnFlag))) (sym (append-nil contexts))

with_meaning-contexts : (before : Attributes) (contexts : List FunctionContext) (meaning : Meaning) → with_meaning (replacing_contexts before contexts) meaning ≡ replacing_contexts (with_meaning before meaning) (contexts ++ contexts_meant meaning)
with_meaning-contexts before contexts (Means attribute) = with_attribute-contexts before contexts attribute
with_meaning-contexts before contexts MeansNothing = ap (replacing_contexts before) (sym (append-nil contexts))
with_meaning-contexts before contexts (IsBad bad) = ap (replacing_contexts before) (sym (append-nil contexts))
with_meaning-contexts before contexts PassesLimit = ap (replacing_contexts before) (sym (append-nil contexts))

-- other contexts stand before those of items
with_items-contexts : (items : List (List Tok)) (before : Attributes) (contexts : List FunctionContext) → with_items (replacing_contexts before contexts) items ≡ replacing_contexts (with_items before items) (contexts ++ contexts_among items)
with_items-contexts [] before contexts = ap (replacing_contexts before) (sym (append-nil contexts))
with_items-contexts (item ∷ items) before contexts =
    let meaning = meaning_of item in
    ap (λ attributes. with_items attributes items) (with_meaning-contexts before contexts meaning)
    ∙ with_items-contexts items (with_meaning before meaning) (contexts ++ contexts_meant meaning)
    ∙ ap (replacing_contexts (with_items (with_meaning before meaning) items)) (append_assoc contexts (contexts_meant meaning) (contexts_among items))

-- whatever the contexts were, items make the same of the rest
pub others-alike : (before set : Attributes) (items : List (List Tok)) → set ≡ replacing_contexts before set.contexts → (contexts : List FunctionContext) → replacing_contexts (with_items set items) contexts ≡ replacing_contexts (with_items before items) contexts
others-alike before set items is contexts =
    ap (λ attributes. replacing_contexts (with_items attributes items) contexts) is
    ∙ ap (λ attributes. replacing_contexts attributes contexts) (with_items-contexts items before set.contexts)

-- an item that means nothing sets nothing, and another one its attribute
pub with_meaning-none : (before : Attributes) (meaning : Meaning) → attribute_meant meaning ≡ None → with_meaning before meaning ≡ before
with_meaning-none before (Means attribute) none = cc
with_meaning-none before MeansNothing none = refl
with_meaning-none before (IsBad bad) none = refl
with_meaning-none before PassesLimit none = refl

pub with_meaning-some : (before : Attributes) (meaning : Meaning) (attribute : Attribute) → attribute_meant meaning ≡ Some attribute → with_meaning before meaning ≡ with_attribute before attribute
with_meaning-some before (Means other) attribute some = let same : other ≡ attribute = cc in ap (with_attribute before) same
with_meaning-some before MeansNothing attribute some = cc
with_meaning-some before (IsBad bad) attribute some = cc
with_meaning-some before PassesLimit attribute some = cc

-- contexts that were pushed first, and what was set behind them, are what the items come to
pub parts-whole : (before pushed after : Attributes) (items : List (List Tok)) → pushed ≡ replacing_contexts before (before.contexts ++ contexts_among items)
    → ((contexts : List FunctionContext) → replacing_contexts after contexts ≡ replacing_contexts (with_items pushed items) contexts) → after.contexts ≡ pushed.contexts
    → with_items before items ≡ after
parts-whole before pushed after items is others kept =
    let contexts = before.contexts ++ contexts_among items in
    let same : after.contexts ≡ contexts = kept ∙ ap (λ (attributes : Attributes). attributes.contexts) is in
    with_items-contexts items before before.contexts
    ∙ sym (others-alike before pushed items (is ∙ ap (replacing_contexts before) (ap (λ (attributes : Attributes). attributes.contexts) (sym is))) contexts)
    ∙ sym (others contexts)
    ∙ ap (replacing_contexts after) (sym same)

-- what an item sets, and what those behind it make of that
pub set-behind : (before set : Attributes) (attribute : Attribute) (item : List Tok) (items others : List (List Tok)) → items ≡ item ∷ others → attribute_of item ≡ Some attribute → set ≡ replacing_contexts (with_attribute before attribute) before.contexts
    → (contexts : List FunctionContext) → replacing_contexts (with_items set others) contexts ≡ replacing_contexts (with_items before items) contexts
set-behind before set attribute item items others cut means is contexts =
    let meant = with_meaning before (meaning_of item) in
    let same : set ≡ replacing_contexts meant before.contexts =
    is ∙ ap (λ attributes. replacing_contexts attributes before.contexts) (sym (with_meaning-some before (meaning_of item) attribute means)) in
    others-alike meant set others (same ∙ ap (replacing_contexts meant) (ap (λ (attributes : Attributes). attributes.contexts) (sym same))) contexts
    ∙ ap (λ all. replacing_contexts (with_items before all) contexts) (sym cut)

pub unset-behind : (before : Attributes) (item : List Tok) (items others : List (List Tok)) → items ≡ item ∷ others → attribute_of item ≡ None
    → (contexts : List FunctionContext) → replacing_contexts (with_items before others) contexts ≡ replacing_contexts (with_items before items) contexts
unset-behind before item items others cut means contexts =
    ap (λ attributes. replacing_contexts (with_items attributes others) contexts) (sym (with_meaning-none before (meaning_of item) means))
    ∙ ap (λ all. replacing_contexts (with_items before all) contexts) (sym cut)
