use Rattle.std.proofs.Common.{◌≡◌, ◌+◌, ◌-◌, length, sym, subst, IfSome, Option, arith}
use Rattle.std.proofs.lemmas.List.Elements.{All-get_or, All-set}
use Rattle.vocabulary.specs.declared.token_kind.TokenKind.{TokenKind}
use Rattle.sparse_model.specs.declared.ids.NameId.{NameId}
use Rattle.c_tokens.specs.Seen.{IsKnown}
use Rattle.c_tokens.specs.declared.token.Token.{Token}
use Rattle.c_macros.specs.Reading.{HasName}
use Rattle.c_macros.proofs.GrowthLemmas.{ReadsNames-back, names-grown}
use Rattle.c_macros.proofs.PastingLemmas.{Holds-joined, Stops-bad, has_last, made-joined, none-joined}
use Rattle.c_macros.proofs.pasting.paste_item.Goals as goal

pub returns-in_default-clause-pasted : goal.returns-in_default-clause-pasted
returns-in_default-clause-pasted c = λ base left split r reads.
    let items = c.args.items.now.items in
    let last : (c.len-count.result - 1) + 1 ≡ length items = omega (arith, c.if-count-start.false, c.len-count.ensures, c.args.items.now.ok.0) in
    let has = has_last items base left c.args.start (c.len-count.result - 1) c.index-last.result.now split (omega (arith, c.if-count-start.false)) last c.index-last.ensures in
    let known : HasName c.args.names.now c.index-last.result.now = subst (HasName c.args.names.now) (sym c.index-last.ensures) (All-get_or (HasName c.args.names.now) items (c.len-count.result - 1) c.index-last.result.now (omega arith) c.requires.items) in
    Stops-bad r items base left (c.len-count.result - 1) c.args.most c.index-last.result.now c.args.item c.bad_paste.result has
    (none-joined c.args.names.now r (ReadsNames-back _ _ c.one_token.ensures.keeps r reads) _ _ known c.requires.item c.in_ok-kind.field-0 c.in_default.is c.in_ok-kind.ensures.kind)
    c.bad_paste.ensures

pub returns-clause-pasted : goal.returns-clause-pasted
returns-clause-pasted c = λ base left split r reads.
    let items = c.args.items.now.items in
    let last : (c.len-count.result - 1) + 1 ≡ length items = omega (arith, c.if-count-start.false, c.len-count.ensures, c.args.items.now.ok.0) in
    let has = has_last items base left c.args.start (c.len-count.result - 1) c.index-last.result.now split (omega (arith, c.if-count-start.false)) last c.index-last.ensures in
    let known : HasName c.args.names.now c.index-last.result.now = subst (HasName c.args.names.now) (sym c.index-last.ensures) (All-get_or (HasName c.args.names.now) items (c.len-count.result - 1) c.index-last.result.now (omega arith) c.requires.items) in
    Holds-joined r items base left c.args.start (c.len-count.result - 1) c.index-last.result.now c.args.item c.pasted_item.result split has
    (made-joined c.args.names.now c.one_token.new.names r (ReadsNames-back _ _ c.one_token.ensures.keeps r reads) reads c.index-last.result.now c.args.item c.pasted_item.result known c.requires.item
    c.in_ok-kind.field-0 c.in-Some.kind c.in-Some.name c.in-Some.is c.in_ok-kind.ensures.kind c.in_ok-kind.ensures.spelled c.in_ok-kind.ensures.known c.pasted_item.ensures.token c.pasted_item.ensures.set)

pub returns-clause-known : goal.returns-clause-known
returns-clause-known c =
    let name : IsKnown c.one_token.new.names c.in-Some.name = subst (λ (found : Option (TokenKind × NameId)). IfSome found (λ one. IsKnown c.one_token.new.names one.1)) c.in-Some.is c.in_ok-kind.ensures.known in
    All-set (HasName c.one_token.new.names) c.args.items.now.items (c.len-count.result - 1) c.pasted_item.result
    (subst (λ (token : Token). IsKnown c.one_token.new.names token.name) (sym c.pasted_item.ensures.token) name)
    (names-grown _ _ c.one_token.ensures.keeps c.args.items.now.items c.requires.items)
