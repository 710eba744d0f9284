use Rattle.std.proofs.Common.{◌≡◌, ◌++◌, ◌∷◌, [], false, true, length, take, refl, sym, ap, ◌∙◌, arith}
use Rattle.std.proofs.lemmas.List.{append-nil, map-append}
use Rattle.std.proofs.lemmas.List.Elements.{All-push, All-same}
use Rattle.std.proofs.lemmas.Option.{same_Some}
use Rattle.meaning_text.specs.Fronts.{AtEnd, AtNewLine, AtBlank, AtComment, AtToken, AtOpenComment, AtOpenLiteral}
use Rattle.meaning_text.specs.Tokens.{Tok, AtLineStart, OpenComment, OpenLiteral, behind_token}
use Rattle.meaning_text.specs.Lexing.{lexed_behind}
use Rattle.c_tokens.specs.declared.token.Token.{Token}
use Rattle.c_tokens.specs.Context.{context_of}
use Rattle.c_tokens.specs.Cursor.{remaining, ahead}
use Rattle.c_tokens.specs.Seen.{IsKnown, at_of, spellings_of, toks_of}
use Rattle.c_tokens.specs.Spellings.{with_spelling, with_spellings}
use Rattle.c_tokens.proofs.TableLemmas.{with_spellings-push}
use Rattle.c_tokens.proofs.SeenLemmas.{Extends-Extends, toks_of-push, AreKnown-push}
use Rattle.c_tokens.proofs.LexLemmas.{with_tokens, with_tokens-end, with_tokens-fault, found-before_front, found-over_token, front-taken, front-shorter, token-has_byte}
use Rattle.c_tokens.proofs.scanner.scan.Goals as goal

pub fronts-init : goal.fronts-init
fronts-init c =
    let none = c.new-tokens.ensures.items in
    record {
      done = ap (lexed_behind AtLineStart false) (sym c.new-cursor.ensures.all)
          ∙ ap (λ tokens. with_tokens (toks_of c.args.names.now tokens) (lexed_behind AtLineStart false (remaining c.new-cursor.result))) (sym none);
      count = omega (arith, c.new-tokens.ensures.len, c.new-cursor.ensures.within);
      file = c.new-cursor.ensures.file;
      files = λ k d within. absurd (omega (arith, ap length none));
      known = λ k d within. absurd (omega (arith, ap length none));
      joined = ap (λ tokens. with_spellings c.args.names.now (spellings_of (toks_of c.args.names.now tokens))) (sym none);
      keeps = ([], sym (append-nil c.args.names.now));
    }

pub returns-in-End-clause-tokens : goal.returns-in-End-clause-tokens
returns-in-End-clause-tokens c =
    let found = toks_of c.fronts.names c.fronts.tokens.items in
    found-before_front _ found (context_of c.fronts.context) c.fronts.space_before c.allows_header_name.result c.fronts.cursor AtEnd
    c.allows_header_name.ensures c.in-End.ensures c.fronts.invariant.done
    ∙ with_tokens-end found

pub returns-in-OpenComment-clause-fault : goal.returns-in-OpenComment-clause-fault
returns-in-OpenComment-clause-fault c =
    let found = toks_of c.fronts.names c.fronts.tokens.items in
    found-before_front _ found (context_of c.fronts.context) c.fronts.space_before c.allows_header_name.result c.fronts.cursor AtOpenComment
    c.allows_header_name.ensures c.in-OpenComment.ensures c.fronts.invariant.done
    ∙ with_tokens-fault found (OpenComment (at_of c.fronts.cursor.place))

pub returns-in-OpenLiteral-clause-fault : goal.returns-in-OpenLiteral-clause-fault
returns-in-OpenLiteral-clause-fault c =
    let found = toks_of c.fronts.names c.fronts.tokens.items in
    found-before_front _ found (context_of c.fronts.context) c.fronts.space_before c.allows_header_name.result c.fronts.cursor AtOpenLiteral
    c.allows_header_name.ensures c.in-OpenLiteral.ensures c.fronts.invariant.done
    ∙ with_tokens-fault found (OpenLiteral (at_of c.fronts.cursor.place))

pub fronts-smaller-in-NewLine : goal.fronts-smaller-in-NewLine
fronts-smaller-in-NewLine c =
    front-shorter c.allows_header_name.result (remaining c.fronts.cursor) (remaining c.next-cursor.result) AtNewLine c.in-NewLine.ensures refl c.next-cursor.ensures.behind

pub fronts-smaller-in-Blank : goal.fronts-smaller-in-Blank
fronts-smaller-in-Blank c =
    front-shorter c.allows_header_name.result (remaining c.fronts.cursor) (remaining c.next-cursor-in-Blank.result) AtBlank c.in-Blank.ensures refl c.next-cursor-in-Blank.ensures.behind

pub fronts-smaller-in-Comment : goal.fronts-smaller-in-Comment
fronts-smaller-in-Comment c =
    front-shorter c.allows_header_name.result (remaining c.fronts.cursor) (remaining c.skip-cursor.result) (AtComment c.in-Comment.count) c.in-Comment.ensures refl c.skip-cursor.ensures.behind

pub fronts-smaller : goal.fronts-smaller
fronts-smaller c =
    front-shorter c.allows_header_name.result (remaining c.fronts.cursor) (remaining c.in_ok-name.behind) (AtToken c.in-Token.kind c.in-Token.count) c.in-Token.ensures refl c.in_ok-name.ensures.behind

pub fronts-preserved-in-Comment : goal.fronts-preserved-in-Comment
fronts-preserved-in-Comment c =
    let before = c.fronts.invariant in
    let found = toks_of c.fronts.names c.fronts.tokens.items in
    let context = context_of c.fronts.context in
    record {
      done = found-before_front _ found context c.fronts.space_before c.allows_header_name.result c.fronts.cursor (AtComment c.in-Comment.count)
          c.allows_header_name.ensures c.in-Comment.ensures before.done
          ∙ ap (λ text. with_tokens found (lexed_behind context true text)) (sym c.skip-cursor.ensures.behind);
      count = omega (arith, before.count, c.skip-cursor.ensures.shorter);
      file = c.skip-cursor.ensures.file ∙ before.file;
      files = before.files;
      known = before.known;
      joined = before.joined;
      keeps = before.keeps;
    }

pub fronts-preserved : goal.fronts-preserved
fronts-preserved c =
    let before = c.fronts.invariant in
    let old = c.fronts.names in
    let found = toks_of old c.fronts.tokens.items in
    let context = context_of c.fronts.context in
    let cursor = c.fronts.cursor in
    let kind = c.in-Token.kind in
    let count = c.in-Token.count in
    let named = c.in_ok-name.ensures in
    let pushed = c.in_ok-push.ensures.items in
    let token : Token = record { kind = c.in-Token.kind; name = c.in_ok-name.name; place = cursor.place; space_before = c.fronts.space_before; line_start = c.is_line_start.result } in
    let spelled = take count (ahead cursor) in
    let after = c.named.new.names in
    let front = front-taken c.allows_header_name.result (remaining cursor) (AtToken kind count) c.in-Token.ensures refl in
    let bytes = token-has_byte cursor c.allows_header_name.result kind count c.in-Token.ensures in
    let grows =
    ap (toks_of after) pushed
    ∙ toks_of-push old after c.fronts.tokens.items token spelled named.keeps before.known named.stands
    ∙ ap (λ starts. found ++ record { kind = kind; text = spelled; at = at_of cursor.place; space_before = c.fronts.space_before; line_start = starts } ∷ []) c.is_line_start.ensures in
    record {
      done = found-over_token _ found _ context _ c.fronts.space_before (at_of cursor.place) (remaining cursor) (remaining c.in_ok-name.behind) kind count spelled
          (found-before_front _ found context c.fronts.space_before c.allows_header_name.result cursor (AtToken kind count) c.allows_header_name.ensures c.in-Token.ensures before.done)
          refl
          grows
          (c.behind-context.ensures ∙ ap (λ text. behind_token context kind text) (same_Some _ _ (sym c.spelling.ensures.stands ∙ named.stands)))
          named.behind;
      count = omega (arith, before.count, c.in_ok-push.ensures.len, named.shorter, front.0, bytes);
      file = named.file ∙ before.file;
      files = All-same (λ (t : Token). t.place.file ≡ c.args.file) _ _ pushed (All-push (λ (t : Token). t.place.file ≡ c.args.file) c.fronts.tokens.items token before.files before.file);
      known = All-same (λ (t : Token). IsKnown after t.name) _ _ pushed (AreKnown-push old _ c.fronts.tokens.items token named.keeps before.known named.known);
      joined = named.table
          ∙ ap (λ names. with_spelling names spelled) before.joined
          ∙ sym (with_spellings-push c.args.names.now (spellings_of found) spelled)
          ∙ sym (ap (λ toks. with_spellings c.args.names.now (spellings_of toks)) grows
          ∙ ap (with_spellings c.args.names.now) (map-append (λ (tok : Tok). tok.text) found _));
      keeps = Extends-Extends _ _ _ before.keeps named.keeps;
    }
