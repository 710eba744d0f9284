-- The parts of the unit one behind the other.
use Rattle.std.proofs.Common.{◌≡◌, ℕ, List, length, All, sym, ap, subst, ◌∙◌}
use Rattle.sparse_model.specs.declared.ids.NameId.{NameId}
use Rattle.c_tokens.specs.declared.token.Token.{Token}
use Rattle.c_tokens.specs.Seen.{IsKnown, spellings_of, toks_of}
use Rattle.c_tokens.specs.Spellings.{with_spellings}
use Rattle.c_directives.specs.Conditions.{AreKnown}
use Rattle.c_preproc.specs.Units.{failures_from}
use Rattle.unit_names.specs.Numbering.{spelled}
use Rattle.unit_names.specs.Same.{BeginsWithTokens, HasSpellings, IsSameUnit}
use Rattle.c_preproc.specs.declared.unit.UnitTokens.{UnitTokens}
use Rattle.unit_names.proofs.UnitLemmas.{failures-long, numbered-begins, numbered-same, numbered-table, same_long}
use Rattle.unit_names.proofs.unit.renumbered.Goals as goal

pub named_failures-requires : goal.named_failures-requires
named_failures-requires c =
    let unit = c.args.toks.now in
    ap length (c.as_slice-4.ensures ∙ c.requires.failures) ∙ failures-long 0 unit.undef_tokens
    ∙ sym
    (ap length c.as_slice-5.ensures.value
    ∙ same_long c.args.names.now c.tokens-2.new.self.table unit.undef_tokens c.in_ok-undef_tokens.undef_tokens.items
    (c.in_ok-undef_tokens.ensures.seen ∙ ap (toks_of c.args.names.now) c.as_slice-2.ensures))

pub returns-clause-same : goal.returns-clause-same
returns-clause-same c =
    let names = c.args.names.now in
    let unit = c.args.toks.now in
    let first = c.tokens.new.self.table in
    let second = c.tokens-2.new.self.table in
    let third = c.paths.new.self.table in
    let tokens = c.from_vec.ensures in
    let undef_tokens = c.from_vec-3.ensures in
    let files = c.from_vec-4.ensures in
    let other : UnitTokens =
    record { tokens = c.from_vec.result; undefs = c.from_vec-2.result; undef_tokens = c.from_vec-3.result; files = c.from_vec-4.result } in
    subst (λ (table : List (List ℕ)). IsSameUnit names table unit other) (sym c.into_table.ensures)
    (numbered-same names unit other first second third
    (record {
      next = c.tokens-2.ensures.keeps;
      last = c.paths.ensures.keeps;
      tokens_known = subst (λ (list : List Token). AreKnown first list) (sym tokens) c.in_ok-tokens.ensures.known;
      tokens = ap (toks_of first) tokens ∙ c.in_ok-tokens.ensures.seen ∙ ap (toks_of names) c.as_slice.ensures;
      undef_tokens_known = subst (λ (list : List Token). AreKnown second list) (sym undef_tokens) c.in_ok-undef_tokens.ensures.known;
      undef_tokens = ap (toks_of second) undef_tokens ∙ c.in_ok-undef_tokens.ensures.seen ∙ ap (toks_of names) c.as_slice-2.ensures;
      undefs =
          c.from_vec-2.ensures ∙ c.in_ok-undefs.ensures unit.undef_tokens (c.as_slice-4.ensures ∙ c.requires.failures)
          ∙ ap (failures_from 0) (c.as_slice-5.ensures.value ∙ sym undef_tokens);
      files_known = subst (λ (list : List NameId). All (IsKnown third) list) (sym files) c.in_ok-files.ensures.known;
      files = ap (spelled third) files ∙ c.in_ok-files.ensures.seen ∙ ap (spelled names) c.as_slice-3.ensures;
    }))

pub returns-clause-begins : goal.returns-clause-begins
returns-clause-begins c =
    let names = c.args.names.now in
    let toks = toks_of names c.args.toks.now.tokens in
    let first = c.tokens.new.self.table in
    let start = c.in_ok-numbering.numbering.table in
    let joins : first ≡ with_spellings start (spellings_of toks) =
    c.in_ok-tokens.ensures.table ∙ ap (λ (tokens : List Token). with_spellings start (spellings_of (toks_of names tokens))) c.as_slice.ensures in
    subst (λ (table : List (List ℕ)). BeginsWithTokens table c.len-told.result toks) (sym c.into_table.ensures)
    (numbered-begins toks start first c.tokens-2.new.self.table c.paths.new.self.table c.len-told.result c.in_ok-numbering.ensures.table joins
    c.tokens-2.ensures.keeps c.paths.ensures.keeps c.len-told.ensures.count)

pub returns-clause-table : goal.returns-clause-table
returns-clause-table c =
    let names = c.args.names.now in
    let unit = c.args.toks.now in
    let first = c.tokens.new.self.table in
    let second = c.tokens-2.new.self.table in
    let third = c.paths.new.self.table in
    let start = c.in_ok-numbering.numbering.table in
    let joins : first ≡ with_spellings start (spellings_of (toks_of names unit.tokens)) =
    c.in_ok-tokens.ensures.table ∙ ap (λ (tokens : List Token). with_spellings start (spellings_of (toks_of names tokens))) c.as_slice.ensures in
    let next : second ≡ with_spellings first (spellings_of (toks_of names unit.undef_tokens)) =
    c.in_ok-undef_tokens.ensures.table ∙ ap (λ (tokens : List Token). with_spellings first (spellings_of (toks_of names tokens))) c.as_slice-2.ensures in
    let last : third ≡ with_spellings second (spelled names unit.files) =
    c.in_ok-files.ensures.table ∙ ap (λ (files : List NameId). with_spellings second (spelled names files)) c.as_slice-3.ensures in
    subst (λ (table : List (List ℕ)). HasSpellings table (toks_of names unit.tokens) (toks_of names unit.undef_tokens) (spelled names unit.files)) (sym c.into_table.ensures)
    (numbered-table (toks_of names unit.tokens) (toks_of names unit.undef_tokens) (spelled names unit.files) start first second third
    c.in_ok-numbering.ensures.table joins next last)
