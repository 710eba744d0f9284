use Rattle.std.proofs.Common.{◌≡◌, ◌++◌, ◌∷◌, [], List, ℕ, Vec, Global, Some, true, false, length, map, slice_get, sym, ap, subst, ◌∙◌, arith, length-append}
use Rattle.std.proofs.lemmas.Bool.{both_ways}
use Rattle.std.proofs.lemmas.List.{length-map}
use Rattle.std.proofs.lemmas.Option.{slice_get_within}
use Rattle.c_tokens.proofs.SeenLemmas.{slice_get-append}
use Rattle.c_tokens.proofs.TableLemmas.{is_among-found, slice_get-position, spellings-insert_key, with_spelling-known, with_spelling-new, slice_get-last}
use Rattle.c_tokens.proofs.names.Names.look_up.Goals as goal

-- the spelling of a key
abbrev items : Vec ℕ Global → List ℕ
items key = key.items

pub returns-in-Some-clause-stands : goal.returns-in-Some-clause-stands
returns-in-Some-clause-stands c =
    subst (λ names. slice_get names c.in-Some.index ≡ Some c.args.text.now) c.self.view_is
    (slice_get-position items c.args.text.now c.self.inside.set.keys c.in-Some.index (sym c.in-Some.ensures.index))

pub returns-in-Some-clause-table : goal.returns-in-Some-clause-table
returns-in-Some-clause-table c =
    sym (with_spelling-known _ _ (is_among-found items c.args.text.now _ _ true c.self.view_is c.in-Some.ensures.found))

pub returns-then-index-ge-MAX_SPELLINGS-clause-again : goal.returns-then-index-ge-MAX_SPELLINGS-clause-again
returns-then-index-ge-MAX_SPELLINGS-clause-again c = λ among.
    absurd (both_ways _ (is_among-found items c.args.text.now _ _ false c.self.view_is c.in_default.ensures.found) among)

pub returns-in_err-spelling-clause-again : goal.returns-in_err-spelling-clause-again
returns-in_err-spelling-clause-again c = λ among.
    absurd (both_ways _ (is_among-found items c.args.text.now _ _ false c.self.view_is c.in_default.ensures.found) among)

pub returns-in_err-insert-clause-again : goal.returns-in_err-insert-clause-again
returns-in_err-insert-clause-again c = λ among.
    absurd (both_ways _ (is_among-found items c.args.text.now _ _ false c.self.view_is c.in_default.ensures.found) among)

-- the new table has the text as its last spelling
grown : (c : goal.In_ok-insert) → map items c.insert.new.self.keys ≡ c.args.self.now ++ c.args.text.now ∷ []
grown c =
    spellings-insert_key items c.args.text.now c.self.inside.set.keys _ c.in_ok-spelling.spelling c.in_ok-spelling.ensures.items (sym c.in_default.ensures.found) c.in_ok-insert.ensures.keys ∙ ap (λ names. names ++ c.args.text.now ∷ []) c.self.view_is

-- the length of the old table is the new id
old_length : (c : goal.In_ok-insert) → c.len-index.result ≡ length c.args.self.now
old_length c = c.len-index.ensures.len ∙ sym (length-map c.self.inside.set.keys items) ∙ ap length c.self.view_is

pub invariant_of-self-2 : goal.invariant_of-self-2
invariant_of-self-2 c =
    let first = subst (λ names. slice_get names 0 ≡ Some []) c.self.view_is c.self.invariant.0 in
    let kept = slice_get-append c.args.self.now (c.args.text.now ∷ []) 0 (slice_get_within c.args.self.now 0 [] first) in (
      ap (λ names. slice_get names 0) (grown c) ∙ kept ∙ first,
      omega (arith, ap length (grown c), length-append c.args.self.now (c.args.text.now ∷ []), length-map c.insert.new.self.keys items, old_length c),
    )

pub returns-clause-stands : goal.returns-clause-stands
returns-clause-stands c =
    ap (λ names. slice_get names c.len-index.result) (grown c) ∙ ap (slice_get (c.args.self.now ++ c.args.text.now ∷ [])) (old_length c) ∙ slice_get-last c.args.self.now c.args.text.now

pub returns-clause-table : goal.returns-clause-table
returns-clause-table c =
    grown c ∙ sym (with_spelling-new c.args.self.now c.args.text.now (is_among-found items c.args.text.now _ _ false c.self.view_is c.in_default.ensures.found))

pub returns-clause-known : goal.returns-clause-known
returns-clause-known c = omega (arith, ap length (grown c), length-append c.args.self.now (c.args.text.now ∷ []), old_length c)

pub returns-clause-keeps : goal.returns-clause-keeps
returns-clause-keeps c = (c.args.text.now ∷ [], grown c)
