use Rattle.std.proofs.Common.{◌≡◌, ◌-◌, Some, slice_get, slice_index_or, length, ap, sym, ◌∙◌, arith}
use Rattle.std.proofs.lemmas.Option.{slice_get-get_or}
use Rattle.number_sets.proofs.trie.Trie.branch.Goals as goal

-- the branch that is answered stands at its place
found : (c : goal.After-result-1) → slice_get c.args.self.now.branches.keys (c.args.set - 1073741825) ≡ Some (slice_index_or c.as_slice.result.now (c.args.set - 1073741825) (record { bit = 0; lower = 0; upper = 0 }))
found c =
    ap (λ l. slice_get l (c.args.set - 1073741825)) (sym c.as_slice.ensures.keys)
    ∙ slice_get-get_or c.as_slice.result.now (c.args.set - 1073741825) _ (omega (arith, ap length c.as_slice.ensures.keys, c.requires.stands, c.requires.has_one))

pub returns-clause-parts : goal.returns-clause-parts
returns-clause-parts c = c.requires.branches.parts c.args.set _ c.requires.has_one (found c)

pub returns-clause-bit : goal.returns-clause-bit
returns-clause-bit c = c.requires.branches.bits (c.args.set - 1073741825) _ (found c)
