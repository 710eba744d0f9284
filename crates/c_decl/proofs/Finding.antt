-- A tag is found, or bound.
use Rattle.std.proofs.Common.{◌≡◌, ℕ}
use Rattle.meaning_derivation.specs.Scoping.{bound}
