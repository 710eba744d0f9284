pub mod Seen
pub use Rattle.meaning_literals.specs.Constants
pub use Rattle.meaning_literals.specs.Integers
pub use Rattle.meaning_literals.specs.Quoted
