pub mod Least
pub mod Order
pub mod Rows
pub mod Judging
pub use Rattle.node_judge.specs.NamedTypes
pub use Rattle.judged_objects.specs.Kept
pub use Rattle.expr_judge.specs.Found
pub use Rattle.statement_judge.specs.Enclosing
