-- Worked examples.
pub mod Rows
pub mod DirectiveRows
pub mod MacroRows
pub mod IncludeRows
