pub mod UnitRows
pub mod WholeFacts
pub mod WholeRules
pub mod Laws
