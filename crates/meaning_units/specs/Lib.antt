pub mod UnitRows
pub mod WholeRows
pub mod WholeRules
pub mod Laws
