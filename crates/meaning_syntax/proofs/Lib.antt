pub mod Readers
pub mod WordReading
pub mod ItemReading
pub mod UnitReading
pub mod Derivations
