pub mod UnitLemmas
pub mod TextLemmas
pub mod PieceLemmas
pub mod LevelLemmas
