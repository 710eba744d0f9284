pub mod IntegerLemmas
pub mod ValueLemmas
pub mod SpanLemmas
pub mod ListLemmas
pub mod KeptLemmas
pub mod NameLemmas
