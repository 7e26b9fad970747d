pub mod FieldLemmas
pub mod HeadLemmas
pub mod LineLemmas
pub mod NumberLemmas
pub mod StreamLemmas
