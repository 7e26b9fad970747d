pub mod BadPlaceLemmas
pub mod CutLemmas
pub mod LawLemmas
pub mod NumberLemmas
pub mod OrderLemmas
pub mod PartOrderLemmas
pub mod ReadingLemmas
pub mod VersionGrammarLemmas
