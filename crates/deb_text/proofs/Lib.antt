pub mod KeyLemmas
pub mod ListLemmas
pub mod MapLemmas
pub mod OptionLemmas
pub mod SortedLemmas
pub mod WordLemmas
