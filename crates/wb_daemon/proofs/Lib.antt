pub mod AnswerLemmas
pub mod AnsweredLemmas
pub mod ReplayedLemmas
pub mod ReportLemmas
pub mod RunLemmas
pub mod SingleLemmas
pub mod TellLemmas
pub mod WordsLemmas
