pub mod ReadingLemmas
mod ArchLemmas
mod CompleteLemmas
mod CutLemmas
mod FaultLemmas
mod FaultTurnLemmas
pub mod FrontLemmas
pub mod ReadBackLemmas
mod ScannerLemmas
mod SoundLemmas
mod TurnLemmas
mod VersionFormLemmas
pub mod PrintedLemmas
pub mod BegunLemmas
pub mod MapLemmas
pub mod PairLemmas
pub mod ReducedLemmas
pub mod StrayLemmas
pub mod NamedLemmas
mod ProvidedLemmas
