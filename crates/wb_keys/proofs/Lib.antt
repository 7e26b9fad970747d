pub mod FileLemmas
pub mod LineLemmas
pub mod RightLemmas
pub mod SoundLemmas
