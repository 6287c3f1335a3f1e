mod CutLemmas
pub mod MinutesLemmas
mod PartLemmas
mod RecoveryLemmas
mod TornLemmas
