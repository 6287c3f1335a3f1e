pub mod PutLemmas
pub mod OrderLemmas
pub mod ApplyLemmas
pub mod CellLemmas
pub mod RoomLemmas
pub mod RowLemmas
pub mod CostLemmas
pub mod MoreLemmas
pub mod BetweenLemmas
pub mod HolderLemmas
mod AfterLemmas
pub mod LawfulLemmas
pub mod FitLemmas
mod ClashLemmas
pub mod SameLemmas
