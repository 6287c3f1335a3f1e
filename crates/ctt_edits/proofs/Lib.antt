pub mod FaultLemmas
pub mod EditLemmas
mod SwapLemmas
pub mod LeastLemmas
pub mod MarkedRows
pub mod MateLemmas
mod PastLemmas
pub mod ReadLemmas
pub mod FrameLemmas
pub mod PriceFrame
pub mod PatternFrame
pub mod PatternReads
pub mod CallLemmas
pub mod CheapestLemmas
pub mod OfferOrder
pub mod OfferLemmas
pub mod OfferLaws
pub mod PriceOrder
pub mod PatternFaults
pub mod MissingLemmas
pub mod ReplyLemmas
pub mod SameLemmas
pub mod SameEdits
pub mod TableLemmas
pub mod OpeningLemmas
pub mod GatherLemmas
mod TaughtLemmas
