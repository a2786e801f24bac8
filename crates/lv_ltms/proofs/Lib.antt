pub mod BoolLemmas
pub mod TrailLemmas
pub mod CountLemmas
pub mod LabelLemmas
mod RowLemmas
mod TraverseLemmas
pub mod FindLemmas
mod MeetLemmas
mod VisitLemmas
mod PairLemmas
mod NotedLemmas
mod FalsifyLemmas
mod SweepLemmas
mod SweepingLemmas
mod ShakenLemmas
mod SystemLemmas
mod StayLemmas
mod ReadLemmas
mod SupportLemmas
mod ReviseLemmas
mod AddLemmas
mod BlankLemmas
mod RestLemmas
mod PickLemmas
mod NetworkLemmas
mod KeepLemmas
mod UnwatchLemmas
mod CoreLemmas
