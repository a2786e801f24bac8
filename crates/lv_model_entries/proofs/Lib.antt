pub mod PlaceLists
pub mod FaultLists
