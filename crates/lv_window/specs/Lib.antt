pub mod Trajectories
pub mod Possible
pub mod Walk
pub mod Joints
pub mod Laws
pub mod Worked
pub mod Known
pub mod Trial
pub mod Longer
pub mod Query
pub mod Lawful
pub use Rattle.lv_search.specs as lv_search
pub use Rattle.lv_search_zones.specs as lv_search_zones
