pub mod Literals
pub mod Probing
pub mod Trial
pub mod Query
pub mod Laws
pub use Rattle.lv_search.specs as lv_search
pub use Rattle.lv_asking.specs as lv_asking
pub use Rattle.lv_search_zones.specs as lv_search_zones
