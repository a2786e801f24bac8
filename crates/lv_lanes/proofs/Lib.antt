pub mod AloneLemmas
pub mod ByteLaws
pub mod ByteLemmas
pub mod LaneLemmas
pub mod LoopLemmas
