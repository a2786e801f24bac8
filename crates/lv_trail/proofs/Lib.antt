pub mod ListLemmas
pub mod TrailLemmas
pub mod SeenLemmas
pub mod PartLemmas
pub mod AnalysisLemmas
pub mod ShorterLemmas
pub mod CutLemmas
