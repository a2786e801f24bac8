-- Literals each once: what is known of those looked at so far.
pub use Rattle.lv_asking.proofs.OnceLemmas.{IsNotedOnce, none_noted, distinct_more}
