pub mod SeenLemmas
pub mod TextLineLemmas
