pub mod LinesLemmas
pub mod ShownLemmas
pub mod NumberedLemmas
