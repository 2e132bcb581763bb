pub mod HeadLemmas
pub mod PlaceLemmas
