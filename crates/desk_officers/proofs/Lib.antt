pub mod EndLemmas
pub mod PinLemmas
pub mod MeaningLemmas
pub mod ProfileLemmas
