pub mod OneByOne
pub mod CountingSlots
pub mod ClassNames
pub mod TypeSpellings
pub mod DescriptorSpellings
pub mod OneSpelling
