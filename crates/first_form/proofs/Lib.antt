pub mod OneByOne
pub mod Headline
