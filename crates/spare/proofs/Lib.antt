pub mod Erased
pub mod Tagging
pub mod NearestTags
pub mod Writables
pub mod ReadBack
pub mod WhyNotOurs
