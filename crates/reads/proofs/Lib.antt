pub mod CellChecks
pub mod HeadChecks
pub mod Walk
pub mod PlacesNoted
pub mod ReadLies
