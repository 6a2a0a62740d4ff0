pub mod LawsSpans
pub mod LawsHeights
pub mod LawsInsert
pub mod LawsLists
pub mod LawsClosing
