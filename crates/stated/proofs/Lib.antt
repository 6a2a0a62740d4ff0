pub mod Marks
pub mod AtColumn
pub mod Weighing
pub mod Ours
