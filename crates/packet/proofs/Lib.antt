pub mod Bit
pub mod Back
pub mod Sizes
pub mod Counts
pub mod Moved
pub mod Cutting
pub mod Shapes
