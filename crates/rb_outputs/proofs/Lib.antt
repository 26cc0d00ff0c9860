pub mod Segmented
pub mod LinesGiven
pub mod LineOutputs
