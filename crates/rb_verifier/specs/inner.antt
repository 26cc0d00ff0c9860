pub mod ChangedValues
pub mod KeptList
pub mod StackReach
pub mod ValueJoins
pub mod Sweep
