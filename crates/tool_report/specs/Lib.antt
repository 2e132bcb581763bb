pub mod Comparisons
pub mod Nodes
pub mod Reports
pub mod Room
