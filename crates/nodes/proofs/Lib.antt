pub mod Laws
pub mod Powers
pub mod Nodes
pub mod Forms
