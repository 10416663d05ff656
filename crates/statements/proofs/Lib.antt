pub mod Refusals
pub mod Construction
pub mod Bound
pub mod Plain
pub mod Full
pub mod Usual
pub mod Guards
pub mod Neighbours
pub mod Printed
pub mod Examples
mod Iff
mod Numbers
mod Reciprocals
mod Longer
mod Sizes
mod Units
mod Nodes
mod Tails
mod Bits
mod Built
mod Depends
mod Parts
mod Puts
mod Requested
mod TableLines
