pub mod Writing
mod Reaching
pub mod Stopping
pub mod PayloadLemmas
mod PieceLemmas
pub mod GateLemmas
pub mod CreationLemmas
pub mod CompactLemmas
pub mod OneText
pub mod Shown
