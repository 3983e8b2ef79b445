pub mod Certificate
pub mod Checking
pub mod Choosing
pub mod Top
