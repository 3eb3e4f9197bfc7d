pub mod Opening
pub mod Going
