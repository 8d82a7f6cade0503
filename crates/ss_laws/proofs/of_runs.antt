pub mod SignedOnce
pub mod OnceAhead
pub mod cases
