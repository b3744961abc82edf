pub mod HeadLimits
pub mod HeadRows
pub mod HeldSets
pub mod HeldVersions
pub mod Puts
pub mod BodyOrder
mod WholeBodies
