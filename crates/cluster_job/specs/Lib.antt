pub mod Opening
pub mod Registering
pub mod Parting
pub mod Phases
pub mod Cluster
