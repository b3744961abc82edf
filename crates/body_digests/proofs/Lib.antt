pub mod Sealing
mod Noting
