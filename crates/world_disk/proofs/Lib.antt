pub mod StoredRecords
mod Stopping
mod Rooms
mod Rewriting
mod Bodies
