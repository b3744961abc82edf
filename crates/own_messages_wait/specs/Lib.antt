pub mod OwnStatuses
