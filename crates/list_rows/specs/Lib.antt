pub mod ListRows
pub mod ListSteps
pub mod Examples
