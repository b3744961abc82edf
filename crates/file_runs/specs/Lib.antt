pub mod FileRuns
pub mod Sample
pub mod Traces
pub mod TraceRuns
