pub mod AddressText
pub mod MemberList
pub mod TimeSettings
pub mod Overlay
pub mod FieldLimits
pub mod Faults
