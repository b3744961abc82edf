pub mod SameId
