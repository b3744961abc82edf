pub mod HeadFits
