pub mod Facet
