pub mod FacetLaws
