pub mod Monomials
pub mod Collecting
pub mod Bounding
pub mod Origins
pub mod Order
pub mod Gathering
