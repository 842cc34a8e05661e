-- Laws of `items`: what the crates above may use is in ListsLaws, CursorLaws, PartLaws, IdentityLaws, FrontLaws, ItemLaws and Promise.
pub mod KindLaws
pub mod ListsLaws
pub mod CursorLaws
pub mod PartLaws
pub mod CountLaws
pub mod IdentityLaws
pub mod FrontLaws
pub mod ItemLaws
pub mod Promise
