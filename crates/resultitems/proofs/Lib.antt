-- Laws of `resultitems`: an item by where its record stands, and all items in the order of the walk.
pub mod EditedLaws
pub mod ItemLaws
pub mod SparedLaws
pub mod PlacesLaws
pub mod AllLaws
