-- What is known of the items of a result while they are judged.
pub mod Cleared
