-- The laws of `listingrows`.
pub mod RecordsLaws
pub mod TextLaws
pub mod ListingLaws
