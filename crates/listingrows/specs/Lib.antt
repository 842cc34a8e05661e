-- The notions of `listingrows`, in the order in which a reader should meet them: the text, the listing whole, examples.
pub mod Text
pub mod Listing
pub mod Examples
