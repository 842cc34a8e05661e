-- The small files, in the order in which a reader should meet them.
pub mod Records
pub mod SmallCell
pub mod SmallUpdates
pub mod SmallOffers
