-- Demand 3: UnitLaws is what the owner reads. StepLaws says what one offer does, OfferLaws the demand of lists of offers, LibraryLaws the same as an equation. The laws
-- behind them: of the calls in CallLaws, of a series of updates in SeriesLaws, of a unit's cell in StandsLaws.
pub mod CallLaws
pub mod SeriesLaws
pub mod StandsLaws
pub mod UnitLaws
pub mod StepLaws
pub mod OfferLaws
pub mod LibraryLaws
