-- The demands' theorems, and the laws behind them: ReadsBack, Judge, Admit, Updated, Apply, Written and Needs are what the owner reads.
pub mod FileLaws
pub mod TopologyLaws
pub mod SoundLaws
pub mod AllLaws
pub mod HeldBytes
pub mod ChartBytes
pub mod ReadsBack
pub mod Judge
pub mod Admit
pub mod Updated
pub mod Apply
pub mod Written
pub mod Needs
pub mod Whole
