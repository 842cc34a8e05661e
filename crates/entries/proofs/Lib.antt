-- Laws that the crates above lean on, one file for each notion.
pub mod TextLaws
pub mod EntryLaws
pub mod EntriesLaws
pub mod RulesLaws
pub mod PlaceLaws
pub mod WalkLaws
