-- Laws that the crates above lean on.
pub mod FirstLaws
pub mod DsidLaws
pub mod DssiLaws
pub mod PutLaws
