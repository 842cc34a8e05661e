-- The laws of `headvalues`; Promise is of all fields but DSID.
pub mod TextLaws
pub mod DspmLaws
pub mod Promise
