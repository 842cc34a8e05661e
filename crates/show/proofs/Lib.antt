-- Laws of `show`: the record of a name in NamedLaws, what is seen of one file and of two in SightLaws, where a part lies in PlaceLaws, the order of
-- codes in CallLaws, what they come to in Promise and Exactly, that the sixteen bytes read as the answer in ShowReads, that the promise has one
-- answer in Only.
pub mod SightLaws
pub mod PlaceLaws
pub mod CallLaws
pub mod Promise
pub mod Exactly
pub mod ShowReads
pub mod Only
