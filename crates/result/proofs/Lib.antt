-- Laws of `result`: the walk while notes are put and while items are judged.
pub mod NotesLaws
pub mod FaultLaws
pub mod ClearLaws
pub mod WordedLaws
