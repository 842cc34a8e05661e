-- Laws of `topology`: the notes as the code writes them, what is asked of all items as their words and notes answer it, and the walk over all
-- items.
pub mod BesideLaws
pub mod NotesLaws
pub mod BytesLaws
pub mod ReachLaws
pub mod TopologyLaws
pub mod QuickLaws
pub mod SeenLaws
