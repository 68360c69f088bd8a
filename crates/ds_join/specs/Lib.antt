pub mod Reading
pub mod Label
pub mod ItemTop
pub mod ItemTopLaws
pub mod ItemJoin
pub mod FloorStands
pub mod Count
