pub mod NumberLaws
pub mod FieldLaws
pub mod LayoutLaws
pub mod FieldBytes
