pub mod FrontLaws
pub mod NumberLaws
pub mod InsideLaws
pub mod WindowLaws
pub mod ReadBack
pub mod StateLaws
pub mod PutLaws
pub mod Plain
