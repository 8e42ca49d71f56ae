pub mod Parts
pub mod OpeningLaws
pub mod RangeLaws
pub mod Zeros
pub mod PairLaws
