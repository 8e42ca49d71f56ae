pub mod SumLaws
pub mod MeansLaws
pub mod FlagLaws
pub mod AgeLaws
pub mod ConstantsLaws
