pub mod InterpolationLaws
