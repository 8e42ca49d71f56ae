pub mod Layouts
pub mod KeptValues
pub mod AlikeChannels
