pub mod NumberLaws
mod ChannelLaws
