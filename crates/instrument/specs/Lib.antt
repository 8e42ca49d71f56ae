pub mod Instrument
