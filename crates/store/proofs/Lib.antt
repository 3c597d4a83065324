pub mod CardOut
