-- What the layers' definitions share. Nothing of document 01 stands here.
pub mod Search
pub mod Count
pub mod Mask
pub mod List
pub mod Bytes
pub mod Number
pub mod LowFirst
pub mod Steps
