pub mod Calls
pub mod Contents
pub mod Counts
pub mod FileCalls
pub mod Moments
pub mod NamedFiles
pub mod SinkBytes
pub mod CountsAlone
