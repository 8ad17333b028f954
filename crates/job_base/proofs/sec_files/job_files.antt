pub mod Accepted
pub mod Loading
pub mod Reading
pub mod RecordFaults
