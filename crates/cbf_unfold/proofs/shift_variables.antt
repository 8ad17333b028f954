pub mod Assignments
pub mod ShiftOrder
pub mod Reading
pub mod Standing
pub mod CycleRows
pub mod TwoFunctions
