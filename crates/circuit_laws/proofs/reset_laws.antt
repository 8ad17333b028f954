pub mod ResetAgreement
pub mod ResetExist
pub mod ResetRuns
pub mod ResetTrees
pub mod ResetWeights
pub mod ResetWindows
