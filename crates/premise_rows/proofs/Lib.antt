pub mod AndFile
pub mod FileNets
pub mod Examples
pub mod NoLimit
pub mod Certificates
pub mod Faulty
