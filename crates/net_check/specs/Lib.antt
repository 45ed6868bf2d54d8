pub mod Certificates
pub mod FirstFaults
