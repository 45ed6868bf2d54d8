mod DraftSteps
mod DigitFronts
mod Scanning
mod FirstFields
mod Views
mod ShortFields
mod OpenFronts
mod Shortening
mod Words
mod Saying
mod Cutting
mod LineSteps
mod Fronts
mod Sizes
mod CertificateSound
mod CertificateComplete
mod CertificateReadLaws
pub mod Lists
mod Steps
mod Sound
pub mod Complete
mod OneProblem
mod ReadLaws
pub mod Decimals
pub mod WrittenLines
pub mod WriteLaws
mod Sending
mod CertificateLines
mod CertificateWriteLaws
mod Examples
pub mod Comments
pub mod Lengths
pub mod ReadBack
