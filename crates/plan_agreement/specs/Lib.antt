pub mod AgreementLaws
pub mod Agreements
pub mod DescentLaws
pub mod Descents
pub mod SameNodes
