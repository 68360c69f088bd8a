pub mod Pair
pub mod ByRs
pub mod Owed
pub mod Serving
pub mod Turns
pub mod Laws
pub mod Renewing
pub mod Lending
