pub mod Kernel
pub mod Supervisor
pub mod Events
pub mod Laws
pub mod Progress
pub mod Witness
pub mod Careless
