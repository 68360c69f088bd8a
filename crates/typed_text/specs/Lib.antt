pub mod Respelling
