pub mod Avoids
