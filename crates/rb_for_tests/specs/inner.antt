pub mod ListRingBody
