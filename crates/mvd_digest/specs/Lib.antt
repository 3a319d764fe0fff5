pub mod Counted
pub use Rattle.sha2.specs.Sha256
